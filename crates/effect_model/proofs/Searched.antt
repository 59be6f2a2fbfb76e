-- The first tuple that passes a test, looked for element by element.
use Rattle.std.proofs.Common.{◌≡◌, inl, inr, ℕ, zero, suc, ◌+◌, ◌<◌, ◌≤◌, Bool, true, false, List, [], ◌∷◌, ◌++◌, map, take, drop, length, get_or, is_some, refl, sym, ap, ◌∙◌, subst, arith, add-one, append_assoc, Option, Some, None}
use Rattle.std.specs.List.{find, flat_map}
use Rattle.std.specs.Option.{option_or}
use Rattle.std.proofs.lemmas.List.{append-nil, map-append}
use Rattle.std.proofs.lemmas.List.Folds.{find-append}
use Rattle.std.proofs.lemmas.List.Concat.{flat_map-append}
use Rattle.std.proofs.lemmas.Bool.{cases_lt}
use Rattle.spec_model.specs.declared.clause.Clause.{Clause}
use Rattle.spec_model.specs.declared.instance.Inst.{Inst}
use Rattle.spec_model.specs.declared.operation.Line.{Line}
use Rattle.spec_model.specs.declared.spec.Spec.{Spec}
use Rattle.spec_model.specs.Breaks.{breaks_at}
use Rattle.spec_model.specs.Truths.{Truths, Within, op_at}
use Rattle.spec_model.specs.Universe.{below, tuples}
use Rattle.effect_model.specs.Pruning.{clause_may, tuples_behind}
use Rattle.effect_model.proofs.Pruned.{none_broken}
use Rattle.effect_model.proofs.Walks.{gap}

-- the tuples that begin with a number below x
abbrev pub tuples_upto : List ℕ → List ℕ → ℕ → List (List ℕ)
tuples_upto front others x = map (λ xs. front ++ xs) (flat_map (λ y. map (λ xs. y ∷ xs) (tuples others)) (below x))

-- the numbers below n begin with those below x
below_parts : (n x : ℕ) → x ≤ n → (rest : List ℕ) × (below n ≡ below x ++ rest)
below_parts zero x le = let same : zero ≡ x = omega arith in ([], ap below same ∙ sym (append-nil (below x)))
below_parts (suc n) x le = elim (cases_lt n x) [
  | inl more ↦ let same : suc n ≡ x = omega arith in ([], ap below same ∙ sym (append-nil (below x)))
  | inr less ↦ let r = below_parts n x less in (r.0 ++ n ∷ [], ap (λ (ns : List ℕ). ns ++ n ∷ []) r.1 ∙ append_assoc (below x) r.0 (n ∷ []))
]

abbrev with_first : List ℕ → ℕ → List (List ℕ)
with_first others y = map (λ xs. y ∷ xs) (tuples others)

upto_parts : (front others : List ℕ) (n x : ℕ) → x ≤ n → (rest : List (List ℕ)) × (tuples_upto front others n ≡ tuples_upto front others x ++ rest)
upto_parts front others n x le =
    let r = below_parts n x le in (
      map (λ xs. front ++ xs) (flat_map (with_first others) r.0),
      ap (λ (ns : List ℕ). map (λ xs. front ++ xs) (flat_map (with_first others) ns)) r.1
          ∙ ap (map (λ (xs : List ℕ). front ++ xs)) (flat_map-append (with_first others) (below x) r.0)
          ∙ map-append (λ (xs : List ℕ). front ++ xs) (flat_map (with_first others) (below x)) (flat_map (with_first others) r.0),
    )

map_behind : (front : List ℕ) (x : ℕ) (ts : List (List ℕ)) → map (λ xs. front ++ xs) (map (λ xs. x ∷ xs) ts) ≡ map (λ xs. (front ++ x ∷ []) ++ xs) ts
map_behind front x [] = refl
map_behind front x (t ∷ ts) = rw (← append_assoc front (x ∷ []) t, map_behind front x ts) refl

upto_more : (front others longer : List ℕ) (x : ℕ) → longer ≡ front ++ x ∷ [] → tuples_upto front others (x + 1) ≡ tuples_upto front others x ++ tuples_behind longer others
upto_more front others longer x is =
    ap (tuples_upto front others) (add-one x)
    ∙ ap (map (λ (xs : List ℕ). front ++ xs)) (flat_map-append (with_first others) (below x) (x ∷ []) ∙ ap (λ (ts : List (List ℕ)). flat_map (with_first others) (below x) ++ ts) (append-nil (with_first others x)))
    ∙ map-append (λ (xs : List ℕ). front ++ xs) (flat_map (with_first others) (below x)) (with_first others x)
    ∙ ap (λ (ts : List (List ℕ)). tuples_upto front others x ++ ts) (map_behind front x (tuples others) ∙ ap (λ (f : List ℕ). tuples_behind f others) (sym is))

-- none of those so far, and none that begins with the next element
pub none_more : (p : List ℕ → Bool) (front others longer : List ℕ) (x : ℕ) (found : Option (List ℕ)) → longer ≡ front ++ x ∷ [] → find p (tuples_upto front others x) ≡ None → found ≡ find p (tuples_behind longer others) → is_some found ≡ false → find p (tuples_upto front others (x + 1)) ≡ None
none_more p front others longer x found is before now none =
    ap (find p) (upto_more front others longer x is) ∙ find-append p (tuples_upto front others x) (tuples_behind longer others)
    ∙ ap (λ (o : Option (List ℕ)). option_or o (find p (tuples_behind longer others))) before ∙ sym now ∙ is_none found none
  where
    is_none : (o : Option (List ℕ)) → is_some o ≡ false → o ≡ None
    is_none None e = refl
    is_none (Some x) e = absurd cc

-- none that begins with an element from one on up to another
none_over : (p : List ℕ → Bool) (front others : List ℕ) (from more : ℕ) → ((x : ℕ) → from ≤ x → x < from + more → find p (tuples_behind (front ++ x ∷ []) others) ≡ None) → find p (tuples_upto front others from) ≡ None → find p (tuples_upto front others (from + more)) ≡ None
none_over p front others from zero none before = let e : from ≡ from + 0 = omega arith in subst (λ n. find p (tuples_upto front others n) ≡ None) e before
none_over p front others from (suc more) none before =
    let x = from + more in
    let e : x + 1 ≡ from + suc more = omega arith in
    let here = none x (omega arith) (omega arith) in
    subst (λ n. find p (tuples_upto front others n) ≡ None) e (none_more p front others (front ++ x ∷ []) x None refl (none_over p front others from more (λ y le lt. none y le (omega (arith, lt))) before) (sym here) refl)

none_to : (p : List ℕ → Bool) (front others : List ℕ) (from to : ℕ) → from ≤ to → ((x : ℕ) → from ≤ x → x < to → find p (tuples_behind (front ++ x ∷ []) others) ≡ None) → find p (tuples_upto front others from) ≡ None → find p (tuples_upto front others to) ≡ None
none_to p front others from to le none before =
    let g = gap from to le in
    subst (λ n. find p (tuples_upto front others n) ≡ None) (sym g.1) (none_over p front others from g.0 (λ x ge lt. none x ge (omega (arith, lt, g.1))) before)

-- none where no line may make a literal of the clause false
pub none_until : (spec : Spec) (inst : Inst) (s : Truths) (c : Clause) (front others : List ℕ) (lines : List Line) (from next to : ℕ) → lines ≡ (op_at spec inst.op).lines → ((x : ℕ) → from ≤ x → x < next → clause_may inst lines (front ++ x ∷ []) c ≡ false) → from ≤ to → to ≤ next
    → find (breaks_at spec inst s c) (tuples_upto front others from) ≡ None → find (breaks_at spec inst s c) (tuples_upto front others to) ≡ None
none_until spec inst s c front others lines from next to are unset le past before =
    none_to (breaks_at spec inst s c) front others from to le (λ x ge lt. sym (none_broken spec inst s c (front ++ x ∷ []) others lines are (unset x ge (omega (arith, lt, past))))) before

-- none below all elements that there are
pub none_below : (p : List ℕ → Bool) (front sizes first others : List ℕ) (x d : ℕ) → ((length sizes ≡ 0) → ⊥) → first ≡ take 1 sizes → others ≡ drop 1 sizes → x ≡ get_or first 0 d → find p (tuples_upto front others x) ≡ None → None ≡ find p (tuples_behind front sizes)
none_below p front [] first others x d some f r is before = absurd (some refl)
none_below p front (n ∷ sizes) first others x d some f r is before =
    let same : x ≡ n = is ∙ ap (λ (xs : List ℕ). get_or xs 0 d) f in
    sym (ap (λ (os : List ℕ). find p (tuples_upto front os n)) (sym r) ∙ ap (λ m. find p (tuples_upto front others m)) (sym same) ∙ before)

-- none of those so far, and one that begins with the next element
pub found_more : (p : List ℕ → Bool) (front sizes first others longer : List ℕ) (x d : ℕ) (found : Option (List ℕ)) → ((length sizes ≡ 0) → ⊥) → first ≡ take 1 sizes → others ≡ drop 1 sizes → x < get_or first 0 d → longer ≡ front ++ x ∷ [] → find p (tuples_upto front others x) ≡ None → found ≡ find p (tuples_behind longer others)
    → is_some found ≡ true → found ≡ find p (tuples_behind front sizes)
found_more p front [] first others longer x d found some f r lt is before now yes_is = absurd (some refl)
found_more p front (n ∷ sizes) first others longer x d found some f r lt is before now yes_is =
    let size : get_or first 0 d ≡ n = ap (λ (xs : List ℕ). get_or xs 0 d) f in
    let parts = upto_parts front others n (x + 1) (omega arith) in
    let upto : find p (tuples_upto front others (x + 1)) ≡ found =
    ap (find p) (upto_more front others longer x is) ∙ find-append p (tuples_upto front others x) (tuples_behind longer others) ∙ ap (λ (o : Option (List ℕ)). option_or o (find p (tuples_behind longer others))) before ∙ sym now in
    sym (ap (λ (os : List ℕ). find p (tuples_upto front os n)) (sym r) ∙ ap (find p) parts.1 ∙ find-append p (tuples_upto front others (x + 1)) parts.0 ∙ ap (λ (o : Option (List ℕ)). option_or o (find p parts.0)) upto ∙ kept found (find p parts.0) yes_is)
  where
    kept : (a b : Option (List ℕ)) → is_some a ≡ true → option_or a b ≡ a
    kept None b e = absurd cc
    kept (Some x) b e = refl

-- what holds of all tuples behind some elements holds of those behind one element more
pub behind_longer : (P : List ℕ → Type 0) (front sizes first others longer : List ℕ) (x d : ℕ) → ((length sizes ≡ 0) → ⊥) → first ≡ take 1 sizes → others ≡ drop 1 sizes → x < get_or first 0 d → longer ≡ front ++ x ∷ []
    → ((xs : List ℕ) → Within (λ s. s) sizes xs → P (front ++ xs)) → (xs : List ℕ) → Within (λ s. s) others xs → P (longer ++ xs)
behind_longer P front [] first others longer x d some f r lt is all xs w = absurd (some refl)
behind_longer P front (n ∷ sizes) first others longer x d some f r lt is all xs w =
    let size : get_or first 0 d ≡ n = ap (λ (ys : List ℕ). get_or ys 0 d) f in
    let less : x < n = omega arith in
    let within = subst (λ (os : List ℕ). Within (λ s. s) os xs) r w in
    subst P (sym (append_assoc front (x ∷ []) xs) ∙ ap (λ (ys : List ℕ). ys ++ xs) (sym is)) (all (x ∷ xs) (less, within))
