-- The variables of a query are apart, so each has one place.
use Rattle.std.proofs.Common.{◌≡◌, inl, inr, ℕ, zero, suc, ◌+◌, ◌<◌, Bool, true, false, ◌||◌, ◌&&◌, cond, List, [], ◌∷◌, ◌++◌, length, get_or, take, drop, map, refl, sym, ap, subst, ◌∙◌, arith}
use Rattle.std.specs.Prelude.{Some, slice_get}
use Rattle.std.specs.List.{list_any, flat_map, AllByRecursion}
use Rattle.std.proofs.lemmas.Bool.{cases_Bool, true≢false}
use Rattle.std.proofs.lemmas.List.{length-map, map-append, take_more}
use Rattle.std.proofs.lemmas.Map.Keys.{any_passes_from_place}
use Rattle.std.proofs.lemmas.Option.{slice_get-get_or, slice_get_within, get_or_from_slice_get}
use Rattle.ground_clauses.proofs.Lists.{each_weaker}
use Rattle.ground_clauses.proofs.Numbers.{same_atom-true, same_atom_itself, same_moment-true, same_variable-true}
use Rattle.ground_clauses.proofs.Parts.{any_append}
use Rattle.ground_clauses.proofs.Reaches.{at_place}
use Rattle.ground_clauses.specs.Query.{Hypothesis, Sets, atom_variables, atoms_of, dedup_after, entry_at, entry_variables, index_of, instance_atoms, same_atom, same_moment, same_variable, variable, winner}
use Rattle.ground_clauses.specs.Rows.{AreApart, IsRow, entry_seen, row_atom, touches_at}
use Rattle.ground_clauses.specs.declared.queries.Asked.{Asked}
use Rattle.ground_clauses.specs.declared.rows.Row.{Row}
use Rattle.ground_clauses.specs.declared.rows.Seen.TheVariants.{Same as SeenSame}
use Rattle.ground_clauses.specs.declared.state_lit.Variable.{Variable}
use Rattle.ground_clauses.specs.declared.table.Touches.{Touches}
use Rattle.spec_model.specs.Stable.{touch_of}
use Rattle.spec_model.specs.declared.instance.Atom.{Atom as ClassAtom}
use Rattle.spec_model.specs.declared.spec.Spec.{Spec}
use Rattle.spec_model.specs.declared.state.Entry.{Entry}
use Rattle.spec_model.specs.declared.state.Entry.TheVariants.{Always, Same}
use Rattle.spec_model.specs.declared.state.Moment.{Moment}
use Rattle.spec_model.specs.declared.state.Moment.TheVariants.{Both, First, Second, Start}

-- ---- places

pub number_at : (v : Variable) (vs : List Variable) (i : ℕ) (d : Variable) → AreApart vs → i < length vs → same_variable v (get_or vs i d) ≡ true → i ≡ index_of (same_variable v) vs
number_at v [] i d apart lt is = absurd (omega arith)
number_at v (x ∷ xs) zero d apart lt is = sym (ap (λ b. cond b 0 (suc (index_of (same_variable v) xs))) is)
number_at v (x ∷ xs) (suc i) d apart lt is = elim (cases_Bool (same_variable v x)) [
  | inl here ↦ absurd (true≢false (sym (any_passes_from_place (same_variable x) xs i (get_or xs i d) (slice_get-get_or xs i d (omega arith)) (subst (λ y. same_variable y (get_or xs i d) ≡ true) (same_variable-true v x here) is)) ∙ apart.0))
  | inr other ↦ ap suc (number_at v xs i d apart.1 (omega arith) is) ∙ sym (ap (λ b. cond b 0 (suc (index_of (same_variable v) xs))) other)
]

pub each_at : {X : Type 0} (P : X → Type 0) (xs : List X) (i : ℕ) (x : X) → AllByRecursion P xs → slice_get xs i ≡ Some x → P x
each_at P [] i x h is = absurd (let k : i < 0 = slice_get_within [] i x is in omega arith)
each_at P (y ∷ ys) zero x h is = subst P (get_or_from_slice_get (y ∷ ys) 0 x y is) h.0
each_at P (y ∷ ys) (suc i) x h is = each_at P ys i x h.1 is

pub row_there : (q : Asked) (rows : List Row) (i : ℕ) (r : Row) → AllByRecursion (IsRow q) rows → slice_get rows i ≡ Some r → IsRow q r
row_there q rows i r h is = each_at (IsRow q) rows i r h is

pub row_at : (q : Asked) (rows : List Row) (i : ℕ) (d : Row) → AllByRecursion (IsRow q) rows → i < length rows → IsRow q (get_or rows i d)
row_at q [] i d h lt = absurd (omega arith)
row_at q (r ∷ rows) zero d h lt = h.0
row_at q (r ∷ rows) (suc i) d h lt = row_at q rows i d h.1 (omega arith)

pub rows_more : (rows : List Row) (r : Row) (atoms : List ClassAtom) (i : ℕ) (d : ClassAtom) → i < length atoms → map row_atom rows ≡ take i atoms → r.atom ≡ get_or atoms i d → map row_atom (rows ++ r ∷ []) ≡ take (i + 1) atoms
rows_more rows r atoms i d lt before is = map-append row_atom rows (r ∷ []) ∙ ap (λ xs. xs ++ r.atom ∷ []) before ∙ ap (λ a. take i atoms ++ a ∷ []) is ∙ sym (take_more atoms i d lt)

pub rows_step : {Y : Type 0} (f : ClassAtom → List Y) (rows : List Row) (i : ℕ) (d : Row) → i < length rows → flat_map f (map row_atom (drop i rows)) ≡ f (get_or rows i d).atom ++ flat_map f (map row_atom (drop (i + 1) rows))
rows_step f rows i d lt = at_place (λ rs. flat_map f (map row_atom rs) ≡ f (get_or rows i d).atom ++ flat_map f (map row_atom (drop (i + 1) rows))) rows i d lt refl

pub atom_same : (a : ClassAtom) (r : Row) → same_atom a r.atom ≡ true → r.atom ≡ a
atom_same a r h = sym (same_atom-true a r.atom h)

-- what is seen already is what this entry says
pub seen_again : (m k : Moment) (n : ℕ) → same_moment m k ≡ true → entry_seen (SeenSame k n) ≡ Same m
seen_again m k n same = ap Same (sym (same_moment-true m k same))

-- ---- what the operations do to each atom

pub place_touched : (spec : Spec) (sets : Sets) (atoms : List ClassAtom) (ts : List Touches) (i : ℕ) → ts ≡ map (touches_at spec sets) atoms → i < length atoms → i < length ts
place_touched spec sets atoms ts i is lt = subst (λ n. i < n) (sym (ap length is ∙ length-map atoms (touches_at spec sets))) lt

at_map : (spec : Spec) (sets : Sets) (atoms : List ClassAtom) (i : ℕ) (d : Touches) (e : ClassAtom) → i < length atoms → get_or (map (touches_at spec sets) atoms) i d ≡ touches_at spec sets (get_or atoms i e)
at_map spec sets [] i d e lt = absurd (omega arith)
at_map spec sets (a ∷ atoms) zero d e lt = refl
at_map spec sets (a ∷ atoms) (suc i) d e lt = at_map spec sets atoms i d e (omega arith)

touched_at : (spec : Spec) (sets : Sets) (atoms : List ClassAtom) (ts : List Touches) (i : ℕ) (d : Touches) (e : ClassAtom) → ts ≡ map (touches_at spec sets) atoms → i < length atoms → get_or ts i d ≡ touches_at spec sets (get_or atoms i e)
touched_at spec sets atoms ts i d e is lt = ap (λ xs. get_or xs i d) is ∙ at_map spec sets atoms i d e lt

pub first_at : (spec : Spec) (sets : Sets) (atoms : List ClassAtom) (ts : List Touches) (i : ℕ) (d : Touches) (e : ClassAtom) → ts ≡ map (touches_at spec sets) atoms → i < length atoms
    → (get_or ts i d).first ≡ touch_of (winner spec (get_or atoms i e)) (sets.one (get_or atoms i e).pred (get_or atoms i e).args)
first_at spec sets atoms ts i d e is lt = ap (λ t. t.first) (touched_at spec sets atoms ts i d e is lt)

pub second_at : (spec : Spec) (sets : Sets) (atoms : List ClassAtom) (ts : List Touches) (i : ℕ) (d : Touches) (e : ClassAtom) → ts ≡ map (touches_at spec sets) atoms → i < length atoms
    → (get_or ts i d).second ≡ touch_of (winner spec (get_or atoms i e)) (sets.other (get_or atoms i e).pred (get_or atoms i e).args)
second_at spec sets atoms ts i d e is lt = ap (λ t. t.second) (touched_at spec sets atoms ts i d e is lt)

-- ---- the variables of one atom

and_none : (b : Bool) → (b && false) ≡ false
and_none true = refl
and_none false = refl

entry_apart : (a : ClassAtom) (m : Moment) (e : Entry) (rest : List Variable) → AreApart rest → list_any (same_variable (variable a m)) rest ≡ false → AreApart (entry_variables a m e ++ rest)
entry_apart a m Always rest apart none = apart
entry_apart a m (Same k) rest apart none = by_test (same_moment m k)
  where
    by_test : (b : Bool) → AreApart (cond b (variable a m ∷ []) [] ++ rest)
    by_test true = (none, apart)
    by_test false = apart

none_later : (a : ClassAtom) (m n : Moment) (e : Entry) (rest : List Variable) → same_moment m n ≡ false → list_any (same_variable (variable a m)) rest ≡ false
    → list_any (same_variable (variable a m)) (entry_variables a n e ++ rest) ≡ false
none_later a m n Always rest other none = none
none_later a m n (Same k) rest other none = by_test (same_moment n k)
  where
    by_test : (b : Bool) → list_any (same_variable (variable a m)) (cond b (variable a n ∷ []) [] ++ rest) ≡ false
    by_test true = ap (λ t. (same_atom a a && t) || list_any (same_variable (variable a m)) rest) other ∙ ap (λ t. t || list_any (same_variable (variable a m)) rest) (and_none (same_atom a a)) ∙ none
    by_test false = none

own_apart : (spec : Spec) (sets : Sets) (a : ClassAtom) → AreApart (atom_variables spec sets a)
own_apart spec sets a =
    let f = entry_at spec sets a First in
    let o = entry_at spec sets a Second in
    let b = entry_at spec sets a Both in
    let last = entry_variables a Both b ++ [] in
    let third = entry_variables a Second o ++ last in
    let second = entry_variables a First f ++ third in
    entry_apart a Start (entry_at spec sets a Start) second
    (entry_apart a First f third
    (entry_apart a Second o last (entry_apart a Both b [] tt refl) (none_later a Second Both b [] refl refl))
    (none_later a First Second o last refl (none_later a First Both b [] refl refl)))
    (none_later a Start First f third refl (none_later a Start Second o last refl (none_later a Start Both b [] refl refl)))

entry_each : (P : Variable → Type 0) (a : ClassAtom) (m : Moment) (e : Entry) (rest : List Variable) → P (variable a m) → AllByRecursion P rest → AllByRecursion P (entry_variables a m e ++ rest)
entry_each P a m Always rest here there = there
entry_each P a m (Same k) rest here there = by_test (same_moment m k)
  where
    by_test : (b : Bool) → AllByRecursion P (cond b (variable a m ∷ []) [] ++ rest)
    by_test true = (here, there)
    by_test false = there

each_own : (P : Variable → Type 0) (spec : Spec) (sets : Sets) (a : ClassAtom) → ((m : Moment) → P (variable a m)) → AllByRecursion P (atom_variables spec sets a)
each_own P spec sets a h =
    let f = entry_at spec sets a First in
    let o = entry_at spec sets a Second in
    let b = entry_at spec sets a Both in
    let last = entry_variables a Both b ++ [] in
    let third = entry_variables a Second o ++ last in
    entry_each P a Start (entry_at spec sets a Start) (entry_variables a First f ++ third) (h Start)
    (entry_each P a First f third (h First) (entry_each P a Second o last (h Second) (entry_each P a Both b [] (h Both) tt)))

-- ---- the variables of atoms

both_none : (b c : Bool) → b ≡ false → c ≡ false → (b || c) ≡ false
both_none b c left right = ap (λ x. x || c) left ∙ right

none_of : {X : Type 0} (p : X → Bool) (xs : List X) → AllByRecursion (λ x. p x ≡ false) xs → list_any p xs ≡ false
none_of p [] h = refl
none_of p (x ∷ xs) h = both_none (p x) (list_any p xs) h.0 (none_of p xs h.1)

apart_append : (xs ys : List Variable) → AreApart xs → AreApart ys → AllByRecursion (λ x. list_any (same_variable x) ys ≡ false) xs → AreApart (xs ++ ys)
apart_append [] ys one other h = other
apart_append (x ∷ xs) ys one other h =
    (any_append (same_variable x) xs ys ∙ both_none (list_any (same_variable x) xs) (list_any (same_variable x) ys) one.0 h.0, apart_append xs ys one.1 other h.1)

-- an atom that isn't among these has no variable of theirs
none_flat : (spec : Spec) (sets : Sets) (a : ClassAtom) (m : Moment) (atoms : List ClassAtom) → list_any (same_atom a) atoms ≡ false → list_any (same_variable (variable a m)) (flat_map (atom_variables spec sets) atoms) ≡ false
none_flat spec sets a m [] h = refl
none_flat spec sets a m (b ∷ atoms) h =
    let p = or_parts (same_atom a b) (list_any (same_atom a) atoms) h in
    any_append (same_variable (variable a m)) (atom_variables spec sets b) (flat_map (atom_variables spec sets) atoms)
    ∙ both_none (list_any (same_variable (variable a m)) (atom_variables spec sets b)) (list_any (same_variable (variable a m)) (flat_map (atom_variables spec sets) atoms))
    (none_of (same_variable (variable a m)) (atom_variables spec sets b)
    (each_own (λ y. same_variable (variable a m) y ≡ false) spec sets b (λ n. ap (λ t. t && same_moment m n) p.0)))
    (none_flat spec sets a m atoms p.1)
  where
    or_parts : (b c : Bool) → (b || c) ≡ false → (b ≡ false) × (c ≡ false)
    or_parts false c h = (refl, h)
    or_parts true c h = absurd (true≢false h)

abbrev AtomsApart : List ClassAtom → Type 0
AtomsApart [] = Unit {0}
AtomsApart (a ∷ atoms) = (list_any (same_atom a) atoms ≡ false) × AtomsApart atoms

flat_apart : (spec : Spec) (sets : Sets) (atoms : List ClassAtom) → AtomsApart atoms → AreApart (flat_map (atom_variables spec sets) atoms)
flat_apart spec sets [] h = tt
flat_apart spec sets (a ∷ atoms) h =
    apart_append (atom_variables spec sets a) (flat_map (atom_variables spec sets) atoms) (own_apart spec sets a) (flat_apart spec sets atoms h.1)
    (each_own (λ x. list_any (same_variable x) (flat_map (atom_variables spec sets) atoms) ≡ false) spec sets a (λ m. none_flat spec sets a m atoms h.0))

none_front : (y : ClassAtom) (seen more : List ClassAtom) → list_any (same_atom y) (seen ++ more) ≡ false → (list_any (same_atom y) seen ≡ false) × (list_any (same_atom y) more ≡ false)
none_front y seen more h = or_parts (list_any (same_atom y) seen) (list_any (same_atom y) more) (sym (any_append (same_atom y) seen more) ∙ h)
  where
    or_parts : (b c : Bool) → (b || c) ≡ false → (b ≡ false) × (c ≡ false)
    or_parts false c h = (refl, h)
    or_parts true c h = absurd (true≢false h)

dedup_new : (seen xs : List ClassAtom) → AllByRecursion (λ y. list_any (same_atom y) seen ≡ false) (dedup_after same_atom seen xs)
dedup_new seen [] = tt
dedup_new seen (x ∷ xs) = elim (cases_Bool (list_any (same_atom x) seen)) [
  | inl old ↦ subst (λ b. AllByRecursion (λ y. list_any (same_atom y) seen ≡ false) (cond b (dedup_after same_atom seen xs) (x ∷ dedup_after same_atom (seen ++ x ∷ []) xs))) (sym old) (dedup_new seen xs)
  | inr new ↦ subst (λ b. AllByRecursion (λ y. list_any (same_atom y) seen ≡ false) (cond b (dedup_after same_atom seen xs) (x ∷ dedup_after same_atom (seen ++ x ∷ []) xs))) (sym new)
      (new, each_weaker (λ y. list_any (same_atom y) (seen ++ x ∷ []) ≡ false) (λ y. list_any (same_atom y) seen ≡ false) (dedup_after same_atom (seen ++ x ∷ []) xs) (λ y h. (none_front y seen (x ∷ []) h).0) (dedup_new (seen ++ x ∷ []) xs))
]

other_way : (x y : ClassAtom) → list_any (same_atom y) (x ∷ []) ≡ false → same_atom x y ≡ false
other_way x y h = elim (cases_Bool (same_atom x y)) [
  | inl is ↦ absurd (true≢false (sym (subst (λ z. list_any (same_atom z) (x ∷ []) ≡ true) (same_atom-true x y is) (ap (λ b. b || false) (same_atom_itself x))) ∙ h))
  | inr isnt ↦ isnt
]

dedup_apart : (seen xs : List ClassAtom) → AtomsApart (dedup_after same_atom seen xs)
dedup_apart seen [] = tt
dedup_apart seen (x ∷ xs) = elim (cases_Bool (list_any (same_atom x) seen)) [
  | inl old ↦ subst (λ b. AtomsApart (cond b (dedup_after same_atom seen xs) (x ∷ dedup_after same_atom (seen ++ x ∷ []) xs))) (sym old) (dedup_apart seen xs)
  | inr new ↦ subst (λ b. AtomsApart (cond b (dedup_after same_atom seen xs) (x ∷ dedup_after same_atom (seen ++ x ∷ []) xs))) (sym new) (
    none_of (same_atom x) (dedup_after same_atom (seen ++ x ∷ []) xs)
        (each_weaker (λ y. list_any (same_atom y) (seen ++ x ∷ []) ≡ false) (λ y. same_atom x y ≡ false) (dedup_after same_atom (seen ++ x ∷ []) xs) (λ y h. other_way x y (none_front y seen (x ∷ []) h).1) (dedup_new (seen ++ x ∷ []) xs)),
    dedup_apart (seen ++ x ∷ []) xs,
  )
]

pub variables_apart : (spec : Spec) (sets : Sets) (hs : List Hypothesis) (atoms : List ClassAtom) (vs : List Variable) → atoms ≡ atoms_of hs → vs ≡ flat_map (atom_variables spec sets) atoms → AreApart vs
variables_apart spec sets hs atoms vs once own =
    subst AreApart (sym (own ∙ ap (flat_map (atom_variables spec sets)) once)) (flat_apart spec sets (atoms_of hs) (dedup_apart [] (flat_map instance_atoms hs)))
