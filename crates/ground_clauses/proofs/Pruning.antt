-- Classes in front of which no instance meets the target.
use Rattle.std.proofs.Common.{◌≡◌, inl, inr, ℕ, zero, suc, ◌+◌, ◌<◌, ltb, Bool, true, false, ◌||◌, ◌&&◌, not, eqb, cond, List, [], ◌∷◌, ◌++◌, map, length, get_or, drop, refl, sym, ap, append-nil, ◌∙◌, arith}
use Rattle.std.specs.List.{list_any, filter}
use Rattle.std.proofs.lemmas.Bool.{and_from, and_parts, cases_Bool, ltb-true, true≢false}
use Rattle.ground_clauses.proofs.Building.{meets_parts}
use Rattle.ground_clauses.proofs.Reaches.{at_place}
use Rattle.ground_clauses.specs.Cases.{assignments, class_count, equalities_true, over, sorts_of}
use Rattle.ground_clauses.specs.Instances.{can_agree, can_be, can_be_atom, can_share, found_from, is_shared, meets}
use Rattle.ground_clauses.specs.Query.{Hypothesis, atom_of, same_atom, same_list}
use Rattle.ground_clauses.specs.declared.instances.Search.{Search}
use Rattle.spec_model.specs.Truths.{values}
use Rattle.spec_model.specs.declared.clause.Clause.{Clause}
use Rattle.spec_model.specs.declared.clause.Literal.{Literal}
use Rattle.spec_model.specs.declared.clause.Literal.TheVariants.{Atom, Equal}
use Rattle.spec_model.specs.declared.clause.Var.{Var}
use Rattle.spec_model.specs.declared.instance.Atom.{Atom as ClassAtom}

pub agree_end : (front vars : List ℕ) (i d : ℕ) (xs : List ℕ) → i < length vars → length xs < 1 → false ≡ can_agree front (drop i vars) xs
agree_end front vars i d [] lt few = at_place (λ vs. false ≡ can_agree front vs []) vars i d lt refl
agree_end front vars i d (x ∷ xs) lt few = absurd (omega arith)

pub agree_step : (front vars : List ℕ) (i d : ℕ) (x : ℕ) (xs : List ℕ) → i < length vars → can_agree front (drop i vars) (x ∷ xs) ≡ (can_be front (get_or vars i d) x && can_agree front (drop (i + 1) vars) xs)
agree_step front vars i d x xs lt = at_place (λ vs. can_agree front vs (x ∷ xs) ≡ (can_be front (get_or vars i d) x && can_agree front (drop (i + 1) vars) xs)) vars i d lt refl

-- ---- what is in front stays

front_class : (front more : List ℕ) (v : ℕ) → v < length front → get_or (front ++ more) v 0 ≡ get_or front v 0
front_class [] more v lt = absurd (omega arith)
front_class (x ∷ front) more zero lt = refl
front_class (x ∷ front) more (suc v) lt = front_class front more v (omega arith)

is_then_can : (front more : List ℕ) (v x : ℕ) → eqb (get_or (front ++ more) v 0) x ≡ true → can_be front v x ≡ true
is_then_can front more v x h = elim (cases_Bool (ltb v (length front))) [
  | inl within ↦ ap (λ b. not b || eqb (get_or front v 0) x) within ∙ ap (λ y. eqb y x) (sym (front_class front more v (ltb-true v (length front) within))) ∙ h
  | inr behind ↦ ap (λ b. not b || eqb (get_or front v 0) x) behind
]

same_then_agree : (front more vars xs : List ℕ) → same_list (values (front ++ more) vars) xs ≡ true → can_agree front vars xs ≡ true
same_then_agree front more [] [] h = refl
same_then_agree front more [] (x ∷ xs) h = h
same_then_agree front more (v ∷ vars) [] h = h
same_then_agree front more (v ∷ vars) (x ∷ xs) h =
    let k = and_parts (eqb (get_or (front ++ more) v 0) x) (same_list (values (front ++ more) vars) xs) h in
    and_from (can_be front v x) (can_agree front vars xs) (is_then_can front more v x k.0) (same_then_agree front more vars xs k.1)

-- ---- nothing is shared

both_none : (b c : Bool) → (b || c) ≡ false → (b ≡ false) × (c ≡ false)
both_none false c h = (refl, h)
both_none true c h = absurd (true≢false h)

either_none : (b c : Bool) → b ≡ false → c ≡ false → (b || c) ≡ false
either_none b c one other = ap (λ x. x || c) one ∙ other

not_atom : (p : ℕ) (front more vars : List ℕ) (a : ClassAtom) → can_be_atom p front vars a ≡ false → same_atom (atom_of p (values (front ++ more) vars)) a ≡ false
not_atom p front more vars a h = elim (cases_Bool (same_atom (atom_of p (values (front ++ more) vars)) a)) [
  | inl is ↦
      let k = and_parts (eqb p a.pred) (same_list (values (front ++ more) vars) a.args) is in
      absurd (true≢false (sym (and_from (eqb p a.pred) (can_agree front vars a.args) k.0 (same_then_agree front more vars a.args k.1)) ∙ h))
  | inr isnt ↦ isnt
]

no_atom : (atoms : List ClassAtom) (p : ℕ) (front more vars : List ℕ) → list_any (can_be_atom p front vars) atoms ≡ false → list_any (same_atom (atom_of p (values (front ++ more) vars))) atoms ≡ false
no_atom [] p front more vars h = refl
no_atom (a ∷ atoms) p front more vars h =
    let k = both_none (can_be_atom p front vars a) (list_any (can_be_atom p front vars) atoms) h in
    either_none (same_atom (atom_of p (values (front ++ more) vars)) a) (list_any (same_atom (atom_of p (values (front ++ more) vars))) atoms) (not_atom p front more vars a k.0) (no_atom atoms p front more vars k.1)

none_shared : (atoms : List ClassAtom) (front more : List ℕ) (l : Literal) → can_share atoms front l ≡ false → is_shared atoms (front ++ more) l ≡ false
none_shared atoms front more (Atom p vars) h = no_atom atoms p front more vars h
none_shared atoms front more (Equal l r) h = refl

none_of_these : (atoms : List ClassAtom) (front more : List ℕ) (ls : List Literal) → list_any (can_share atoms front) ls ≡ false → list_any (is_shared atoms (front ++ more)) ls ≡ false
none_of_these atoms front more [] h = refl
none_of_these atoms front more (l ∷ ls) h =
    let k = both_none (can_share atoms front l) (list_any (can_share atoms front) ls) h in
    either_none (is_shared atoms (front ++ more) l) (list_any (is_shared atoms (front ++ more)) ls) (none_shared atoms front more l k.0) (none_of_these atoms front more ls k.1)

none_meets : (atoms : List ClassAtom) (c : Clause) (front more : List ℕ) → list_any (can_share atoms front) c.premise ≡ false → list_any (can_share atoms front) c.conclusion ≡ false → meets atoms (over c (front ++ more)) ≡ false
none_meets atoms c front more one other =
    meets_parts atoms c (front ++ more)
    ∙ ap (λ b. b && not (equalities_true (over c (front ++ more))))
    (either_none (list_any (is_shared atoms (front ++ more)) c.premise) (list_any (is_shared atoms (front ++ more)) c.conclusion) (none_of_these atoms front more c.premise one) (none_of_these atoms front more c.conclusion other))

none_kept : (atoms : List ClassAtom) (c : Clause) (front : List ℕ) (css : List (List ℕ)) → list_any (can_share atoms front) c.premise ≡ false → list_any (can_share atoms front) c.conclusion ≡ false
    → filter (meets atoms) (map (over c) (map (λ cs. front ++ cs) css)) ≡ []
none_kept atoms c front [] one other = refl
none_kept atoms c front (cs ∷ css) one other =
    let rest = filter (meets atoms) (map (over c) (map (λ cs. front ++ cs) css)) in
    ap (λ b. cond b (over c (front ++ cs) ∷ rest) rest) (none_meets atoms c front cs one other) ∙ none_kept atoms c front css one other

pub none_found : (s : Search) (c : Clause) (front : List ℕ) (vars : List Var) (xs : List Hypothesis) → (list_any (can_share s.target.now front) c.premise || list_any (can_share s.target.now front) c.conclusion) ≡ false
    → xs ≡ xs ++ found_from s c front vars
none_found s c front vars xs h =
    let k = both_none (list_any (can_share s.target.now front) c.premise) (list_any (can_share s.target.now front) c.conclusion) h in
    sym (append-nil xs) ∙ ap (λ ys. xs ++ ys) (sym (none_kept s.target.now c front (assignments (class_count s.sorts.now s.classes.now) (sorts_of vars)) k.0 k.1))
