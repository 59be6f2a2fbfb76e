-- Without lines for its predicates no case of a target is touched.
use Rattle.std.proofs.Common.{◌≡◌, ◌⊎◌, inl, inr, ℕ, Bool, true, false, ◌&&◌, ◌||◌, not, eqb, cond, List, [], ◌∷◌, ◌++◌, map, refl, sym, ap, append-nil, ◌∙◌}
use Rattle.std.specs.Prelude.{Option, Some, None, is_some}
use Rattle.std.specs.List.{list_any, filter, flat_map}
use Rattle.std.proofs.lemmas.Bool.{true≢false}
use Rattle.std.proofs.lemmas.List.Elements.{filter-append}
use Rattle.ground_clauses.proofs.Parts.{touches_parts}
use Rattle.ground_clauses.specs.Cases.{bit_lists, case_at, case_sets, class_cases, class_count, class_lists, equalities_true, interval_classes, is_touched_case, opposite_truths, over, pattern_sorts, target_cases, target_classes, target_of, touched_by, touches}
use Rattle.ground_clauses.specs.Literals.{is_set}
use Rattle.ground_clauses.specs.Reached.{can_touch, is_line_of, is_named}
use Rattle.ground_clauses.specs.declared.case.Case.{Case}
use Rattle.ground_clauses.specs.declared.case.Target.{Target}
use Rattle.ground_clauses.specs.declared.case.Target.TheVariants.{Clause as of_clause, Locked as of_pred}
use Rattle.spec_model.specs.Truths.{clause_in, line_sets, lines_set, op_at, or_else, size_of, terms_touch, values}
use Rattle.spec_model.specs.declared.clause.Clause.{Clause}
use Rattle.spec_model.specs.declared.clause.Literal.{Literal}
use Rattle.spec_model.specs.declared.clause.Literal.TheVariants.{Atom, Equal}
use Rattle.spec_model.specs.declared.operation.Line.{Line}
use Rattle.spec_model.specs.declared.operation.Line.TheVariants.{Add, Clear, Set, Sub}
use Rattle.spec_model.specs.declared.spec.Spec.{Spec}

both_none : (b c : Bool) → (b || c) ≡ false → (b ≡ false) × (c ≡ false)
both_none false c h = (refl, h)
both_none true c h = absurd (true≢false h)

neither : (b c : Bool) → b ≡ false → c ≡ false → (b || c) ≡ false
neither b c one other = ap (λ x. x || c) one ∙ other

-- ---- what has no line isn't set

line_idle : (has : ℕ → ℕ → Bool) (p : ℕ) (xs : List ℕ) (l : Line) → is_line_of p l ≡ false → line_sets has p xs l ≡ None
line_idle has p xs (Set q terms) h = ap (λ b. cond (b && terms_touch has terms xs) (Some true) None) h
line_idle has p xs (Clear q terms) h = ap (λ b. cond (b && terms_touch has terms xs) (Some false) None) h
line_idle has p xs (Add n params amount) h = refl
line_idle has p xs (Sub n params amount) h = refl

lines_idle : (has : ℕ → ℕ → Bool) (p : ℕ) (xs : List ℕ) (lines : List Line) → list_any (is_line_of p) lines ≡ false → lines_set has lines p xs ≡ None
lines_idle has p xs [] h = refl
lines_idle has p xs (l ∷ lines) h =
    let k = both_none (is_line_of p l) (list_any (is_line_of p) lines) h in
    ap (λ o. or_else o (line_sets has p xs l)) (lines_idle has p xs lines k.1) ∙ line_idle has p xs l k.0

literal_idle : (has : ℕ → ℕ → Bool) (cs : List ℕ) (lines : List Line) (l : Literal) → is_named lines l ≡ false → is_set (lines_set has lines) cs l ≡ false
literal_idle has cs lines (Atom p vars) h = ap is_some (lines_idle has p (values cs vars) lines h)
literal_idle has cs lines (Equal l r) h = refl

literals_idle : (has : ℕ → ℕ → Bool) (cs : List ℕ) (lines : List Line) (ls : List Literal) → list_any (is_named lines) ls ≡ false → list_any (is_set (lines_set has lines) cs) ls ≡ false
literals_idle has cs lines [] h = refl
literals_idle has cs lines (l ∷ ls) h =
    let k = both_none (is_named lines l) (list_any (is_named lines) ls) h in
    neither (is_set (lines_set has lines) cs l) (list_any (is_set (lines_set has lines) cs) ls) (literal_idle has cs lines l k.0) (literals_idle has cs lines ls k.1)

clause_idle : (has : ℕ → ℕ → Bool) (lines : List Line) (c : Clause) (cs : List ℕ) → (list_any (is_named lines) c.premise || list_any (is_named lines) c.conclusion) ≡ false → touches (lines_set has lines) (over c cs) ≡ false
clause_idle has lines c cs h =
    let k = both_none (list_any (is_named lines) c.premise) (list_any (is_named lines) c.conclusion) h in
    touches_parts (lines_set has lines) c cs
    ∙ neither (list_any (is_set (lines_set has lines) cs) c.premise) (list_any (is_set (lines_set has lines) cs) c.conclusion) (literals_idle has cs lines c.premise k.0) (literals_idle has cs lines c.conclusion k.1)

-- ---- so no case is touched

not_both : (x y : Bool) → (x && y) ≡ false → (x ≡ false) ⊎ (y ≡ false)
not_both false y h = inl refl
not_both true y h = inr h

first_idle : (x y e : Bool) → x ≡ false → (x && y && not e) ≡ false
first_idle x y e h = ap (λ b. b && y && not e) h

second_idle : (x y e : Bool) → y ≡ false → (x && y && not e) ≡ false
second_idle true y e h = ap (λ b. b && not e) h
second_idle false y e h = refl

first_open : (x y : Option Bool) → x ≡ None → opposite_truths x y ≡ false
first_open x y h = ap (λ o. opposite_truths o y) h

second_open : (x y : Option Bool) → y ≡ None → opposite_truths x y ≡ false
second_open x y h = ap (opposite_truths x) h ∙ none x
  where
    none : (o : Option Bool) → opposite_truths o None ≡ false
    none None = refl
    none (Some true) = refl
    none (Some false) = refl

idle_case : (spec : Spec) (k : Case) (t : Target) → (can_touch spec (op_at spec k.a).lines t && can_touch spec (op_at spec k.b).lines t) ≡ false → touched_by spec k t ≡ false
idle_case spec k (of_clause t) h = elim (not_both (can_touch spec (op_at spec k.a).lines (of_clause t)) (can_touch spec (op_at spec k.b).lines (of_clause t)) h) [
  | inl one ↦
      first_idle (touches (case_sets spec k).one (target_of spec k t)) (touches (case_sets spec k).other (target_of spec k t)) (equalities_true (target_of spec k t))
      (clause_idle _ (op_at spec k.a).lines (clause_in spec t) (target_classes spec k) one)
  | inr other ↦
      second_idle (touches (case_sets spec k).one (target_of spec k t)) (touches (case_sets spec k).other (target_of spec k t)) (equalities_true (target_of spec k t))
      (clause_idle _ (op_at spec k.b).lines (clause_in spec t) (target_classes spec k) other)
]
idle_case spec k (of_pred p) h = elim (not_both (can_touch spec (op_at spec k.a).lines (of_pred p)) (can_touch spec (op_at spec k.b).lines (of_pred p)) h) [
  | inl one ↦ first_open ((case_sets spec k).one p (target_classes spec k)) ((case_sets spec k).other p (target_classes spec k)) (lines_idle _ p (target_classes spec k) (op_at spec k.a).lines one)
  | inr other ↦ second_open ((case_sets spec k).one p (target_classes spec k)) ((case_sets spec k).other p (target_classes spec k)) (lines_idle _ p (target_classes spec k) (op_at spec k.b).lines other)
]

none_of : {X : Type 0} (f : X → Case) (keep : Case → Bool) (xs : List X) → ((x : X) → keep (f x) ≡ false) → filter keep (map f xs) ≡ []
none_of f keep [] h = refl
none_of f keep (x ∷ xs) h = ap (λ b. cond b (f x ∷ filter keep (map f xs)) (filter keep (map f xs))) (h x) ∙ none_of f keep xs h

none_in : {X : Type 0} (f : X → List Case) (keep : Case → Bool) (xs : List X) → ((x : X) → filter keep (f x) ≡ []) → filter keep (flat_map f xs) ≡ []
none_in f keep [] h = refl
none_in f keep (x ∷ xs) h = filter-append keep (f x) (flat_map f xs) ∙ ap (λ ys. ys ++ filter keep (flat_map f xs)) (h x) ∙ none_in f keep xs h

idle_classes : (spec : Spec) (a b : ℕ) (t : Target) (cs : List ℕ) → (can_touch spec (op_at spec a).lines t && can_touch spec (op_at spec b).lines t) ≡ false → filter (is_touched_case spec) (class_cases spec a b t cs) ≡ []
idle_classes spec a b t cs h =
    none_in (λ ba. map (λ bb. case_at a b t cs ba bb) (bit_lists (interval_classes (class_count (pattern_sorts spec a b t) cs) (op_at spec b).params))) (is_touched_case spec)
    (bit_lists (interval_classes (class_count (pattern_sorts spec a b t) cs) (op_at spec a).params))
    (λ ba. none_of (λ bb. case_at a b t cs ba bb) (is_touched_case spec) (bit_lists (interval_classes (class_count (pattern_sorts spec a b t) cs) (op_at spec b).params)) (λ bb. idle_case spec (case_at a b t cs ba bb) t h))

pub idle_target : (spec : Spec) (a b : ℕ) (t : Target) (xs : List Case) → (can_touch spec (op_at spec a).lines t && can_touch spec (op_at spec b).lines t) ≡ false
    → xs ≡ xs ++ filter (is_touched_case spec) (target_cases spec a b t)
idle_target spec a b t xs h =
    sym (append-nil xs)
    ∙ ap (λ ys. xs ++ ys) (sym (none_in (class_cases spec a b t) (is_touched_case spec) (class_lists (size_of spec) (λ z. 0) (pattern_sorts spec a b t)) (λ cs. idle_classes spec a b t cs h)))
