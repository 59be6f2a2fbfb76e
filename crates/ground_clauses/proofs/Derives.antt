-- A right derivation leaves no model.
use Rattle.std.proofs.Common.{◌≡◌, inl, inr, ℕ, zero, suc, Bool, true, false, cond, not, eqb, List, [], ◌∷◌, ◌++◌, refl, sym, ap, subst, ◌∙◌}
use Rattle.std.specs.Prelude.{slice_get, Some, None, Option}
use Rattle.std.specs.List.{list_any, AllByRecursion}
use mathlib.Core.Bool.{beq}
use Rattle.std.proofs.lemmas.Bool.{cases_Bool, true≢false, and_parts, or_cases, or_left, or_right, eqb-true}
use Rattle.ground_clauses.proofs.Lists.{each_append, none_each}
use Rattle.ground_clauses.specs.Derivations.{Solves, ends_empty, ends_false, hint_goes, is_nil, is_right, lit_true, makes_true, opposite_num, propagates, repeats, same_num, steps_right, undecided}
use Rattle.ground_clauses.specs.Laws.{DerivationRefutes}
use Rattle.ground_clauses.specs.declared.clauses.Lit.{Lit}
use Rattle.ground_clauses.specs.declared.clauses.Step.{Step}

abbrev pub AllFalse : (ℕ → Bool) → List Lit → Type 0
AllFalse v xs = AllByRecursion (λ x. lit_true v x ≡ false) xs

beq-true : (x y : Bool) → beq x y ≡ true → x ≡ y
beq-true true true h = refl
beq-true false false h = refl
beq-true true false h = absurd (true≢false (sym h))
beq-true false true h = absurd (true≢false (sym h))

same_num-value : (v : ℕ → Bool) (x y : Lit) → same_num x y ≡ true → lit_true v x ≡ lit_true v y
same_num-value v x y h =
    let k = and_parts (eqb x.var y.var) (beq x.yes y.yes) h in
    ap (λ n. beq (v n) x.yes) (eqb-true x.var y.var k.0) ∙ ap (λ b. beq (v y.var) b) (beq-true x.yes y.yes k.1)

-- a literal among the false ones is false
false_among : (v : ℕ → Bool) (x : Lit) (falses : List Lit) → AllFalse v falses → list_any (same_num x) falses ≡ true → lit_true v x ≡ false
false_among v x [] h k = absurd (true≢false (sym k))
false_among v x (y ∷ ys) h k = elim (or_cases (same_num x y) (list_any (same_num x) ys) k) [
  | inl here ↦ same_num-value v x y here ∙ h.0
  | inr there ↦ false_among v x ys h.1 there
]

-- a true clause has a true literal that isn't decided
undecided_true : (v : ℕ → Bool) (falses c : List Lit) → AllFalse v falses → list_any (lit_true v) c ≡ true → list_any (lit_true v) (undecided falses c) ≡ true
undecided_true v falses [] h k = k
undecided_true v falses (x ∷ c) h k = elim (cases_Bool (list_any (same_num x) falses)) [
  | inl old ↦ subst (λ b. list_any (lit_true v) (cond (not b) (x ∷ undecided falses c) (undecided falses c)) ≡ true) (sym old)
      (elim (or_cases (lit_true v x) (list_any (lit_true v) c) k) [
        | inl here ↦ absurd (true≢false (sym here ∙ false_among v x falses h old))
        | inr there ↦ undecided_true v falses c h there
      ])
  | inr new ↦ subst (λ b. list_any (lit_true v) (cond (not b) (x ∷ undecided falses c) (undecided falses c)) ≡ true) (sym new)
      (elim (or_cases (lit_true v x) (list_any (lit_true v) c) k) [
        | inl here ↦ or_left (lit_true v x) (list_any (lit_true v) (undecided falses c)) here
        | inr there ↦ or_right (lit_true v x) (list_any (lit_true v) (undecided falses c)) (undecided_true v falses c h there)
      ])
]

clause_true : (v : ℕ → Bool) (clauses : List (List Lit)) (h : ℕ) (c : List Lit) → Solves v clauses → slice_get clauses h ≡ Some c → list_any (lit_true v) c ≡ true
clause_true v [] h c s is = cc
clause_true v (d ∷ clauses) zero c s is = let e : d ≡ c = cc in subst (λ x. list_any (lit_true v) x ≡ true) e s.0
clause_true v (d ∷ clauses) (suc h) c s is = clause_true v clauses h c s.1 is

opposite_false : (b yes' : Bool) → beq b yes' ≡ true → beq b (not yes') ≡ false
opposite_false true true h = refl
opposite_false false false h = refl
opposite_false true false h = absurd (true≢false (sym h))
opposite_false false true h = absurd (true≢false (sym h))

ends : (v : ℕ → Bool) (xs : List Lit) → list_any (lit_true v) xs ≡ true → is_nil xs ≡ true → ⊥
ends v [] h k = true≢false (sym h)
ends v (x ∷ xs) h k = true≢false (sym k)

unit_goes : (v : ℕ → Bool) (rest : List Lit → Bool) (falses xs : List Lit) → AllFalse v falses → list_any (lit_true v) xs ≡ true
    → ((more : List Lit) → AllFalse v more → rest more ≡ true → ⊥) → makes_true rest falses xs ≡ true → ⊥
unit_goes v rest falses [] h t go k = true≢false (sym k)
unit_goes v rest falses (x ∷ (y ∷ more)) h t go k = true≢false (sym k)
unit_goes v rest falses (x ∷ []) h t go k =
    elim (or_cases (lit_true v x) false t) [
      | inl here ↦ go (falses ++ opposite_num x ∷ []) (each_append (λ y. lit_true v y ≡ false) falses (opposite_num x ∷ []) h (opposite_false (v x.var) x.yes here, tt))
          (and_parts (not (list_any (same_num (opposite_num x)) falses)) (rest (falses ++ opposite_num x ∷ [])) k).1
      | inr none ↦ true≢false (sym none)
    ]

last_ends : (v : ℕ → Bool) (clauses : List (List Lit)) (hint : ℕ) (falses : List Lit) (o : Option (List Lit)) → Solves v clauses → AllFalse v falses
    → slice_get clauses hint ≡ o → ends_false falses o ≡ true → ⊥
last_ends v clauses hint falses None s h is k = true≢false (sym k)
last_ends v clauses hint falses (Some c) s h is k = ends v (undecided falses c) (undecided_true v falses c h (clause_true v clauses hint c s is)) k

one_goes : (v : ℕ → Bool) (clauses : List (List Lit)) (rest : List Lit → Bool) (hint : ℕ) (falses : List Lit) (o : Option (List Lit)) → Solves v clauses → AllFalse v falses
    → slice_get clauses hint ≡ o → ((more : List Lit) → AllFalse v more → rest more ≡ true → ⊥) → hint_goes rest falses o ≡ true → ⊥
one_goes v clauses rest hint falses None s h is go k = true≢false (sym k)
one_goes v clauses rest hint falses (Some c) s h is go k = unit_goes v rest falses (undecided falses c) h (undecided_true v falses c h (clause_true v clauses hint c s is)) go k

propagates_not : (v : ℕ → Bool) (clauses : List (List Lit)) (hints : List ℕ) (falses : List Lit) → Solves v clauses → AllFalse v falses → propagates clauses hints falses ≡ true → ⊥
propagates_not v clauses [] falses s h k = true≢false (sym k)
propagates_not v clauses (hint ∷ []) falses s h k = last_ends v clauses hint falses (slice_get clauses hint) s h refl k
propagates_not v clauses (hint ∷ (next ∷ hints)) falses s h k =
    one_goes v clauses (propagates clauses (next ∷ hints)) hint falses (slice_get clauses hint) s h refl (λ more m r. propagates_not v clauses (next ∷ hints) more s m r) k

-- a right step's clause is true wherever the clauses before it are
pub step_true : (v : ℕ → Bool) (clauses : List (List Lit)) (s : Step) → Solves v clauses → is_right clauses s ≡ true → list_any (lit_true v) s.lits ≡ true
step_true v clauses s solves right = elim (cases_Bool (list_any (lit_true v) s.lits)) [
  | inl is ↦ is
  | inr none ↦ absurd (propagates_not v clauses s.hints s.lits solves (none_each (lit_true v) s.lits none)
      (and_parts (not (repeats s.lits)) (propagates clauses s.hints s.lits) right).1)
]

refutes_not : (v : ℕ → Bool) (clauses : List (List Lit)) (steps : List Step) → Solves v clauses → steps_right clauses steps ≡ true → ends_empty steps ≡ true → ⊥
refutes_not v clauses [] s k e = true≢false (sym e)
refutes_not v clauses (t ∷ []) s k e =
    ends v t.lits (step_true v clauses t s (and_parts (is_right clauses t) true k).0) e
refutes_not v clauses (t ∷ (u ∷ steps)) s k e =
    let p = and_parts (is_right clauses t) (steps_right (clauses ++ t.lits ∷ []) (u ∷ steps)) k in
    refutes_not v (clauses ++ t.lits ∷ []) (u ∷ steps) (each_append (λ c. list_any (lit_true v) c ≡ true) clauses (t.lits ∷ []) s (step_true v clauses t s p.0, tt)) p.1 e

pub no_model : DerivationRefutes
no_model clauses steps right v s =
    let p = and_parts (steps_right clauses steps) (ends_empty steps) right in
    refutes_not v clauses steps s p.0 p.1
