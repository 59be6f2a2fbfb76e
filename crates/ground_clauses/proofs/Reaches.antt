-- Parameters, terms and lines taken one at a time.
use Rattle.std.proofs.Common.{◌≡◌, ◌++◌, length-append, eqb, max, ℕ, zero, suc, ◌+◌, ◌-◌, ◌<◌, ◌≤◌, Bool, true, false, cond, List, [], ◌∷◌, length, get_or, drop, refl, sym, ap, subst, ◌∙◌, arith}
use Rattle.std.proofs.Math.Seq.{drop-cons}
use Rattle.std.specs.List.{AllByRecursion}
use Rattle.ground_clauses.proofs.Seen.{few}
use Rattle.ground_clauses.specs.Cases.{bits, class_count, plain_class, plain_sorts, point, reach_has, reaches, reaches_have, sorts_of}
use Rattle.spec_model.specs.Fits.{ClauseFits, IsWellFormed, OpFits}
use Rattle.spec_model.specs.Truths.{clause_in, no_clause, no_op, op_at, terms_touch}
use Rattle.spec_model.specs.declared.clause.Clause.{Clause}
use Rattle.spec_model.specs.declared.clause.Var.{Var}
use Rattle.spec_model.specs.declared.operation.Op.{Op}
use Rattle.spec_model.specs.declared.operation.Term.{Term}
use Rattle.spec_model.specs.declared.spec.Spec.{Spec}

-- the first place, and what is left of a list behind it
pub at_place : {X : Type 0} (P : List X → Type 0) (xs : List X) (i : ℕ) (d : X) → i < length xs → P (get_or xs i d ∷ drop (i + 1) xs) → P (drop i xs)
at_place P xs i d lt h = subst P (sym (drop-cons xs i d lt ∙ ap (λ k. get_or xs i d ∷ drop k xs) (let z : suc i ≡ i + 1 = omega arith in z))) h

past_one : (p : Var) (rest : List Var) (cs : List ℕ) (mask at x : ℕ) → 0 < at
    → reaches_have (reaches (p ∷ rest) cs mask) at x ≡ reaches_have (reaches rest (cond p.interval cs (drop 1 cs)) mask) (at - 1) x
past_one p rest cs mask zero x lt = absurd (omega arith)
past_one p rest cs mask (suc k) x lt =
    by_kind p.interval ∙ ap (λ j. reaches_have (reaches rest (cond p.interval cs (drop 1 cs)) mask) j x) (let z : k ≡ suc k - 1 = omega arith in z)
  where
    by_kind : (b : Bool) → reach_has (get_or (cond b (bits mask ∷ reaches rest cs mask) (point (get_or cs 0 0) ∷ reaches rest (drop 1 cs) mask)) (suc k) (bits 0)) x
        ≡ reaches_have (reaches rest (cond b cs (drop 1 cs)) mask) k x
    by_kind true = refl
    by_kind false = refl

-- a parameter that isn't the one asked for
pub past_param : (params : List Var) (i : ℕ) (d : Var) (cs : List ℕ) (mask at x : ℕ) → i < length params → 0 < at
    → reaches_have (reaches (drop i params) cs mask) at x ≡ reaches_have (reaches (drop (i + 1) params) (cond (get_or params i d).interval cs (drop 1 cs)) mask) (at - 1) x
past_param params i d cs mask at x lt some =
    at_place (λ ps. reaches_have (reaches ps cs mask) at x ≡ reaches_have (reaches (drop (i + 1) params) (cond (get_or params i d).interval cs (drop 1 cs)) mask) (at - 1) x)
    params i d lt (past_one (get_or params i d) (drop (i + 1) params) cs mask at x some)

-- more terms than classes
pub short_classes : (has : ℕ → ℕ → Bool) (terms : List Term) (i : ℕ) (d : Term) (xs : List ℕ) → i < length terms → length xs < 1 → false ≡ terms_touch has (drop i terms) xs
short_classes has terms i d [] lt few = at_place (λ ts. false ≡ terms_touch has ts []) terms i d lt refl
short_classes has terms i d (x ∷ xs) lt few = absurd (omega arith)

-- nothing stands behind the end
pub past_end : {X : Type 0} (xs : List X) (i : ℕ) (d : X) → length xs ≤ i → get_or xs i d ≡ d
past_end [] i d le = refl
past_end (x ∷ xs) zero d le = absurd (omega arith)
past_end (x ∷ xs) (suc i) d le = past_end xs i d (omega arith)

plain_more : (p : Var) (rest : List Var) → p.interval ≡ false → plain_sorts (p ∷ rest) ≡ p.sort ∷ plain_sorts rest
plain_more p rest h = ap (λ b. cond b (plain_sorts rest) (p.sort ∷ plain_sorts rest)) h

plain_past : (p : Var) (rest : List Var) → p.interval ≡ true → plain_sorts (p ∷ rest) ≡ plain_sorts rest
plain_past p rest h = ap (λ b. cond b (plain_sorts rest) (p.sort ∷ plain_sorts rest)) h

-- a parameter's sort, where it is plain
pub next_plain : (params : List Var) (i : ℕ) (d : Var) → i < length params
    → plain_sorts (drop i params) ≡ cond (get_or params i d).interval (plain_sorts (drop (i + 1) params)) ((get_or params i d).sort ∷ plain_sorts (drop (i + 1) params))
next_plain params i d lt =
    at_place (λ ps. plain_sorts ps ≡ cond (get_or params i d).interval (plain_sorts (drop (i + 1) params)) ((get_or params i d).sort ∷ plain_sorts (drop (i + 1) params))) params i d lt refl

pub next_sort : (vars : List Var) (i : ℕ) (d : Var) → i < length vars → sorts_of (drop i vars) ≡ (get_or vars i d).sort ∷ sorts_of (drop (i + 1) vars)
next_sort vars i d lt = at_place (λ vs. sorts_of vs ≡ (get_or vars i d).sort ∷ sorts_of (drop (i + 1) vars)) vars i d lt refl

pub next_number : (xs : List ℕ) (i : ℕ) (d : ℕ) → i < length xs → drop i xs ≡ get_or xs i d ∷ drop (i + 1) xs
next_number xs i d lt = at_place (λ ys. ys ≡ get_or xs i d ∷ drop (i + 1) xs) xs i d lt refl

-- one place of a pattern, counted
pub count_step : (sorts : List ℕ) (i d : ℕ) (left : List ℕ) (e z : ℕ) → i < length sorts → 0 < length left
    → class_count (drop i sorts) left z ≡ cond (eqb (get_or sorts i d) z) (max (suc (get_or left 0 e)) (class_count (drop (i + 1) sorts) (drop 1 left) z)) (class_count (drop (i + 1) sorts) (drop 1 left) z)
count_step sorts i d [] e z lt some = absurd (omega arith)
count_step sorts i d (c ∷ cs) e z lt some =
    at_place (λ ss. class_count ss (c ∷ cs) z ≡ cond (eqb (get_or sorts i d) z) (max (suc c) (class_count (drop (i + 1) sorts) cs z)) (class_count (drop (i + 1) sorts) cs z)) sorts i d lt refl

pub count_none : (sorts left : List ℕ) (z : ℕ) → length left < 1 → class_count sorts left z ≡ 0
count_none [] left z few = refl
count_none (s ∷ sorts) [] z few = refl
count_none (s ∷ sorts) (c ∷ cs) z few = absurd (omega arith)

pub next_plain_len : (params : List Var) (i : ℕ) (d : Var) → i < length params → (get_or params i d).interval ≡ false
    → length (plain_sorts (drop i params)) ≡ suc (length (plain_sorts (drop (i + 1) params)))
next_plain_len params i d lt plain =
    ap length (next_plain params i d lt) ∙ ap (λ b. length (cond b (plain_sorts (drop (i + 1) params)) ((get_or params i d).sort ∷ plain_sorts (drop (i + 1) params)))) plain

next_plain_fewer : (params : List Var) → length (plain_sorts params) ≤ length params
next_plain_fewer [] = omega arith
next_plain_fewer (p ∷ params) = by_kind p.interval (next_plain_fewer params)
  where
    by_kind : (b : Bool) → length (plain_sorts params) ≤ length params → length (cond b (plain_sorts params) (p.sort ∷ plain_sorts params)) ≤ suc (length params)
    by_kind true h = omega arith
    by_kind false h = omega arith

few_params_at : (spec : Spec) (ops : List Op) (i : ℕ) → AllByRecursion (OpFits spec) ops → length (get_or ops i no_op).params ≤ 4
few_params_at spec [] i h = omega arith
few_params_at spec (o ∷ ops) zero h = h.0.few_params
few_params_at spec (o ∷ ops) (suc i) h = few_params_at spec ops i h.1

-- at most four plain parameters
pub few_plain : (spec : Spec) (i : ℕ) → IsWellFormed spec → length (plain_sorts (op_at spec i).params) ≤ 4
few_plain spec i wf =
    let a : length (op_at spec i).params ≤ 4 = few_params_at spec spec.ops i wf.ops in
    let b : length (plain_sorts (op_at spec i).params) ≤ length (op_at spec i).params = next_plain_fewer (op_at spec i).params in
    omega arith

few_vars_at : (spec : Spec) (clauses : List Clause) (i : ℕ) → AllByRecursion (ClauseFits spec) clauses → length (get_or clauses i no_clause).vars ≤ 4
few_vars_at spec [] i h = omega arith
few_vars_at spec (c ∷ clauses) zero h = h.0.few_vars
few_vars_at spec (c ∷ clauses) (suc i) h = few_vars_at spec clauses i h.1

pub few_vars_in : (spec : Spec) (i : ℕ) → IsWellFormed spec → length (clause_in spec i).vars ≤ 4
few_vars_in spec i wf = few_vars_at spec spec.clauses i wf.clauses

pub few_more : (spec : Spec) (i : ℕ) (old new : List ℕ) → IsWellFormed spec → new ≡ old ++ plain_sorts (op_at spec i).params → length new ≤ length old + 4
few_more spec i old new wf is =
    let a : length new ≡ length old + length (plain_sorts (op_at spec i).params) = ap length is ∙ length-append old (plain_sorts (op_at spec i).params) in
    let b : length (plain_sorts (op_at spec i).params) ≤ 4 = few_plain spec i wf in
    omega arith

pub next_item : {X : Type 0} (xs : List X) (i : ℕ) (d : X) → i < length xs → drop i xs ≡ get_or xs i d ∷ drop (i + 1) xs
next_item xs i d lt = at_place (λ ys. ys ≡ get_or xs i d ∷ drop (i + 1) xs) xs i d lt refl

pub none_left : {X : Type 0} (xs : List X) (i : ℕ) → length xs ≤ i → drop i xs ≡ []
none_left [] zero le = refl
none_left [] (suc i) le = refl
none_left (x ∷ xs) zero le = absurd (omega arith)
none_left (x ∷ xs) (suc i) le = none_left xs i (omega arith)

past_plain : (p : Var) (rest : List Var) (cs : List ℕ) (at : ℕ) → 0 < at → plain_class (p ∷ rest) cs at ≡ plain_class rest (cond p.interval cs (drop 1 cs)) (at - 1)
past_plain p rest cs zero lt = absurd (omega arith)
past_plain p rest cs (suc k) lt = ap (plain_class rest (cond p.interval cs (drop 1 cs))) (let z : k ≡ suc k - 1 = omega arith in z)

-- a parameter that isn't the one asked for
pub past_class : (params : List Var) (i : ℕ) (d : Var) (cs : List ℕ) (at : ℕ) → i < length params → 0 < at
    → plain_class (drop i params) cs at ≡ plain_class (drop (i + 1) params) (cond (get_or params i d).interval cs (drop 1 cs)) (at - 1)
past_class params i d cs at lt some =
    at_place (λ ps. plain_class ps cs at ≡ plain_class (drop (i + 1) params) (cond (get_or params i d).interval cs (drop 1 cs)) (at - 1))
    params i d lt (past_plain (get_or params i d) (drop (i + 1) params) cs at some)
