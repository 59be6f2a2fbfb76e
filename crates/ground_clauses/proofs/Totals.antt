-- Counts of cases, one sort, target or operation after the other.
use Rattle.std.proofs.Common.{◌≡◌, ℕ, suc, ◌+◌, ◌-◌, ◌*◌, ◌^◌, ◌<◌, ◌≤◌, min, eqb, Bool, true, false, cond, List, ◌∷◌, length, get_or, sym, ap, subst, ◌∙◌, lit≤, arith}
use Rattle.std.specs.List.{sum_by}
use Rattle.std.proofs.Math.Nat.{pow-le-pow_right}
use Rattle.std.proofs.lemmas.List.Sums.{count_by-le-length, sum_by-cons}
use Rattle.ground_clauses.proofs.Counts.{before_few, before_sort, bits_few, few_classes, few_intervals, product_small, small_ways}
use Rattle.ground_clauses.proofs.Shapes.{clause_step, clauses_from, pred_step, preds_from}
use Rattle.ground_clauses.proofs.Stands.{op_one_interval}
use Rattle.ground_clauses.specs.Cases.{pattern_sorts, upto_from}
use Rattle.ground_clauses.specs.Counting.{class_ways, intervals, occurrences, product_below, sort_cases}
use Rattle.ground_clauses.specs.declared.case.Target.{Target}
use Rattle.ground_clauses.specs.declared.case.Target.TheVariants.{Clause as of_clause, Locked as of_pred}
use Rattle.spec_model.specs.Fits.{IsWellFormed}
use Rattle.spec_model.specs.Truths.{op_at, rule_locks, size_of}
use Rattle.spec_model.specs.declared.clause.Clause.{Clause}
use Rattle.spec_model.specs.declared.spec.Pred.{Pred}
use Rattle.spec_model.specs.declared.spec.Spec.{Spec}

pub one_interval_in : (spec : Spec) (i z : ℕ) → IsWellFormed spec → intervals z (op_at spec i).params ≤ 1
one_interval_in spec i z wf = few_intervals z (op_at spec i).params (op_one_interval spec spec.ops i wf.ops)

pub two_intervals : (spec : Spec) (a b z : ℕ) → IsWellFormed spec → intervals z (op_at spec a).params + intervals z (op_at spec b).params ≤ 2
two_intervals spec a b z wf =
    let one : intervals z (op_at spec a).params ≤ 1 = one_interval_in spec a z wf in
    let two : intervals z (op_at spec b).params ≤ 1 = one_interval_in spec b z wf in
    omega arith

pub few_elements : (z : ℕ) (sorts : List ℕ) → length sorts ≤ 12 → occurrences z sorts ≤ 12
few_elements z sorts few = let one : occurrences z sorts ≤ length sorts = count_by-le-length (λ s. eqb s z) sorts in omega arith

small_sort : (spec : Spec) (a b : ℕ) (t : Target) (z : ℕ) → IsWellFormed spec → length (pattern_sorts spec a b t) ≤ 12 → sort_cases spec a b t z ≤ 16 ^ occurrences z (pattern_sorts spec a b t)
small_sort spec a b t z wf few =
    let n : occurrences z (pattern_sorts spec a b t) ≤ 12 = few_elements z (pattern_sorts spec a b t) few in
    subst (λ x. x ≤ 16 ^ occurrences z (pattern_sorts spec a b t))
    (sym (few_classes (size_of spec z) (occurrences z (pattern_sorts spec a b t)) (intervals z (op_at spec a).params + intervals z (op_at spec b).params)))
    (small_ways (occurrences z (pattern_sorts spec a b t)) (intervals z (op_at spec a).params + intervals z (op_at spec b).params) (min (size_of spec z) (occurrences z (pattern_sorts spec a b t))) (omega arith)
    (bits_few (intervals z (op_at spec a).params + intervals z (op_at spec b).params) (two_intervals spec a b z wf)))

-- a pattern has at most twelve elements
pub small_product : (spec : Spec) (a b : ℕ) (t : Target) (z : ℕ) → IsWellFormed spec → length (pattern_sorts spec a b t) ≤ 12 → product_below (sort_cases spec a b t) z ≤ 2 ^ 48
small_product spec a b t z wf few =
    let one : product_below (sort_cases spec a b t) z ≤ 16 ^ before_sort z (pattern_sorts spec a b t) = product_small (sort_cases spec a b t) (pattern_sorts spec a b t) z (λ y. small_sort spec a b t y wf few) in
    let two : before_sort z (pattern_sorts spec a b t) ≤ length (pattern_sorts spec a b t) = before_few z (pattern_sorts spec a b t) in
    let three : 16 ^ before_sort z (pattern_sorts spec a b t) ≤ 16 ^ 12 = pow-le-pow_right {n = 16} (lit≤ tt) {i = before_sort z (pattern_sorts spec a b t)} {j = 12} (omega arith) in
    omega arith

pub next_product : (f : ℕ → ℕ) (z count x : ℕ) → count ≡ product_below f z → x ≡ f z → count * x ≡ product_below f (z + 1)
next_product f z count x is more = ap (λ c. c * x) is ∙ ap (λ y. product_below f z * y) more ∙ ap (product_below f) (let e : suc z ≡ z + 1 = omega arith in e)

-- the next sort of a pattern
pub next_sort : (spec : Spec) (a b : ℕ) (t : Target) (sorts : List ℕ) (z count x : ℕ) → sorts ≡ pattern_sorts spec a b t → count ≡ product_below (sort_cases spec a b t) z
    → x ≡ class_ways (size_of spec z) (occurrences z sorts) (intervals z (op_at spec a).params + intervals z (op_at spec b).params) → count * x ≡ product_below (sort_cases spec a b t) (z + 1)
next_sort spec a b t sorts z count x is was more =
    next_product (sort_cases spec a b t) z count x was (more ∙ ap (λ ss. class_ways (size_of spec z) (occurrences z ss) (intervals z (op_at spec a).params + intervals z (op_at spec b).params)) is)

pub small_count : (spec : Spec) (a b : ℕ) (t : Target) (sorts : List ℕ) (z count : ℕ) → IsWellFormed spec → sorts ≡ pattern_sorts spec a b t → length sorts ≤ 12
    → count ≡ product_below (sort_cases spec a b t) z → count ≤ 2 ^ 48
small_count spec a b t sorts z count wf is few was =
    subst (λ x. x ≤ 2 ^ 48) (sym was) (small_product spec a b t z wf (subst (λ (ss : List ℕ). length ss ≤ 12) is few))

-- ---- targets

pub next_clause : (spec : Spec) (f : Target → ℕ) (i : ℕ) (d : Clause) → i < length spec.clauses
    → sum_by f (clauses_from spec i) ≡ cond (get_or spec.clauses i d).mask 0 (f (of_clause i)) + sum_by f (clauses_from spec (i + 1))
next_clause spec f i d lt = ap (sum_by f) (clause_step spec i d lt) ∙ by_mask (get_or spec.clauses i d).mask
  where
    by_mask : (b : Bool) → sum_by f (cond b (clauses_from spec (i + 1)) (of_clause i ∷ clauses_from spec (i + 1))) ≡ cond b 0 (f (of_clause i)) + sum_by f (clauses_from spec (i + 1))
    by_mask true = let e : sum_by f (clauses_from spec (i + 1)) ≡ 0 + sum_by f (clauses_from spec (i + 1)) = omega arith in e
    by_mask false = sum_by-cons f (of_clause i) (clauses_from spec (i + 1))

pub next_pred : (spec : Spec) (f : Target → ℕ) (i : ℕ) (d : Pred) → i < length spec.preds
    → sum_by f (preds_from spec i) ≡ cond (rule_locks (get_or spec.preds i d).rule) (f (of_pred i)) 0 + sum_by f (preds_from spec (i + 1))
next_pred spec f i d lt = ap (sum_by f) (pred_step spec i d lt) ∙ by_rule (rule_locks (get_or spec.preds i d).rule)
  where
    by_rule : (b : Bool) → sum_by f (cond b (of_pred i ∷ preds_from spec (i + 1)) (preds_from spec (i + 1))) ≡ cond b (f (of_pred i)) 0 + sum_by f (preds_from spec (i + 1))
    by_rule true = sum_by-cons f (of_pred i) (preds_from spec (i + 1))
    by_rule false = let e : sum_by f (preds_from spec (i + 1)) ≡ 0 + sum_by f (preds_from spec (i + 1)) = omega arith in e

-- ---- operations

pub next_op : (f : ℕ → ℕ) (i len : ℕ) → i < len → sum_by f (upto_from i (len - i)) ≡ f i + sum_by f (upto_from (i + 1) (len - (i + 1)))
next_op f i len lt =
    ap (λ n. sum_by f (upto_from i n)) (let e : len - i ≡ suc (len - (i + 1)) = omega arith in e)
    ∙ sum_by-cons f i (upto_from (suc i) (len - (i + 1)))
    ∙ ap (λ j. f i + sum_by f (upto_from j (len - (i + 1)))) (let e : suc i ≡ i + 1 = omega arith in e)

-- a step of a sum that goes over the rest
pub next_sum : (count x rest more all : ℕ) → count + rest ≡ all → rest ≡ x + more → count + x + more ≡ all
next_sum count x rest more all is step = omega arith

pub none_after : (f : ℕ → ℕ) (i len : ℕ) → len ≤ i → sum_by f (upto_from i (len - i)) ≡ 0
none_after f i len le = ap (λ n. sum_by f (upto_from i n)) (let e : len - i ≡ 0 = omega arith in e)
