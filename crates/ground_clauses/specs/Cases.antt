-- Cases: two operations, a target, and classes that stand for elements.
use Rattle.std.specs.Prelude.{ℕ, zero, suc, ◌-◌, ◌<◌, min, max, Bool, true, false, ◌&&◌, not, if◌then◌else◌, eqb, List, [], ◌∷◌, ◌++◌, length, get_or, take, drop, map, filter, flat_map, is_some, Some, None, Option}
use Rattle.std.specs.List.{list_any}
use mathlib.Core.Bool.{beq}
use Rattle.ground_clauses.specs.Bits.{bits_number, has_bit}
use Rattle.ground_clauses.specs.Query.{Hypothesis, Sets, instance_atoms, numbered_clauses, same_atom, variables_of}
use Rattle.ground_clauses.specs.declared.case.Case.{Case}
use Rattle.ground_clauses.specs.declared.case.Target.{Target}
use Rattle.ground_clauses.specs.declared.case.Target.TheVariants.{Clause as of_clause, Locked as of_pred}
use Rattle.ground_clauses.specs.declared.clauses.Cnf.{Cnf}
use Rattle.ground_clauses.specs.declared.clauses.Lit.{Lit}
use Rattle.ground_clauses.specs.declared.state_lit.Variable.{Variable}
use Rattle.spec_model.specs.Truths.{Signed, clause_in, lines_set, literals, op_at, pred_at, rule_locks, size_of, var_sorts}
use Rattle.spec_model.specs.declared.clause.Clause.{Clause}
use Rattle.spec_model.specs.declared.clause.Literal.{Literal}
use Rattle.spec_model.specs.declared.clause.Literal.TheVariants.{Atom, Equal}
use Rattle.spec_model.specs.declared.clause.Var.{Var}
use Rattle.spec_model.specs.declared.spec.Pred.{Pred}
use Rattle.spec_model.specs.declared.spec.Spec.{Spec}

-- ---- classes

-- the classes in which a parameter's argument lies: one, or those of an interval by bits
pub data Reach : Type 0 where
  point : (class : ℕ) → Reach
  bits : (mask : ℕ) → Reach

abbrev pub reach_has : Reach → ℕ → Bool
reach_has (point c) x = eqb c x
reach_has (bits mask) x = has_bit mask x

-- by the classes of the plain parameters in order, and the bits of the interval parameter
abbrev pub reaches : List Var → List ℕ → ℕ → List Reach
reaches [] cs mask = []
reaches (p ∷ params) cs mask = if p.interval then bits mask ∷ reaches params cs mask else point (get_or cs 0 0) ∷ reaches params (drop 1 cs) mask

abbrev pub reaches_have : List Reach → ℕ → ℕ → Bool
reaches_have rs i x = reach_has (get_or rs i (bits 0)) x

-- the class at this place, counted over all parameters; none for an interval
abbrev pub plain_class : List Var → List ℕ → ℕ → Option ℕ
plain_class [] cs i = None
plain_class (p ∷ params) cs zero = if p.interval then None else Some (get_or cs 0 0)
plain_class (p ∷ params) cs (suc i) = plain_class params (if p.interval then cs else drop 1 cs) i

abbrev pub plain_sorts : List Var → List ℕ
plain_sorts [] = []
plain_sorts (p ∷ params) = if p.interval then plain_sorts params else p.sort ∷ plain_sorts params

abbrev pub sorts_of : List Var → List ℕ
sorts_of vars = map (λ v. v.sort) vars

-- the sorts of a clause's variables, or of a predicate's places
abbrev pub target_sorts : Spec → Target → List ℕ
target_sorts spec (of_clause i) = var_sorts (clause_in spec i)
target_sorts spec (of_pred p) = (pred_at spec p).sorts

-- the sorts of the pattern's elements: a's plain parameters, b's plain parameters, the target's variables
abbrev pub pattern_sorts : Spec → ℕ → ℕ → Target → List ℕ
pattern_sorts spec a b t = plain_sorts (op_at spec a).params ++ (plain_sorts (op_at spec b).params ++ target_sorts spec t)

abbrev pub TargetKnown : Spec → Target → Type 0
TargetKnown spec (of_clause t) = t < length spec.clauses
TargetKnown spec (of_pred p) = p < length spec.preds

-- the case's operations and its target are declared
pub record CaseKnown (spec : Spec) (k : Case) : Type 0 where
  pub known_a : k.a < length spec.ops
  pub known_b : k.b < length spec.ops
  pub known_target : TargetKnown spec k.target

abbrev pub count_a : Spec → Case → ℕ
count_a spec k = length (plain_sorts (op_at spec k.a).params)

abbrev pub count_b : Spec → Case → ℕ
count_b spec k = length (plain_sorts (op_at spec k.b).params)

abbrev pub reaches_a : Spec → Case → List Reach
reaches_a spec k = reaches (op_at spec k.a).params (take (count_a spec k) k.classes) k.bits_a

abbrev pub reaches_b : Spec → Case → List Reach
reaches_b spec k = reaches (op_at spec k.b).params (take (count_b spec k) (drop (count_a spec k) k.classes)) k.bits_b

abbrev pub target_classes : Spec → Case → List ℕ
target_classes spec k = drop (count_b spec k) (drop (count_a spec k) k.classes)

-- the class of a plain parameter of the first operation, and of the second
abbrev pub class_a : Spec → Case → ℕ → Option ℕ
class_a spec k i = plain_class (op_at spec k.a).params (take (count_a spec k) k.classes) i

abbrev pub class_b : Spec → Case → ℕ → Option ℕ
class_b spec k i = plain_class (op_at spec k.b).params (take (count_b spec k) (drop (count_a spec k) k.classes)) i

-- what the two operations set at the case's classes
abbrev pub case_sets : Spec → Case → Sets
case_sets spec k = record {
  one = lines_set (reaches_have (reaches_a spec k)) (op_at spec k.a).lines;
  other = lines_set (reaches_have (reaches_b spec k)) (op_at spec k.b).lines;
}

abbrev pub target_of : Spec → Case → ℕ → Hypothesis
target_of spec k t = record { clause = clause_in spec t; classes = target_classes spec k }

-- how many classes of a sort there are
abbrev pub class_count : List ℕ → List ℕ → ℕ → ℕ
class_count [] cs z = 0
class_count (s ∷ sorts) [] z = 0
class_count (s ∷ sorts) (c ∷ cs) z = if eqb s z then max (suc c) (class_count sorts cs z) else class_count sorts cs z

abbrev pub classes_in : Spec → Case → ℕ → ℕ
classes_in spec k z = class_count (pattern_sorts spec k.a k.b k.target) k.classes z

-- ---- touched

abbrev pub touches : (ℕ → List ℕ → Option Bool) → Hypothesis → Bool
touches sets t = list_any (λ a. is_some (sets a.pred a.args)) (instance_atoms t)

abbrev pub equality_holds : List ℕ → Bool → Literal → Bool
equality_holds cs sign (Atom p vars) = false
equality_holds cs sign (Equal l r) = beq (eqb (get_or cs l 0) (get_or cs r 0)) sign

abbrev pub equality_true : List ℕ → Signed → Bool
equality_true cs l = equality_holds cs l.sign l.literal

-- its equalities make the clause true
abbrev pub equalities_true : Hypothesis → Bool
equalities_true h = list_any (equality_true h.classes) (literals h.clause)

-- both operations touch an atom of the clause, and its equalities don't make it true
abbrev pub is_touched : Spec → Case → ℕ → Bool
is_touched spec k t = touches (case_sets spec k).one (target_of spec k t) && touches (case_sets spec k).other (target_of spec k t) && not (equalities_true (target_of spec k t))

abbrev pub opposite_truths : Option Bool → Option Bool → Bool
opposite_truths (Some true) (Some false) = true
opposite_truths (Some false) (Some true) = true
opposite_truths _ _ = false

-- the two give the locked predicate's atom opposite truths
abbrev pub opposes : Spec → Case → ℕ → Bool
opposes spec k p = opposite_truths ((case_sets spec k).one p (target_classes spec k)) ((case_sets spec k).other p (target_classes spec k))

-- of a locked predicate only the opposing cases count as touched
abbrev pub touched_by : Spec → Case → Target → Bool
touched_by spec k (of_clause t) = is_touched spec k t
touched_by spec k (of_pred p) = opposes spec k p

abbrev pub is_touched_case : Spec → Case → Bool
is_touched_case spec k = touched_by spec k k.target

-- ---- hypotheses

-- the n numbers from k on
abbrev pub upto_from : ℕ → ℕ → List ℕ
upto_from k zero = []
upto_from k (suc n) = k ∷ upto_from (suc k) n

-- all lists of classes of these sorts, in lexicographic order
abbrev pub assignments : (ℕ → ℕ) → List ℕ → List (List ℕ)
assignments count [] = [] ∷ []
assignments count (s ∷ sorts) = flat_map (λ c. map (λ cs. c ∷ cs) (assignments count sorts)) (upto_from 0 (count s))

abbrev pub over : Clause → List ℕ → Hypothesis
over c cs = record { clause = c; classes = cs }

-- it has an atom in common with the target, and its equalities don't make it true
abbrev pub is_relevant : Hypothesis → Hypothesis → Bool
is_relevant t h = list_any (λ a. list_any (same_atom a) (instance_atoms t)) (instance_atoms h) && not (equalities_true h)

abbrev pub clause_hypotheses : (ℕ → ℕ) → Hypothesis → Clause → List Hypothesis
clause_hypotheses count t c = filter (is_relevant t) (map (over c) (assignments count (var_sorts c)))

abbrev pub hypotheses : Spec → (ℕ → ℕ) → Hypothesis → List Hypothesis
hypotheses spec count t = flat_map (clause_hypotheses count t) spec.clauses

abbrev pub case_hypotheses : Spec → Case → ℕ → List Hypothesis
case_hypotheses spec k t = hypotheses spec (classes_in spec k) (target_of spec k t)

-- the clauses of a case's query, about the clause t
abbrev pub query_of : Spec → Case → ℕ → List (List Lit)
query_of spec k t = numbered_clauses spec (case_sets spec k) (target_of spec k t) (case_hypotheses spec k t)

abbrev pub case_variables : Spec → Case → ℕ → List Variable
case_variables spec k t = variables_of spec (case_sets spec k) (case_hypotheses spec k t)

abbrev pub clause_cnf : Spec → Case → ℕ → Cnf
clause_cnf spec k t = record { vars = length (case_variables spec k t); clauses = query_of spec k t }

abbrev pub target_cnf : Spec → Case → Target → Cnf
target_cnf spec k (of_clause t) = clause_cnf spec k t
target_cnf spec k (of_pred p) = record { vars = 0; clauses = [] }

-- the query of a case; there is none for a locked predicate
abbrev pub cnf_of : Spec → Case → Cnf
cnf_of spec k = target_cnf spec k k.target

-- ---- canonical order

abbrev pub grown : (ℕ → ℕ) → ℕ → ℕ → ℕ → ℕ
grown used s c z = if eqb s z then max (suc c) (used z) else used z

-- each class is one already used in that sort or the next one, and at most as many as the sort has elements
abbrev pub class_lists : (ℕ → ℕ) → (ℕ → ℕ) → List ℕ → List (List ℕ)
class_lists size used [] = [] ∷ []
class_lists size used (s ∷ sorts) = flat_map (λ c. map (λ cs. c ∷ cs) (class_lists size (grown used s c) sorts)) (upto_from 0 (min (size s) (suc (used s))))

-- class 0 first, 0 before 1
abbrev pub bit_lists : ℕ → List (List Bool)
bit_lists zero = [] ∷ []
bit_lists (suc n) = flat_map (λ b. map (λ bs. b ∷ bs) (bit_lists n)) (false ∷ true ∷ [])

-- how many classes the sort of an interval parameter has; none, where there is no such parameter
abbrev pub interval_classes : (ℕ → ℕ) → List Var → ℕ
interval_classes count [] = 0
interval_classes count (p ∷ params) = if p.interval then count p.sort else interval_classes count params

abbrev pub case_at : ℕ → ℕ → Target → List ℕ → List Bool → List Bool → Case
case_at a b t cs ba bb = record { a = a; b = b; target = t; classes = cs; bits_a = bits_number ba; bits_b = bits_number bb }

abbrev pub class_cases : Spec → ℕ → ℕ → Target → List ℕ → List Case
class_cases spec a b t cs = let count = class_count (pattern_sorts spec a b t) cs in
    flat_map (λ ba. map (λ bb. case_at a b t cs ba bb) (bit_lists (interval_classes count (op_at spec b).params))) (bit_lists (interval_classes count (op_at spec a).params))

-- all cases of a pair and a target, touched or not
abbrev pub target_cases : Spec → ℕ → ℕ → Target → List Case
target_cases spec a b t = flat_map (class_cases spec a b t) (class_lists (size_of spec) (λ z. 0) (pattern_sorts spec a b t))

-- the clauses that aren't marked, from place i on
abbrev pub clause_targets : ℕ → List Clause → List Target
clause_targets i [] = []
clause_targets i (c ∷ clauses) = if c.mask then clause_targets (suc i) clauses else of_clause i ∷ clause_targets (suc i) clauses

-- the locked predicates
abbrev pub pred_targets : ℕ → List Pred → List Target
pred_targets i [] = []
pred_targets i (p ∷ preds) = if rule_locks p.rule then of_pred i ∷ pred_targets (suc i) preds else pred_targets (suc i) preds

abbrev pub targets : Spec → List Target
targets spec = clause_targets 0 spec.clauses ++ pred_targets 0 spec.preds

-- all touched cases of a pair
abbrev pub pair_cases : Spec → ℕ → ℕ → List Case
pair_cases spec a b = filter (is_touched_case spec) (flat_map (target_cases spec a b) (targets spec))

-- all touched cases
abbrev pub touched_cases : Spec → List Case
touched_cases spec = flat_map (λ a. flat_map (pair_cases spec a) (upto_from a (length spec.ops - a))) (upto_from 0 (length spec.ops))
