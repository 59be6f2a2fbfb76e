-- What cases, queries and derivations show of instances.
use Rattle.std.specs.Prelude.{◌≡◌, ℕ, ◌<◌, Bool, true, false, List, [], ◌∷◌, Contains, Option}
use Rattle.std.specs.List.{AllByRecursion}
use Rattle.ground_clauses.specs.Cases.{classes_in, is_touched, query_of, reaches_a, reaches_b, reaches_have, target_cases, target_classes, target_sorts}
use Rattle.ground_clauses.specs.Derivations.{HasNoModel, refutes}
use Rattle.ground_clauses.specs.Numbering.{case_of, naming_of, pattern_of}
use Rattle.ground_clauses.specs.Query.{Hypothesis, Sets, numbered_clauses}
use Rattle.ground_clauses.specs.declared.case.Case.{Case}
use Rattle.ground_clauses.specs.declared.case.Target.{Target}
use Rattle.ground_clauses.specs.declared.clauses.Lit.{Lit}
use Rattle.ground_clauses.specs.declared.clauses.Step.{Step}
use Rattle.spec_model.specs.Fits.{InstFits, IsWellFormed}
use Rattle.spec_model.specs.Stable.{IsRow, touch_of}
use Rattle.spec_model.specs.Truths.{Holds, Truths, Within, clause_in, inst_has, inst_sets, instance_true, op_at, size_of, sort_of, var_sorts, wins}
use Rattle.spec_model.specs.declared.clause.Clause.{Clause}
use Rattle.spec_model.specs.declared.instance.Inst.{Inst}
use Rattle.spec_model.specs.declared.spec.Spec.{Spec}
use Rattle.spec_model.specs.declared.state.Moment.{Moment}
use Rattle.spec_model.specs.declared.state.Moment.TheVariants.{Both, First, Second, Start}

-- the elements that the classes name
abbrev pub names : (ℕ → ℕ → ℕ) → List ℕ → List ℕ → List ℕ
names n [] cs = cs
names n (s ∷ sorts) [] = []
names n (s ∷ sorts) (c ∷ cs) = n s c ∷ names n sorts cs

-- a case stands for two instances and an assignment, under a naming n that gives each class of a sort an element
pub record StandsFor (spec : Spec) (k : Case) (n : ℕ → ℕ → ℕ) (e o : Inst) (xs : List ℕ) : Type 0 where
  pub apart : (s c d : ℕ) → n s c ≡ n s d → c ≡ d
  pub fits : (s c : ℕ) → c < classes_in spec k s → n s c < size_of spec s
  pub op_a : e.op ≡ k.a
  pub op_b : o.op ≡ k.b
  pub args_a : (i c : ℕ) → reaches_have (reaches_a spec k) i c ≡ inst_has e i (n (sort_of (op_at spec k.a).params i) c)
  pub args_b : (i c : ℕ) → reaches_have (reaches_b spec k) i c ≡ inst_has o i (n (sort_of (op_at spec k.b).params i) c)
  pub within : Within (classes_in spec k) (target_sorts spec k.target) (target_classes spec k)
  pub target : names n (target_sorts spec k.target) (target_classes spec k) ≡ xs

-- four states that the table permits everywhere, by what the two set
abbrev pub IsQuadrupleOf : Spec → (ℕ → List ℕ → Option Bool) → (ℕ → List ℕ → Option Bool) → (Moment → Truths) → Type 0
IsQuadrupleOf spec one other q = (p : ℕ) (xs : List ℕ) → IsRow (wins spec p) (touch_of (wins spec p) (one p xs)) (touch_of (wins spec p) (other p xs)) (λ m. q m p xs)

abbrev pub before_both : Moment → Bool
before_both Start = true
before_both First = true
before_both Second = true
before_both Both = false

-- Where the query has no model and contains its target among the hypotheses, the target is true with both.
abbrev pub RefutedHolds : Type 0
RefutedHolds = (spec : Spec) (sets : Sets) (t : Hypothesis) (hs : List Hypothesis) (q : Moment → Truths)
    → IsQuadrupleOf spec sets.one sets.other q
    → Contains hs t
    → AllByRecursion (λ h. (m : Moment) → before_both m ≡ true → instance_true (q m) h.classes h.clause ≡ true) hs
    → HasNoModel (numbered_clauses spec sets t hs)
    → instance_true (q Both) t.classes t.clause ≡ true

-- A right derivation leaves no model.
abbrev pub DerivationRefutes : Type 0
DerivationRefutes = (clauses : List (List Lit)) (steps : List Step) → refutes clauses steps ≡ true → HasNoModel clauses

-- A refuted case, or one that isn't touched, keeps its target for all that it stands for.
abbrev pub CaseKeeps : Type 0
CaseKeeps = (spec : Spec) (k : Case) (t : ℕ) (n : ℕ → ℕ → ℕ) (e o : Inst) (xs : List ℕ) (q : Moment → Truths)
    → IsWellFormed spec
    → target_sorts spec k.target ≡ var_sorts (clause_in spec t)
    → Contains spec.clauses (clause_in spec t)
    → StandsFor spec k n e o xs
    → (is_touched spec k t ≡ true → HasNoModel (query_of spec k t))
    → IsQuadrupleOf spec (inst_sets spec e) (inst_sets spec o) q
    → ((m : Moment) (c : Clause) → before_both m ≡ true → Contains spec.clauses c → Holds spec (q m) c)
    → instance_true (q Both) xs (clause_in spec t) ≡ true

-- Every two instances with every assignment have their case in the canonical list.
abbrev pub HasItsCase : Type 0
HasItsCase = (spec : Spec) (t : Target) (e o : Inst) (xs : List ℕ)
    → IsWellFormed spec → InstFits spec e → InstFits spec o
    → Within (size_of spec) (target_sorts spec t) xs
    → Contains (target_cases spec e.op o.op t) (case_of spec t e o xs) × StandsFor spec (case_of spec t e o xs) (naming_of spec (pattern_of spec t e o xs)) e o xs
