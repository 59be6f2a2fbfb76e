-- What is found of a case.
use Rattle.std.specs.Prelude.{◌≡◌, ◌<◌, Bool, true, false}
use Rattle.clause_solver.specs.Models.{IsLeastModel}
use Rattle.conflict_pairs.specs.declared.decided.Decided.{Decided}
use Rattle.conflict_pairs.specs.declared.decided.Decided.TheVariants.{Opposes, Model, Refuted}
use Rattle.ground_clauses.specs.Cases.{cnf_of}
use Rattle.ground_clauses.specs.Derivations.{refutes}
use Rattle.ground_clauses.specs.States.{IsShown, states_by}
use Rattle.ground_clauses.specs.declared.case.Case.{Case}
use Rattle.ground_clauses.specs.declared.case.Target.{Target}
use Rattle.ground_clauses.specs.declared.case.Target.TheVariants.{Clause as of_clause, Locked as of_pred}
use Rattle.ground_clauses.specs.declared.clauses.Cnf.{Cnf}
use Rattle.spec_model.specs.declared.spec.Spec.{Spec}

abbrev pub IsFound : Cnf → Target → Decided → Type 0
IsFound cnf (of_pred p) Opposes = Unit {0}
IsFound cnf (of_pred p) (Model m) = ⊥
IsFound cnf (of_pred p) (Refuted d) = ⊥
IsFound cnf (of_clause t) Opposes = ⊥
IsFound cnf (of_clause t) (Model m) = IsLeastModel cnf m
IsFound cnf (of_clause t) (Refuted d) = refutes cnf.clauses d.steps ≡ true

-- it opposes exactly for a locked target; else the query's least model, or a right derivation that ends in a step without literals
abbrev pub IsDecision : Spec → Case → Decided → Type 0
IsDecision spec k d = IsFound (cnf_of spec k) k.target d

abbrev pub IsShownBy : Spec → Case → Target → Decided → Type 0
IsShownBy spec k (of_clause t) (Model m) = IsShown spec k t (states_by spec k t m)
IsShownBy spec k t d = Unit {0}

-- the states of a model show how the two operations, each harmless alone, break the clause
abbrev pub ShowsWhy : Spec → Case → Decided → Type 0
ShowsWhy spec k d = IsShownBy spec k k.target d

-- the case is conflicting by what was found
abbrev pub tells_conflict : Decided → Bool
tells_conflict Opposes = true
tells_conflict (Model m) = true
tells_conflict (Refuted d) = false

-- the query has more than 128 variables; that of a locked target has none
abbrev pub IsHard : Spec → Case → Type 0
IsHard spec k = 128 < (cnf_of spec k).vars
