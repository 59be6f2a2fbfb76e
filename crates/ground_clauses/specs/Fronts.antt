-- What of a touched case doesn't go by the second interval.
use Rattle.std.specs.Prelude.{ℕ, Bool, true, ◌&&◌, not, List, Option}
use Rattle.ground_clauses.specs.Cases.{case_sets, equalities_true, reaches, reaches_have, target_of, touches}
use Rattle.ground_clauses.specs.declared.case.Case.{Case}
use Rattle.ground_clauses.specs.declared.case.Target.{Target}
use Rattle.ground_clauses.specs.declared.case.Target.TheVariants.{Clause as of_clause, Locked as of_pred}
use Rattle.ground_clauses.specs.declared.touched.Acting.{Acting}
use Rattle.spec_model.specs.Truths.{lines_set}
use Rattle.spec_model.specs.declared.spec.Spec.{Spec}

-- what an operation sets at its classes
abbrev pub acts : Acting → ℕ → List ℕ → Option Bool
acts x = lines_set (reaches_have (reaches x.op.now.params x.classes.now x.bits)) x.op.now.lines

-- the clause's equalities don't make it true, and the first operation touches an atom of it
abbrev pub front_at : Spec → Case → ℕ → Bool
front_at spec k t = not (equalities_true (target_of spec k t)) && touches (case_sets spec k).one (target_of spec k t)

abbrev pub front_of : Spec → Case → Target → Bool
front_of spec k (of_clause t) = front_at spec k t
front_of spec k (of_pred p) = true

-- the case may be touched, whatever the second interval
abbrev pub is_front : Spec → Case → Bool
is_front spec k = front_of spec k k.target
