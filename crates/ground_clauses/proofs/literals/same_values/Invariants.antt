use Rattle.std.proofs.Common.{◌≡◌, drop}
use Rattle.ground_clauses.specs.Query.{same_list}
use Rattle.spec_model.specs.Truths.{values}
use Rattle.ground_clauses.proofs.literals.same_values.Given as goal

abbrev pub invariant-loop-var : goal.invariant-loop-var
invariant-loop-var l = same_list (values l.classes (drop l.var-index l.vars)) l.left ≡ same_list (values l.classes l.vars) l.args
