use Rattle.std.proofs.Common.{◌≡◌, take}
use Rattle.spec_model.specs.Truths.{values}
use Rattle.ground_clauses.proofs.touched.values.Given as goal

abbrev pub invariant-loop-var : goal.invariant-loop-var
invariant-loop-var l = l.out ≡ values l.classes (take l.var-index l.vars)
