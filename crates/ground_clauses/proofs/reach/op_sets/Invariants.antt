use Rattle.std.proofs.Common.{◌≡◌, drop}
use Rattle.spec_model.specs.Truths.{lines_set, or_else}
use Rattle.ground_clauses.specs.Cases.{reaches, reaches_have}
use Rattle.ground_clauses.proofs.reach.op_sets.Given as goal

abbrev pub invariant-loop-line : goal.invariant-loop-line
invariant-loop-line l = or_else (lines_set (reaches_have (reaches l.op.params l.classes l.bits)) (drop l.line-index l.op.lines) l.pred l.args) l.found ≡ lines_set (reaches_have (reaches l.op.params l.classes l.bits)) l.op.lines l.pred l.args
