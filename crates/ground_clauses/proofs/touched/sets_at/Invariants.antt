use Rattle.std.proofs.Common.{◌≡◌, drop}
use Rattle.std.specs.Prelude.{is_some}
use Rattle.spec_model.specs.Truths.{lines_set, values}
use Rattle.ground_clauses.specs.Cases.{reaches, reaches_have}
use Rattle.ground_clauses.proofs.touched.sets_at.Given as goal

abbrev pub invariant-loop-line : goal.invariant-loop-line
invariant-loop-line l =
    is_some (lines_set (reaches_have (reaches l.acting.op.now.params l.acting.classes.now l.acting.bits)) (drop l.line-index l.acting.op.now.lines) l.pred (values l.classes l.vars))
    ≡ is_some (lines_set (reaches_have (reaches l.acting.op.now.params l.acting.classes.now l.acting.bits)) l.acting.op.now.lines l.pred (values l.classes l.vars))
