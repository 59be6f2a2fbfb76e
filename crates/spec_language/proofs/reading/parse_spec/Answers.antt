use Rattle.std.proofs.Common.{◌+◌, ap, arith}
use Rattle.spec_language.proofs.Limits.{accept_keeps}
use Rattle.spec_language.proofs.ReadingSpecs.{spec-refused, spec-taken, spec-ended}
use Rattle.spec_language.proofs.Formed.{spec_formed}
use Rattle.spec_language.proofs.reading.parse_spec.Goals as goal

pub returns-in-Err-clause-value : goal.returns-in-Err-clause-value
returns-in-Err-clause-value c =
    rw c.at_line.ensures (spec-refused c.in-Err.error c.loop-line.number c.loop-line.line-index c.loop-line.draft c.args.lines.now c.as_slice.result.now c.line-item.result _ c.loop-line-test.true c.as_slice.ensures.value c.line-item.is c.in-Err.ensures c.loop-line.invariant.0)

pub loop-line-preserved : goal.loop-line-preserved
loop-line-preserved c =
    (spec-taken c.loop-line.number c.loop-line.line-index c.loop-line.draft _ c.args.lines.now c.as_slice.result.now c.line-item.result _ c.loop-line-test.true c.as_slice.ensures.value c.line-item.is c.in-Ok.ensures c.loop-line.invariant.0, ap (λ k. k + 1) c.loop-line.invariant.1, accept_keeps _ _ _ c.loop-line.invariant.2 c.in-Ok.ensures)

pub returns-clause-value : goal.returns-clause-value
returns-clause-value c = spec-ended c.loop-line.number c.loop-line.line-index c.loop-line.draft c.args.lines.now _ (omega arith) c.loop-line.invariant.0

pub returns-clause-formed : goal.returns-clause-formed
returns-clause-formed c = spec_formed c.args.lines.now c.loop-line.draft.spec (spec-ended c.loop-line.number c.loop-line.line-index c.loop-line.draft c.args.lines.now _ (omega arith) c.loop-line.invariant.0)
