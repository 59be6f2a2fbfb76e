use Rattle.std.proofs.Common.{◌∙◌, arith}
use Rattle.ind_io.proofs.Flow.{Appends-front}
use Rattle.ind_io.proofs.stream.write_all.Goals as goal

pub loop-done-preserved : goal.loop-done-preserved
loop-done-preserved g c =
    let h = c.loop-done.invariant in
    let some = c.in_ok-done.ensures.bound in (
      omega (arith, some),
      Appends-front _ _ _ c.loop-done.done c.in_ok-done.field-0 c.args.bytes.now _ c.split_at.ensures.back h.1 c.in_ok-done.ensures.bytes,
      c.in_ok-done.ensures.cause.kept ∙ h.2,
      omega (arith, some.1 (omega (arith, c.split_at.ensures.back_len, c.loop-done-test.true)), c.in_ok-done.ensures.call, h.3),
    )
