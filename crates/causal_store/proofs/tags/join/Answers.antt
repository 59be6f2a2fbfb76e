use Rattle.std.proofs.Common.{arith, ap, length}
use Rattle.causal_store.proofs.Kept.{is_joined, join_done}
use Rattle.causal_store.proofs.tags.join.Goals as goal

pub returns : goal.returns
returns c =
    is_joined c.loop-at.cut c.args.cut.now c.args.other.now c.requires c.loop-at.invariant.long
    (join_done c.loop-at.cut c.args.cut.now c.args.other.now c.loop-at.at (omega (arith, c.loop-at-test.false, ap length c.as_slice-count-items.ensures.value)) c.loop-at.invariant.joined c.loop-at.invariant.others)
