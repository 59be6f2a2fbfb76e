use Rattle.std.proofs.Common.{sym, subst, ◌+◌, arith}
use Rattle.replica_wires.specs.Settling.{AreSoFar, IsJoining, IsSettling}
use Rattle.replica_wires.proofs.Settles.{are_own, joins_more, row_settled}
use Rattle.replica_wires.proofs.web.Web.settle.Goals as goal

pub settle_link-requires-clause-own : goal.settle_link-requires-clause-own
settle_link-requires-clause-own g c =
    are_own c.args.self.now c.args.passes c.requires.own c.loop-me.me c.loop-from.from c.take_out-both.result c.loop-from.all.items c.take_out-both.new.all.items c.loop-me-test.true c.loop-from-test.true c.loop-from.invariant.settling c.take_out-both.ensures

pub loop-from-preserved : goal.loop-from-preserved
loop-from-preserved g c =
    subst (IsJoining c.args.self.now.replicas c.loop-me.me (c.loop-from.from + 1) c.args.passes c.take_out-both.new.all.items c.loop-me.left) (sym c.in_ok-push.ensures.ok)
    (joins_more c.args.self.now c.args.passes c.requires.own c.loop-me.me c.loop-from.from c.take_out-both.result c.loop-from.all.items c.take_out-both.new.all.items c.loop-me-test.true c.loop-from-test.true c.loop-from.invariant.settling c.take_out-both.ensures
    c.loop-me.left c.loop-from.lists c.in_ok-settle_link.field-0 c.loop-from.invariant c.in_ok-settle_link.ensures.left c.in_ok-settle_link.ensures.senders)

pub loop-me-preserved : goal.loop-me-preserved
loop-me-preserved g c =
    subst (λ left. IsSettling (c.loop-me.me + 1) 0 c.args.passes c.loop-from.all.items × AreSoFar c.args.self.now.replicas (c.loop-me.me + 1) c.args.passes left) (sym c.in_ok-push-2.ensures.ok)
    (row_settled c.args.self.now c.args.passes c.requires.own c.loop-me.me c.loop-from.from c.loop-from.all.items c.loop-me.left c.loop-from.lists (omega (arith, c.loop-from-test.false, c.loop-from.auto.from-end)) c.loop-from.invariant)
