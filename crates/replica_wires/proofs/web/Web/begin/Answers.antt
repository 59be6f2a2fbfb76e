use Rattle.std.proofs.Common.{refl, arith}
use Rattle.replica_wires.proofs.Woven.{have_theirs, all_unused}
use Rattle.replica_wires.proofs.web.Web.begin.Goals as goal

pub returns-clause-own : goal.returns-clause-own
returns-clause-own c =
    have_theirs c.args.rooms.now c.args.replicas c.loop-from.from c.loop-from.begun (omega (arith, c.loop-from-test.false, c.loop-from.auto.from-end)) c.loop-from.invariant _ c.from_vec.result refl refl c.from_vec.ensures

pub returns-clause-fresh : goal.returns-clause-fresh
returns-clause-fresh c =
    all_unused c.args.rooms.now c.args.replicas c.loop-from.from c.loop-from.begun (omega (arith, c.loop-from-test.false, c.loop-from.auto.from-end)) c.loop-from.invariant c.from_vec.result c.from_vec.ensures
