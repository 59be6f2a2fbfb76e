use Rattle.replica_wires.proofs.Begins.{link_more}
use Rattle.replica_wires.proofs.begun.Begun.add_row.Goals as goal

pub loop-to-preserved : goal.loop-to-preserved
loop-to-preserved c =
    link_more c.args.rooms.now c.args.replicas c.args.from c.loop-to.to c.loop-to.self c.add_link.new.self c.loop-to-test.true c.loop-to.invariant c.in_ok-add_link.ensures
