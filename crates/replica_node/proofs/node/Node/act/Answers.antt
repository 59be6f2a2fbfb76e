use Rattle.replica_node.proofs.Noded.{grows_if, node_stays}
use Rattle.replica_node.proofs.node.Node.act.Goals as goal

-- src/node.rt:115:5
pub returns-clause-own : goal.returns-clause-own
returns-clause-own g c =
    node_stays g.S.Storage.keeps g.E.Ends.mark g.E.Ends.owner g.E.Ends.reaches g.E.Ends.room g.E.Ends.puts g.E.Ends.gots c.args.setup.now c.args.self.now c.act.new.self c.requires.own c.act.ensures.stays
    (grows_if (g.E.Ends.room (g.E.Ends.mark c.args.self.now.ends)) c.args.ask c.args.self.now.still.course c.act.new.self.course c.act.result c.requires.own.full c.act.ensures.answers c.act.ensures.unrefused)
