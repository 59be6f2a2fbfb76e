use Rattle.replica_node.proofs.Turned.{turned}
use Rattle.replica_node.proofs.served.ServedTurn.turn.Goals as goal

pub invariant_of-self : goal.invariant_of-self
invariant_of-self g c =
    turned g.S.Storage.keeps g.S.Storage.shows g.E.Ends.mark g.E.Ends.owner g.E.Ends.reaches g.E.Ends.room g.E.Ends.puts g.E.Ends.gots g.E.Ends.idles c.self.inside.setup.now
    c.self.inside.first.value c.self.inside.node c.step.new.self c.args.ask c.step.result c.self.invariant c.step.ensures.own c.step.ensures.answers c.step.ensures.mark c.step.ensures.costs c.step.ensures.idles
