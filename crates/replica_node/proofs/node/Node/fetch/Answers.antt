use Rattle.replica_node.proofs.Noded.{fetched_held, fetched_none}
use Rattle.replica_node.proofs.node.Node.fetch.Goals as goal

pub returns-in-Some-clause-own : goal.returns-in-Some-clause-own
returns-in-Some-clause-own g c =
    fetched_held g.S.Storage.keeps g.E.Ends.mark g.E.Ends.owner g.E.Ends.reaches g.E.Ends.room g.E.Ends.puts g.E.Ends.gots c.args.setup.now c.args.self.now c.hold.new.self c.get.new.self c.args.from c.in-Some.message c.requires.own c.requires.peer (c.is_free.ensures.0 c.if-is_free.true)
    c.in-Some.ensures.mark c.in-Some.ensures.puts c.in-Some.ensures.gots.0 c.in-Some.ensures.gots.1 c.hold.ensures

pub returns-in-None-clause-own : goal.returns-in-None-clause-own
returns-in-None-clause-own g c =
    fetched_none g.S.Storage.keeps g.E.Ends.mark g.E.Ends.owner g.E.Ends.reaches g.E.Ends.room g.E.Ends.puts g.E.Ends.gots c.args.setup.now c.args.self.now c.get.new.self c.requires.own c.in-None.ensures.mark c.in-None.ensures.puts c.in-None.ensures.gots
