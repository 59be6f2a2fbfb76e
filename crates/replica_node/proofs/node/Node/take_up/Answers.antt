use Rattle.std.specs.Prelude.{slice_index_or}
use Rattle.replica_course.specs.declared.heard.Heard.TheVariants as heards
use Rattle.replica_node.specs.Nodes.{number_in}
use Rattle.replica_node.proofs.Noded.{node_took}
use Rattle.replica_node.proofs.Taking.{peer_within, takes_none}
use Rattle.replica_node.proofs.node.Node.take_up.Goals as goal

pub returns-clause-own : goal.returns-clause-own
returns-clause-own g c =
    node_took g.S.Storage.keeps g.E.Ends.mark g.E.Ends.owner g.E.Ends.reaches g.E.Ends.room g.E.Ends.puts g.E.Ends.gots c.args.setup.now c.args.self.now c.fetch.new.self c.take_held.new.self c.args.from (number_in (slice_index_or c.fetch.new.self.still.hands c.args.from heards.Nothing)) c.take_held.result
    c.fetch.ensures.own c.fetch.ensures.course c.take_held.ensures.stays c.take_held.ensures.answers c.take_held.ensures.asked

pub returns-clause-idles : goal.returns-clause-idles
returns-clause-idles g c =
    let is = c.fetch.ensures.own in
    let lt = peer_within g.S.Storage.keeps c.args.setup.now c.args.self.now.still.course.me c.args.from is.taken (g.E.Ends.puts c.fetch.new.self.ends) c.fetch.new.self.still is.still c.requires.peer in
    takes_none c.args.from c.fetch.new.self.still.hands c.take_held.result (g.E.Ends.idles c.args.self.now.ends) (g.E.Ends.idles c.fetch.new.self.ends) is.still.from lt c.take_held.ensures.asked c.fetch.ensures.idles
