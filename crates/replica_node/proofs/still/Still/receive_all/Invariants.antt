use Rattle.std.proofs.Common.{◌≡◌, ◌++◌}
use Rattle.replica_node.specs.Closing.{HasReceived}
use Rattle.replica_node.specs.Nodes.{in_hand}
use Rattle.replica_node.proofs.still.Still.receive_all.Given as goal

abbrev pub invariant-loop-message : goal.invariant-loop-message
invariant-loop-message g l = (l.yielded ++ l.message-iterator.rest.items ≡ l.fn.left) × HasReceived g.S.Storage.keeps g.S.Storage.shows l.fn.setup l.fn.from (in_hand l.fn.self.hands l.fn.from ++ l.yielded) l.fn.self l.self
