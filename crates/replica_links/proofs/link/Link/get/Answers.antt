use Rattle.replica_links.proofs.Kept.{takes, holds_the_rest}
use Rattle.replica_links.proofs.Parted.{counts_idle}
use Rattle.replica_links.proofs.link.Link.get.Goals as goal

pub pop_as-message-requires-clause-rule : goal.pop_as-message-requires-clause-rule
pop_as-message-requires-clause-rule g c = let may = c.args.pass.now.gets.1 in (takes _ _ may, holds_the_rest _ _ may)

pub another-requires-clause-rule : goal.another-requires-clause-rule
another-requires-clause-rule g c = counts_idle _ _
