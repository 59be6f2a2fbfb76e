use Rattle.replica_links.proofs.Kept.{puts, holds_at_most}
use Rattle.replica_links.proofs.link.Link.put.Goals as goal

pub push_as-requires-clause-rule : goal.push_as-requires-clause-rule
push_as-requires-clause-rule g c = let may = c.args.pass.now.puts.0 in (puts _ _ _ _ may, holds_at_most _ _ may)
