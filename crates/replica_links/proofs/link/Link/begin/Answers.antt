use Rattle.std.proofs.Common.{rules}
use Rattle.replica_links.proofs.Kept.{begins}
use Rattle.replica_links.proofs.Parted.{parts_ends}
use Rattle.replica_links.proofs.link.Link.begin.Goals as goal

pub ruled-requires-clause-rule : goal.ruled-requires-clause-rule
ruled-requires-clause-rule g c = begins

pub another-get-requires-clause-rule : goal.another-get-requires-clause-rule
another-get-requires-clause-rule g c = parts_ends _ _ (search rules) (search rules)
