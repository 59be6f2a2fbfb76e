use Rattle.rights_table.proofs.Giving.{never_refused}
use Rattle.rights_table.proofs.holding.give_count.Goals as goal

pub unreachable-requires : goal.unreachable-requires
unreachable-requires c = never_refused c.give.result c.in-Err.field-0 c.args.escrow.now.count c.args.n c.give.ensures.lacks c.give.ensures.memory c.requires c.in-Err.is
