use Rattle.rights_table.proofs.Giving.{never_refused}
use Rattle.rights_table.proofs.holding.give_shares.Goals as goal

pub unreachable-requires : goal.unreachable-requires
unreachable-requires c = never_refused c.give.result c.in-Err.field-0 c.args.held.now.shares c.args.piece.shares c.give.ensures.lacks c.give.ensures.memory c.requires.held c.in-Err.is
