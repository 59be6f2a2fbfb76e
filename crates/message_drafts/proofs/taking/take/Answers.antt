use Rattle.message_drafts.proofs.Decisions.{takes_silent}
use Rattle.message_drafts.proofs.taking.take.Goals as goal

pub returns-then-not-is_addressed : goal.returns-then-not-is_addressed
returns-then-not-is_addressed c = λ v sees. takes_silent c.args.setup.now v c.args.me c.args.cut.now c.args.table.now c.args.message.now _ c.is_addressed.result sees c.is_addressed.ensures c.if-not-is_addressed.true (c.take_nothing.ensures c.args.setup.now v c.args.message.now)
