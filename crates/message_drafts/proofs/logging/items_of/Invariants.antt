use Rattle.message_drafts.proofs.Logged.{AreLogged}
use Rattle.message_drafts.proofs.logging.items_of.Given as goal

-- the bodies so far were logged
abbrev pub invariant-loop-body : goal.invariant-loop-body
invariant-loop-body l = AreLogged l.me l.fn.cut l.bodies l.body-index l.items l.seen
