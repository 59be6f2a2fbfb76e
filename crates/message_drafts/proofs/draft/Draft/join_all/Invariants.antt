use Rattle.std.specs.Prelude.{ℕ, take}
use Rattle.message_laws.specs.Views.{View}
use Rattle.message_drafts.specs.Drafts.{CanJoin, HasAccepted, MayJoin}
use Rattle.message_drafts.proofs.draft.Draft.join_all.Given as goal

-- what the items so far give was accepted
abbrev pub invariant-loop-at : goal.invariant-loop-at
invariant-loop-at l = (v : View) (from : ℕ) → MayJoin l.setup v l.me from l.items l.fn.self → CanJoin l.setup v from l.items l.at × HasAccepted l.setup v from (take l.at l.items) l.self
