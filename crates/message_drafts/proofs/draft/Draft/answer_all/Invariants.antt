use Rattle.std.specs.Prelude.{ℕ, List, take}
use Rattle.spec_model.specs.declared.log.LogItem.{LogItem}
use Rattle.message_laws.specs.Views.{View}
use Rattle.message_drafts.specs.Drafts.{HasAnswered, IsDraft}
use Rattle.message_drafts.proofs.draft.Draft.answer_all.Given as goal

-- the wants so far are answered
abbrev pub invariant-loop-want : goal.invariant-loop-want
invariant-loop-want l = (v : View) (from : ℕ) (before : List LogItem) → IsDraft l.setup v from before l.fn.self → HasAnswered l.setup v from before l.to (take l.want-index l.wants) l.fn.self l.self
