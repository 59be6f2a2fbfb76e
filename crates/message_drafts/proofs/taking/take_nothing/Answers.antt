use Rattle.std.proofs.Common.{refl}
use Rattle.message_drafts.proofs.Decisions.{takes_nothing}
use Rattle.message_drafts.proofs.taking.take_nothing.Goals as goal

pub returns : goal.returns
returns c = λ setup v message. takes_nothing setup v message _ c.new.ensures refl refl refl
