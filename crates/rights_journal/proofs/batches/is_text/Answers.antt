use Rattle.std.proofs.Common.{refl}
use Rattle.rights_journal.proofs.Texts.{spelled}
use Rattle.rights_journal.proofs.batches.is_text.Goals as goal

pub returns-then-is_spelled : goal.returns-then-is_spelled
returns-then-is_spelled c = λ yes. spelled c.args.replicas c.args.bytes.now c.args.batch.now (c.if-is_spelled.ensures refl) (c.is_among.ensures.yes yes)
