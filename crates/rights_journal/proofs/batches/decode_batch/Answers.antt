use Rattle.std.proofs.Common.{Option, List, subst}
use Rattle.std.specs.Prelude.{IfSome, IfNone}
use Rattle.spec_model.specs.declared.log.LogItem.{LogItem}
use Rattle.run_model.specs.declared.batch.Batch.{Batch}
use Rattle.op_records.specs.Spelling.{Spells}
use Rattle.rights_journal.proofs.Texts.{spelled, other, nowhere}
use Rattle.rights_journal.proofs.batches.decode_batch.Goals as goal

pub returns-in-None : goal.returns-in-None
returns-in-None c = λ b fine is.
    let none = subst (λ (r : Option Batch). IfNone r ((items : List LogItem) → Spells c.args.bytes.now items → ⊥)) c.in-None.is c.in_ok-decode_items.ensures.none in
    nowhere c.args.replicas c.args.bytes.now none b fine is

pub returns-then-is_among : goal.returns-then-is_among
returns-then-is_among c =
    let some = subst (λ (r : Option Batch). IfSome r (λ b. Spells c.args.bytes.now b.items)) c.in-Some.is c.in_ok-decode_items.ensures.some in
    spelled c.args.replicas c.args.bytes.now c.in-Some.batch some (c.is_among.ensures.yes c.if-is_among.true)

pub returns-else-is_among : goal.returns-else-is_among
returns-else-is_among c = λ b fine is.
    let some = subst (λ (r : Option Batch). IfSome r (λ b. Spells c.args.bytes.now b.items)) c.in-Some.is c.in_ok-decode_items.ensures.some in
    other c.args.replicas c.args.bytes.now c.in-Some.batch some (c.is_among.ensures.no c.if-is_among.false) b fine is
