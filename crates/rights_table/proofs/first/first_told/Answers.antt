use Rattle.std.proofs.Common.{ap, ◌∙◌}
use Rattle.run_model.specs.Rights.{even_share}
use Rattle.rights_table.proofs.Untouched.{low_told, high_told, lock_told, entry_told}
use Rattle.rights_table.proofs.first.first_told.Goals as goal

pub returns-in-Low : goal.returns-in-Low
returns-in-Low c = λ t mine none.
    c.told.ensures ∙ low_told c.args.setup.now t c.args.me c.args.right.now c.in-Low.cell c.first_counted.result c.args.span.now c.in-Low.is mine none c.first_counted.ensures.kind (c.first_counted.ensures.count ∙ ap (λ n. even_share n c.args.setup.now.replicas c.args.me) c.first_low.ensures.value)

pub returns-in-High : goal.returns-in-High
returns-in-High c = λ t mine none.
    c.told-in-High.ensures ∙ high_told c.args.setup.now t c.args.me c.args.right.now c.in-High.cell c.first_counted-in-High.result c.args.span.now c.in-High.is mine none c.first_counted-in-High.ensures.kind (c.first_counted-in-High.ensures.count ∙ ap (λ n. even_share n c.args.setup.now.replicas c.args.me) c.first_high.ensures.value)

pub returns-in-Lock : goal.returns-in-Lock
returns-in-Lock c = λ t mine none.
    c.told-in-Lock.ensures ∙ lock_told c.args.setup.now t c.args.me c.args.right.now c.in-Lock.lock c.in-Lock.key c.first_share.result c.args.span.now c.in-Lock.is mine none c.first_share.ensures.kind c.first_share.ensures.mode (c.first_share.ensures.count c.args.me)

pub returns-in-Entry : goal.returns-in-Entry
returns-in-Entry c = λ t mine none.
    c.told-in-Entry.ensures ∙ entry_told c.args.setup.now t c.args.me c.args.right.now c.in-Entry.clause c.in-Entry.args c.in-Entry.literal c.first_share-in-Entry.result c.args.span.now c.in-Entry.is mine none c.first_share-in-Entry.ensures.kind c.first_share-in-Entry.ensures.mode (c.first_share-in-Entry.ensures.count c.args.me)
