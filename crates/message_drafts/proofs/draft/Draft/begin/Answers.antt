use Rattle.message_drafts.proofs.Drafting.{begun}
use Rattle.message_drafts.proofs.draft.Draft.begin.Goals as goal

pub returns : goal.returns
returns c = λ v me from cut sees. begun c.args.setup.now v me from cut c.args.table.now _ c.tables_learn.ensures sees c.new.ensures c.begin.ensures
