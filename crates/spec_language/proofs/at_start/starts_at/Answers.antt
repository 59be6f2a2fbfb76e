use Rattle.std.proofs.Common.{sym, ◌∙◌}
use Rattle.spec_language.specs.AtStart.{first_truths, starts_at}
use Rattle.spec_language.proofs.Instances.{premise_fails, conclusion_decides}
use Rattle.spec_language.proofs.at_start.starts_at.Goals as goal

pub returns-then-any_is : goal.returns-then-any_is
unfolding starts_at
returns-then-any_is c = c.if-any_is.true ∙ premise_fails (first_truths c.args.preds.now) c.args.args.now c.args.clause.now _ c.as_slice.ensures.value (sym c.any_is.ensures ∙ c.if-any_is.true)

pub returns-else-any_is : goal.returns-else-any_is
unfolding starts_at
returns-else-any_is c = c.any_is-else-any_is.ensures ∙ conclusion_decides (first_truths c.args.preds.now) c.args.args.now c.args.clause.now _ _ c.as_slice.ensures.value c.as_slice-else-any_is.ensures.value (sym c.any_is.ensures ∙ c.if-any_is.false)
