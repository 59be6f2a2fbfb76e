use Rattle.std.proofs.Common.{sym, ◌∙◌}
use Rattle.std.proofs.lemmas.Bool.{eqb-true}
use Rattle.scenario_text.proofs.Fitting.{args_within-short}
use Rattle.scenario_text.proofs.request.args_within.Goals as goal

pub returns-then-is_empty : goal.returns-then-is_empty
returns-then-is_empty c = args_within-short c.args.sorts.now c.within.ps.now c.within.xs.now (eqb-true _ _ (sym c.is_empty-in-within.ensures ∙ c.if-is_empty.true)) ∙ c.within.invariant
