use Rattle.std.proofs.Common.{sym, ◌∙◌}
use Rattle.std.proofs.lemmas.Bool.{eqb-true, eqb-false}
use Rattle.scenario_text.proofs.Fitting.{args_fit-short}
use Rattle.scenario_text.proofs.request.args_fit.Goals as goal

pub returns-then-is_empty : goal.returns-then-is_empty
returns-then-is_empty c = args_fit-short c.fitting.ps.now c.fitting.xs.now (eqb-false _ _ (sym c.is_empty.ensures ∙ c.fitting-test.true)) (eqb-true _ _ (sym c.is_empty-in-fitting.ensures ∙ c.if-is_empty.true)) ∙ c.fitting.invariant
