use Rattle.std.proofs.Common.{inl, inr, sym, ◌∙◌}
use Rattle.std.proofs.lemmas.Bool.{false≢true}
use Rattle.indigo_program.proofs.Services.{indigo_complete, indigo_soaked}
use Rattle.indigo_program.proofs.top.indigo.Goals as goal

pub returns-then-asks_run-clause-answered : goal.returns-then-asks_run-clause-answered
returns-then-asks_run-clause-answered g c = inl (c.asks_run.ensures.0 c.if-asks_run.true, c.run.ensures)

pub returns-then-asks_run-clause-complete : goal.returns-then-asks_run-clause-complete
returns-then-asks_run-clause-complete g c = indigo_complete _ _ _ _ _ (returns-then-asks_run-clause-answered g c)

pub returns-then-asks_run-clause-soaked : goal.returns-then-asks_run-clause-soaked
returns-then-asks_run-clause-soaked g c = indigo_soaked _ _ _ _ _ (returns-then-asks_run-clause-answered g c)

pub returns-else-asks_run-clause-answered : goal.returns-else-asks_run-clause-answered
returns-else-asks_run-clause-answered g c = inr (λ asks. false≢true (sym c.if-asks_run.false ∙ c.asks_run.ensures.1 asks), c.tool.ensures.answered)

pub returns-else-asks_run-clause-complete : goal.returns-else-asks_run-clause-complete
returns-else-asks_run-clause-complete g c = indigo_complete _ _ _ _ _ (returns-else-asks_run-clause-answered g c)

pub returns-else-asks_run-clause-soaked : goal.returns-else-asks_run-clause-soaked
returns-else-asks_run-clause-soaked g c = indigo_soaked _ _ _ _ _ (returns-else-asks_run-clause-answered g c)
