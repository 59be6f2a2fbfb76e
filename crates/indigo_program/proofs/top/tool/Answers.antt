use Rattle.indigo_program.proofs.Answered.{complete, keeps_all, soak_complete}
use Rattle.indigo_program.proofs.top.tool.Goals as goal

pub returns-in-Some-clause-answered : goal.returns-in-Some-clause-answered
returns-in-Some-clause-answered g c = c.run_soak.ensures _ _ c.in-Some.ensures.some (keeps_all _)

pub returns-in-Some-clause-complete : goal.returns-in-Some-clause-complete
returns-in-Some-clause-complete g c = complete _ _ _ _ _ (returns-in-Some-clause-answered g c)

pub returns-in-Some-clause-soaked : goal.returns-in-Some-clause-soaked
returns-in-Some-clause-soaked g c = soak_complete _ _ _ _ _ (returns-in-Some-clause-answered g c)

pub returns-in-None-clause-complete : goal.returns-in-None-clause-complete
returns-in-None-clause-complete g c = complete _ _ _ _ _ c.obey.ensures

pub returns-in-None-clause-soaked : goal.returns-in-None-clause-soaked
returns-in-None-clause-soaked g c = soak_complete _ _ _ _ _ c.obey.ensures
