use Rattle.ground_clauses.proofs.Fronts.{touched_at}
use Rattle.ground_clauses.proofs.touched.clause_behind.Goals as goal

pub returns : goal.returns
returns c = touched_at _ _ _ _ _ _ _ c.touches.ensures c.parts_of-parts.ensures.second c.clause_at.ensures c.parts_of-parts.ensures.target
