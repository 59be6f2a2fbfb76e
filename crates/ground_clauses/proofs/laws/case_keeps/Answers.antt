use Rattle.ground_clauses.proofs.Keeps.{case_keeps}
use Rattle.ground_clauses.proofs.laws.case_keeps.Goals as goal

pub returns : goal.returns
returns c = case_keeps
