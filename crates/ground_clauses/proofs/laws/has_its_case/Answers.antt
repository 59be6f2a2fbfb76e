use Rattle.ground_clauses.proofs.Stands.{has_its_case}
use Rattle.ground_clauses.proofs.laws.has_its_case.Goals as goal

pub returns : goal.returns
returns c = has_its_case
