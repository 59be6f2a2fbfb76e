use Rattle.ground_clauses.proofs.Derives.{no_model}
use Rattle.ground_clauses.proofs.laws.no_model.Goals as goal

pub returns : goal.returns
returns c = no_model
