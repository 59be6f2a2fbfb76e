use Rattle.ground_clauses.proofs.Shown.{model_shows}
use Rattle.ground_clauses.proofs.laws.model_shows.Goals as goal

pub returns : goal.returns
returns c = model_shows
