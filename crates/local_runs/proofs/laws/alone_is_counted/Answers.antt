use Rattle.local_runs.proofs.Counted.{alone_counted}
use Rattle.local_runs.proofs.laws.alone_is_counted.Goals as goal

pub returns : goal.returns
returns c = alone_counted
