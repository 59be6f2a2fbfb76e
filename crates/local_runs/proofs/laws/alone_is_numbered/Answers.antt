use Rattle.local_runs.proofs.Numbered.{alone_numbered}
use Rattle.local_runs.proofs.laws.alone_is_numbered.Goals as goal

pub returns : goal.returns
returns c = alone_numbered
