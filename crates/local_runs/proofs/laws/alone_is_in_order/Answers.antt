use Rattle.local_runs.proofs.Rising.{alone_in_order}
use Rattle.local_runs.proofs.laws.alone_is_in_order.Goals as goal

pub returns : goal.returns
returns c = alone_in_order
