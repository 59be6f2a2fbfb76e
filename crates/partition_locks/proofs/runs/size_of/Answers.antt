use Rattle.std.proofs.Common.{arith}
use Rattle.partition_locks.proofs.Counts.{size_is}
use Rattle.partition_locks.proofs.runs.size_of.Goals as goal

pub returns : goal.returns
returns c = omega (arith, size_is c.args.span.now)
