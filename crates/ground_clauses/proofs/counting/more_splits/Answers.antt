use Rattle.std.proofs.Common.{◌-◌, arith}
use Rattle.ground_clauses.proofs.Counts.{row_small}
use Rattle.ground_clauses.proofs.counting.more_splits.Goals as goal

pub ways_with_one-requires-clause-joined : goal.ways_with_one-requires-clause-joined
ways_with_one-requires-clause-joined c = row_small c.args.count c.loop-k.k c.args.row.now c.requires.row (omega arith) (omega arith)

pub ways_with_one-requires-clause-alone : goal.ways_with_one-requires-clause-alone
ways_with_one-requires-clause-alone c = row_small c.args.count (c.loop-k.k - 1) c.args.row.now c.requires.row (omega arith) (omega arith)
