use Rattle.std.proofs.Common.{◌+◌, ◌-◌, ◌/◌, arith}
use Rattle.partition_locks.proofs.Halves.{end_before_next}
use Rattle.partition_locks.proofs.runs.place_of.Goals as goal

pub halving-preserved-then-runs-middle : goal.halving-preserved-then-runs-middle
halving-preserved-then-runs-middle c = record {
  ordered = omega (arith, c.halving-test.true);
  within = c.halving.invariant.within;
  before = end_before_next (c.halving.low + (c.halving.high - c.halving.low) / 2) c.args.x c.args.runs.now _ c.requires (omega (arith, c.halving-test.true, c.halving.invariant.within)) c.if-runs-middle.true;
  reaches = c.halving.invariant.reaches;
}
