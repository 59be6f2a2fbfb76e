use Rattle.std.proofs.Common.{rules, arith}
use Rattle.desk_workers.proofs.Loads.{asks_at_here}
use Rattle.desk_workers.proofs.worker.count_asks.Goals as goal

pub overflow_cast-count : goal.overflow_cast-count
overflow_cast-count g c =
    let h = asks_at_here c.args.desk c.loop-worker.worker-index c.args.workers.now c.worker-item.result (search rules) (search rules) (search rules) in
    omega (arith, h, c.len.ensures.value, c.requires)

pub overflow_add-count : goal.overflow_add-count
overflow_add-count g c =
    let h = asks_at_here c.args.desk c.loop-worker.worker-index c.args.workers.now c.worker-item.result (search rules) (search rules) (search rules) in
    omega (arith, h, c.len.ensures.value, c.loop-worker.invariant, c.requires)
