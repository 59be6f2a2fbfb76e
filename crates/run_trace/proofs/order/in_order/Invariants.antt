use Rattle.std.proofs.Common.{map, take}
use Rattle.run_trace.specs.Merging.{IsMerged}
use Rattle.run_trace.proofs.order.in_order.Given as goal

abbrev pub invariant-loop-history : goal.invariant-loop-history
invariant-loop-history l = IsMerged (take l.history-index l.histories) (map (λ e. e.now) l.entries.items)
