use Rattle.std.proofs.Common.{◌≡◌, map, take}
use Rattle.run_trace.proofs.order.copies.Given as goal

abbrev pub invariant-loop-entry : goal.invariant-loop-entry
invariant-loop-entry l = l.all ≡ map (λ e. e.now) (take l.entry-index l.entries)
