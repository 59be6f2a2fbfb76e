use Rattle.std.proofs.Common.{◌≡◌, ◌++◌, take}
use Rattle.std.specs.List.{flat_map}
use Rattle.run_model.specs.Trace.{truth_line}
use Rattle.run_trace.proofs.last.put_truths.Given as goal

abbrev pub invariant-loop-atom : goal.invariant-loop-atom
invariant-loop-atom l = l.out ≡ l.fn.out ++ flat_map (truth_line l.spec l.me) (take l.atom-index l.truths)
