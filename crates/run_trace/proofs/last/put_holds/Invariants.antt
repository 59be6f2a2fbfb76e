use Rattle.std.proofs.Common.{◌≡◌, ◌++◌, take}
use Rattle.std.specs.List.{flat_map}
use Rattle.run_model.specs.Trace.{hold_line}
use Rattle.run_trace.proofs.last.put_holds.Given as goal

abbrev pub invariant-loop-hold : goal.invariant-loop-hold
invariant-loop-hold l = l.out ≡ l.fn.out ++ flat_map (hold_line l.spec l.me) (take l.hold-index l.holds)
