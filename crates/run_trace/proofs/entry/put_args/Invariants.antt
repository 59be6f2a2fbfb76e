use Rattle.std.proofs.Common.{◌≡◌, ◌++◌, drop}
use Rattle.run_model.specs.Trace.{args_text}
use Rattle.run_trace.proofs.entry.put_args.Given as goal

abbrev pub invariant-loop-at : goal.invariant-loop-at
invariant-loop-at l = l.out ++ args_text l.at (drop l.at l.params) (drop l.at l.args) ≡ l.fn.out ++ args_text 0 l.params l.args
