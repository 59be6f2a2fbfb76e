use Rattle.std.proofs.Common.{◌≡◌, ◌++◌, drop}
use Rattle.std.specs.Prelude.{map}
use Rattle.run_model.specs.Trace.{lasts_text}
use Rattle.run_trace.proofs.last.put_lasts.Given as goal

abbrev pub invariant-loop-me : goal.invariant-loop-me
invariant-loop-me l = l.out ++ lasts_text l.spec l.me (map (λ h. h.last) (drop l.me l.histories)) ≡ l.fn.out ++ lasts_text l.spec 0 (map (λ h. h.last) l.histories)
