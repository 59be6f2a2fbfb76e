use Rattle.std.proofs.Common.{◌≡◌, ◌++◌, ◌∷◌, take}
use Rattle.std.specs.List.{flat_map}
use Rattle.run_model.specs.Trace.{span_text}
use Rattle.run_trace.proofs.last.put_each_span.Given as goal

abbrev pub invariant-loop-span : goal.invariant-loop-span
invariant-loop-span l = l.out ≡ l.fn.out ++ flat_map (λ t. 32 ∷ span_text t) (take l.span-index l.spans)
