use Rattle.std.specs.Prelude.{take}
use Rattle.std.specs.List.{AllByRecursion}
use Rattle.causal_delivery.specs.Rows.{IsSeenBut}
use Rattle.causal_delivery.proofs.admission.ready_count.Given as goal

-- all items before this one were seen
abbrev pub invariant-loop-at : goal.invariant-loop-at
invariant-loop-at l = AllByRecursion (λ item. IsSeenBut item.deps l.cut item.origin) (take l.at l.items)
