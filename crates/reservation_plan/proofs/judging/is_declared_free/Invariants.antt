use Rattle.std.proofs.Common.{◌≡◌, drop}
use Rattle.std.specs.List.{list_any}
use Rattle.reservation_plan.specs.Ends.{is_declared_free, joins}
use Rattle.reservation_plan.proofs.judging.is_declared_free.Given as goal

abbrev pub invariant-loop-pair : goal.invariant-loop-pair
invariant-loop-pair l = list_any (joins l.a l.b) (drop l.pair-index l.pair-items) ≡ is_declared_free l.fn.spec l.a l.b
