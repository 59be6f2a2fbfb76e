use Rattle.std.proofs.Common.{◌≡◌, drop}
use Rattle.reservation_plan.specs.Derived.{interval_sort}
use Rattle.reservation_plan.proofs.reserving.interval_sort.Given as goal

abbrev pub invariant-loop-param : goal.invariant-loop-param
invariant-loop-param l = interval_sort (drop l.param-index l.params) ≡ interval_sort l.params
