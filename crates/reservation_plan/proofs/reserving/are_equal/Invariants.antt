use Rattle.std.proofs.Common.{◌≡◌, drop}
use Rattle.std.specs.List.{list_all}
use Rattle.certificate_check.specs.Separation.{pair_meets}
use Rattle.reservation_plan.proofs.reserving.are_equal.Given as goal

abbrev pub invariant-loop-case : goal.invariant-loop-case
invariant-loop-case l = list_all (λ k. pair_meets l.spec k l.places) (drop l.case-index l.cases) ≡ list_all (λ k. pair_meets l.spec k l.places) l.cases
