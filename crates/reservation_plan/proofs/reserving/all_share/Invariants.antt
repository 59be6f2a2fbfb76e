use Rattle.std.proofs.Common.{◌≡◌, drop}
use Rattle.std.specs.List.{list_all}
use Rattle.certificate_check.specs.Separation.{shares}
use Rattle.reservation_plan.proofs.reserving.all_share.Given as goal

abbrev pub invariant-loop-case : goal.invariant-loop-case
invariant-loop-case l = list_all shares (drop l.case-index l.cases) ≡ list_all shares l.cases
