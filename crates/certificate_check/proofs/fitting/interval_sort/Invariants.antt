use Rattle.std.proofs.Common.{◌≡◌, drop}
use Rattle.certificate_check.specs.Fitting.{interval_sort}
use Rattle.certificate_check.proofs.fitting.interval_sort.Given as goal

abbrev pub invariant-loop-param : goal.invariant-loop-param
invariant-loop-param l = interval_sort (drop l.param-index l.params) ≡ interval_sort l.params
