use Rattle.std.proofs.Common.{◌≡◌}
use Rattle.certificate_check.specs.Walks.{cases_from}
use Rattle.certificate_check.proofs.Walks.{Comes}
use Rattle.certificate_check.proofs.judge.check_all.Given as goal

abbrev pub invariant-loop-a : goal.invariant-loop-a
invariant-loop-a l = record {
  comes : Comes l.spec l.plan l.lines 0 (cases_from l.spec 0) l.at (cases_from l.spec l.a);
  over : l.queries.over ≡ l.spec;
}
