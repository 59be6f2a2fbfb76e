use Rattle.std.proofs.Common.{◌≡◌}
use Rattle.certificate_check.specs.Walks.{row_cases}
use Rattle.certificate_check.proofs.Walks.{Comes}
use Rattle.certificate_check.proofs.judge.check_row.Given as goal

abbrev pub invariant-loop-b : goal.invariant-loop-b
invariant-loop-b l = record {
  comes : Comes l.spec l.plan l.lines l.fn.at (row_cases l.spec l.a l.a) l.at (row_cases l.spec l.a l.b);
  over : l.queries.over ≡ l.spec;
}
