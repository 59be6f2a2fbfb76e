use Rattle.std.proofs.Common.{subst, ◌∙◌, arith}
use Rattle.ground_clauses.specs.Cases.{pair_cases}
use Rattle.certificate_check.specs.Walks.{Walks, row_cases}
use Rattle.certificate_check.proofs.Walks.{row_on, row_fails}
use Rattle.certificate_check.proofs.judge.check_row.Goals as goal

pub loop-b-preserved : goal.loop-b-preserved
loop-b-preserved c = record {
  comes = row_on c.args.spec.now c.args.plan.now c.args.lines.now c.args.at (row_cases c.args.spec.now c.args.a c.args.a) c.args.a c.loop-b.b c.loop-b.at c.in-Goes.next
      (omega (arith, c.loop-b-test.true, c.len-b-end.ensures.value)) c.loop-b.invariant.comes
      (subst (Walks c.args.spec.now c.args.plan.now c.args.lines.now c.loop-b.at (pair_cases c.args.spec.now c.args.a c.loop-b.b)) c.in-Goes.is c.in_ok-next.ensures.walk);
  over = c.check_pair.ensures.same ∙ c.loop-b.invariant.over;
}

pub returns-in-Fails-clause-walk : goal.returns-in-Fails-clause-walk
returns-in-Fails-clause-walk c =
    row_fails c.args.spec.now c.args.plan.now c.args.lines.now c.args.at (row_cases c.args.spec.now c.args.a c.args.a) c.args.a c.loop-b.b c.loop-b.at c.in-Fails.case c.in-Fails.why
    (omega (arith, c.loop-b-test.true, c.len-b-end.ensures.value)) c.loop-b.invariant.comes
    (subst (Walks c.args.spec.now c.args.plan.now c.args.lines.now c.loop-b.at (pair_cases c.args.spec.now c.args.a c.loop-b.b)) c.in-Fails.is c.in_ok-next.ensures.walk)
