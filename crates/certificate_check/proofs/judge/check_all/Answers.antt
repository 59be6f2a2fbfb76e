use Rattle.std.proofs.Common.{subst, ◌∙◌, arith}
use Rattle.certificate_check.specs.Walks.{Walks, cases_from, row_cases}
use Rattle.certificate_check.proofs.Walks.{all_ends, all_on, all_fails}
use Rattle.certificate_check.proofs.judge.check_all.Goals as goal

pub loop-a-preserved : goal.loop-a-preserved
loop-a-preserved c = record {
  comes = all_on c.args.spec.now c.args.plan.now c.args.lines.now 0 (cases_from c.args.spec.now 0) c.loop-a.a c.loop-a.at c.in-Goes.next
      (omega (arith, c.loop-a-test.true, c.len-a-end.ensures.value)) c.loop-a.invariant.comes
      (subst (Walks c.args.spec.now c.args.plan.now c.args.lines.now c.loop-a.at (row_cases c.args.spec.now c.loop-a.a c.loop-a.a)) c.in-Goes.is c.in_ok-next.ensures.walk);
  over = c.check_row.ensures.same ∙ c.loop-a.invariant.over;
}

pub returns-in-Fails : goal.returns-in-Fails
returns-in-Fails c =
    all_fails c.args.spec.now c.args.plan.now c.args.lines.now 0 (cases_from c.args.spec.now 0) c.loop-a.a c.loop-a.at c.in-Fails.case c.in-Fails.why
    (omega (arith, c.loop-a-test.true, c.len-a-end.ensures.value)) c.loop-a.invariant.comes
    (subst (Walks c.args.spec.now c.args.plan.now c.args.lines.now c.loop-a.at (row_cases c.args.spec.now c.loop-a.a c.loop-a.a)) c.in-Fails.is c.in_ok-next.ensures.walk)

pub returns : goal.returns
returns c =
    all_ends c.args.spec.now c.args.plan.now c.args.lines.now 0 (cases_from c.args.spec.now 0) c.loop-a.a c.loop-a.at
    (omega (arith, c.loop-a-test.false, c.len-a-end.ensures.value)) c.loop-a.invariant.comes
