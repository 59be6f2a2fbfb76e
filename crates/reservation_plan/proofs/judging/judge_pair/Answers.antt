use Rattle.std.proofs.Common.{◌∙◌}
use Rattle.std.proofs.lemmas.Result.{err_from_is_err_and}
use Rattle.ground_clauses.specs.Cases.{pair_cases}
use Rattle.reservation_plan.proofs.Coming.{comes_first, comes_on, comes_refused}
use Rattle.reservation_plan.proofs.judging.judge_pair.Goals as goal

pub going-init : goal.going-init
going-init c = record {
  comes = comes_first c.args.spec.now (pair_cases c.args.spec.now c.args.pair.a c.args.pair.b) c.in_ok-left.left c.none-judgements.result c.none-judgements.ensures c.in_ok-left.ensures.value c.in_ok-left.ensures.touched;
  over = c.requires.over;
}

pub going-preserved : goal.going-preserved
going-preserved c = record {
  comes = comes_on c.args.spec.now (pair_cases c.args.spec.now c.args.pair.a c.args.pair.b) c.going.left c.next.new.self c.in-Some.case c.going.judgements c.judge.new.self c.going.invariant.comes c.in-Some.ensures.steps c.in_ok-judge.ensures.ok;
  over = c.judge.ensures.same ∙ c.going.invariant.over;
}

pub returns-in_err-judge-clause-err : goal.returns-in_err-judge-clause-err
returns-in_err-judge-clause-err c =
    let p = err_from_is_err_and c.from_residual-in_err-judge.result c.from_residual-in_err-judge.ensures.1 in
    rw (p.1, p.2) (comes_refused c.args.spec.now (pair_cases c.args.spec.now c.args.pair.a c.args.pair.b) c.going.left c.next.new.self c.in-Some.case c.going.judgements _ c.going.invariant.comes c.in-Some.ensures.steps c.in_err-judge.ensures.err)
