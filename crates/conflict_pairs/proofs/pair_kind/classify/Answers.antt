use Rattle.std.proofs.Common.{[], subst, sym, ◌∙◌}
use Rattle.std.proofs.lemmas.Result.{err_from_is_err_and}
use Rattle.clause_solver.specs.declared.answer.SolveError.TheVariants as errors
use Rattle.conflict_pairs.proofs.Passing.{IsPassing, ends_free, ends_stuck, ends_violating, handed_on, passed_easy, passes_on, violating_easy}
use Rattle.ground_clauses.specs.Cases.{pair_cases}
use Rattle.conflict_pairs.proofs.pair_kind.classify.Goals as goal

pub returns-in_err-decided-clause-cause : goal.returns-in_err-decided-clause-cause
returns-in_err-decided-clause-cause c = λ n is.
    let p = err_from_is_err_and c.from_residual-in_err-decided.result c.from_residual-in_err-decided.ensures.1 in
    ends_stuck c.args.spec.now (pair_cases c.args.spec.now c.args.a c.args.b) c.going.opposing c.going.left c.in-Some.case c.next.new.self n c.going.invariant.passing c.in-Some.ensures.steps
    (c.decide_in.ensures.cause n (handed_on c.from_residual-in_err-decided.result c.decide_in.result p.0 c.in_err-decided.field-0.0 (errors.TooHard n) p.1 p.2 c.in_err-decided.was is))

pub returns-in-Ends-clause-kind : goal.returns-in-Ends-clause-kind
returns-in-Ends-clause-kind c =
    ends_violating c.args.spec.now (pair_cases c.args.spec.now c.args.a c.args.b) c.going.opposing c.going.left c.in-Some.case c.next.new.self c.in_ok-decided.decided c.in-Ends.model
    c.going.invariant.passing c.in-Some.ensures.steps c.in_ok-decided.ensures.decision (sym c.in-Ends.is ∙ c.turn_of.ensures)

pub returns-in-Ends-clause-easy : goal.returns-in-Ends-clause-easy
returns-in-Ends-clause-easy c = λ n.
    violating_easy c.args.spec.now (pair_cases c.args.spec.now c.args.a c.args.b) c.going.opposing c.going.left c.in-Some.case c.next.new.self c.in_ok-decided.decided c.in-Ends.model n
    c.going.invariant.passing c.in-Some.ensures.steps c.in_ok-decided.ensures.easy c.in_ok-decided.ensures.decision (sym c.in-Ends.is ∙ c.turn_of.ensures)

pub going-preserved : goal.going-preserved
going-preserved c = record {
  passing = passes_on c.args.spec.now (pair_cases c.args.spec.now c.args.a c.args.b) c.going.opposing c.going.left c.in-Some.case c.next.new.self c.in_ok-decided.decided c.in-Goes.next
      c.going.invariant.passing c.in-Some.ensures.steps c.in_ok-decided.ensures.easy c.in_ok-decided.ensures.decision (sym c.in-Goes.is ∙ c.turn_of.ensures);
  over = c.decide_in.ensures.same ∙ c.going.invariant.over;
}

pub returns-in-Some-opposing-clause-easy : goal.returns-in-Some-opposing-clause-easy
returns-in-Some-opposing-clause-easy c = λ n.
    passed_easy c.args.spec.now (pair_cases c.args.spec.now c.args.a c.args.b) c.going.opposing c.going.left n c.going.invariant.passing c.in_default.ensures.steps.0

pub returns-clause-kind : goal.returns-clause-kind
returns-clause-kind c =
    ends_free c.args.spec.now (pair_cases c.args.spec.now c.args.a c.args.b)
    (subst (λ o. IsPassing c.args.spec.now (pair_cases c.args.spec.now c.args.a c.args.b) o []) c.in-None.is
    (subst (IsPassing c.args.spec.now (pair_cases c.args.spec.now c.args.a c.args.b) c.going.opposing) c.in_default.ensures.steps.0 c.going.invariant.passing))

pub returns-clause-easy : goal.returns-clause-easy
returns-clause-easy c = λ n.
    passed_easy c.args.spec.now (pair_cases c.args.spec.now c.args.a c.args.b) c.going.opposing c.going.left n c.going.invariant.passing c.in_default.ensures.steps.0
