use Rattle.std.proofs.Common.{◌≡◌, inr, ◌≤◌, length, drop, true, false, sym, ap, subst, ◌∙◌, arith}
use Rattle.line_text.specs.Lines.{lines_of}
use Rattle.plan_answers.specs.Splitting.{IsFirstLine, has_plan_first}
use Rattle.plan_answers.proofs.Cut.{before_more, none_left, split_front, split_rest}
use Rattle.plan_answers.proofs.splitting.plan_place.Goals as goal

pub returns-then-begins_plan-clause-front : goal.returns-then-begins_plan-clause-front
returns-then-begins_plan-clause-front c =
    let is : has_plan_first (lines_of (drop c.going.at c.args.bytes.now)) ≡ true = ap (λ r. has_plan_first (lines_of r)) (sym c.split_at.ensures.back) ∙ sym c.begins_plan.ensures ∙ c.if-begins_plan.true in
    split_front c.args.bytes.now c.going.at c.going.invariant (inr is)

pub returns-then-begins_plan-clause-rest : goal.returns-then-begins_plan-clause-rest
returns-then-begins_plan-clause-rest c =
    let is : has_plan_first (lines_of (drop c.going.at c.args.bytes.now)) ≡ true = ap (λ r. has_plan_first (lines_of r)) (sym c.split_at.ensures.back) ∙ sym c.begins_plan.ensures ∙ c.if-begins_plan.true in
    split_rest c.args.bytes.now c.going.at c.going.invariant (inr is)

pub going-preserved : goal.going-preserved
going-preserved c =
    let other : has_plan_first (lines_of (drop c.going.at c.args.bytes.now)) ≡ false = ap (λ r. has_plan_first (lines_of r)) (sym c.split_at.ensures.back) ∙ sym c.begins_plan.ensures ∙ c.if-begins_plan.false in
    before_more c.args.bytes.now c.going.at c.line_length-at.result c.going-test.true c.going.invariant (subst (λ r. IsFirstLine r c.line_length-at.result) c.split_at.ensures.back c.line_length-at.ensures) other

pub returns-clause-front : goal.returns-clause-front
returns-clause-front c = split_front c.args.bytes.now c.going.at c.going.invariant (none_left c.args.bytes.now c.going.at (omega (arith, c.going-test.false)))

pub returns-clause-rest : goal.returns-clause-rest
returns-clause-rest c = split_rest c.args.bytes.now c.going.at c.going.invariant (none_left c.args.bytes.now c.going.at (omega (arith, c.going-test.false)))
