use Rattle.std.proofs.Common.{◌++◌, List, length, sym, ap, ◌∙◌, arith}
use Rattle.run_model.specs.declared.step.Order.{Order}
use Rattle.soak_documents.specs.Generating.{lines_from}
use Rattle.soak_documents.proofs.Formed.{turn_fits}
use Rattle.soak_documents.proofs.Goes.{lines_begin, schedule_more, one_longer, lines_end}
use Rattle.soak_documents.proofs.generating.schedule.Goals as goal

pub loop-number-init : goal.loop-number-init
loop-number-init c = (
  ap (λ (os : List Order). os ++ lines_from 20000 os 0 c.args.seed) c.new-lines.ensures.none ∙ lines_begin c.args.seed,
  c.new-lines.ensures.counted,
  ap length c.new-lines.ensures.none,
)

pub push-requires-clause-within : goal.push-requires-clause-within
push-requires-clause-within c = rw c.turn-order.ensures.order (turn_fits c.loop-number.lines.orders c.loop-number.number c.loop-number.state).within

pub loop-number-preserved : goal.loop-number-preserved
loop-number-preserved c = (
  schedule_more c.args.seed c.loop-number.number c.loop-number.state _ c.loop-number.lines.orders _ c.turn-order.result c.loop-number-test.true c.turn-order.ensures.order c.turn-order.ensures.state c.in_ok-push.ensures.ok c.loop-number.invariant.0,
  c.in_ok-push.ensures.counted,
  one_longer c.loop-number.number c.loop-number.lines.orders _ c.turn-order.result c.in_ok-push.ensures.ok c.loop-number.invariant.2,
)

pub returns : goal.returns
returns c = sym (lines_end c.loop-number.number c.loop-number.state c.loop-number.lines.orders _ (omega arith)) ∙ c.loop-number.invariant.0
