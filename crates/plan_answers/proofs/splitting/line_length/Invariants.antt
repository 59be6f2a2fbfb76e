use Rattle.plan_answers.specs.Splitting.{HasNoEnd}
use Rattle.plan_answers.proofs.splitting.line_length.Given as goal

abbrev pub invariant-loop-at : goal.invariant-loop-at
invariant-loop-at l = HasNoEnd l.at l.bytes
