use Rattle.reservation_plan.proofs.Steps.{answer_few_locks, answer_few_parts, answer_fits, answer_stable}
use Rattle.reservation_plan.proofs.planning.derive.Goals as goal

pub returns-clause-fits : goal.returns-clause-fits
returns-clause-fits c = answer_fits c.args.spec.now c.analyse.result c.analyse.ensures.plan

pub returns-clause-stable : goal.returns-clause-stable
returns-clause-stable c = answer_stable c.args.spec.now c.analyse.result c.requires c.analyse.ensures.plan c.analyse.ensures.checks

pub returns-clause-few_locks : goal.returns-clause-few_locks
returns-clause-few_locks c = answer_few_locks c.args.spec.now c.analyse.result c.requires c.analyse.ensures.plan

pub returns-clause-few_parts : goal.returns-clause-few_parts
returns-clause-few_parts c = answer_few_parts c.args.spec.now c.analyse.result c.requires c.analyse.ensures.plan
