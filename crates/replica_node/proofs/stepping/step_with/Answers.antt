use Rattle.replica_node.proofs.Stepped.{local_if, steps_if}
use Rattle.replica_node.proofs.stepping.step_with.Goals as goal

-- src/stepping.rt:23:1
pub returns-clause-steps : goal.returns-clause-steps
returns-clause-steps g c =
    steps_if c.decided_grow.ensures c.args.setup.now c.args.ask c.args.heard.now c.args.course.now c.step.new.self c.step.result c.step.ensures.own c.requires.room c.requires.fits c.requires.numbered c.requires.in_hand c.requires.hand (c.has_stamp.ensures.0 c.if-not-has_stamp.false)
    c.step.ensures.steps

-- src/stepping.rt:23:1
pub returns-clause-local : goal.returns-clause-local
returns-clause-local g c = local_if c.args.setup.now c.args.ask c.args.heard.now c.args.course.now c.step.new.self c.step.result c.requires.hand (c.has_stamp.ensures.0 c.if-not-has_stamp.false) c.step.ensures.steps
