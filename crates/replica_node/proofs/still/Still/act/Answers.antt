use Rattle.std.proofs.Common.{[], refl}
use Rattle.std.specs.Prelude.{None}
use Rattle.replica_course.specs.Courses.{local_of, running_of}
use Rattle.replica_node.proofs.Acting.{acted, acted_not, acts_busy, acts_counted, acts_rest, acts_unrefused}
use Rattle.replica_node.proofs.still.Still.act.Goals as goal

-- src/still.rt:79:36
pub returns-in_err-entry-clause-stays : goal.returns-in_err-entry-clause-stays
returns-in_err-entry-clause-stays g c =
    acted_not g.S.Storage.keeps c.args.setup.now c.args.self.now (record c.args.self.now { course = c.step_with.new.course; storage = c.step_with.new.storage }) c.in_err-entry.ensures.own c.in_err-entry.ensures.kept c.in_err-entry.ensures.err refl

-- src/still.rt:63:5
pub returns-clause-stays : goal.returns-clause-stays
returns-clause-stays g c =
    acted g.S.Storage.keeps c.args.setup.now c.args.self.now (record c.args.self.now { course = c.step_with.new.course; storage = c.step_with.new.storage }) c.args.ask c.in_ok-entry.field-0 c.requires.acts
    c.in_ok-entry.ensures.own c.in_ok-entry.ensures.kept c.in_ok-entry.ensures.adds c.in_ok-entry.ensures.steps refl

-- src/still.rt:63:5
pub returns-clause-unrefused : goal.returns-clause-unrefused
returns-clause-unrefused g c =
    let running = running_of c.args.self.now.course in
    acts_unrefused c.args.setup.now c.args.self.now.course.me running c.args.ask (local_of c.args.setup.now.replicas [] c.args.self.now.course) _ None c.in_ok-entry.field-0.entry c.requires.acts refl c.in_ok-entry.ensures.adds.asked
    (c.in_ok-entry.ensures.local [] (acts_counted running c.args.ask [] c.requires.acts) tt)

pub returns-clause-rests : goal.returns-clause-rests
returns-clause-rests g c = λ down.
    let running = running_of c.args.self.now.course in
    acts_rest c.args.setup.now running c.args.ask [] _ c.args.self.now.course c.step_with.new.course None c.in_ok-entry.field-0.entry c.requires.acts refl down c.in_ok-entry.ensures.adds.asked
    (c.in_ok-entry.ensures.local [] (acts_counted running c.args.ask [] c.requires.acts) tt)

pub returns-clause-busy : goal.returns-clause-busy
returns-clause-busy g c = λ none.
    let running = running_of c.args.self.now.course in
    acts_busy running c.args.ask c.args.self.now.course c.step_with.new.course c.in_ok-entry.field-0.entry c.requires.acts c.in_ok-entry.ensures.adds.asked
    (λ down. acts_rest c.args.setup.now running c.args.ask [] _ c.args.self.now.course c.step_with.new.course None c.in_ok-entry.field-0.entry c.requires.acts refl down c.in_ok-entry.ensures.adds.asked
    (c.in_ok-entry.ensures.local [] (acts_counted running c.args.ask [] c.requires.acts) tt)) none
