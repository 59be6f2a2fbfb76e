use Rattle.replica_world.proofs.Answered.{ready, stays_at, steps_at, stops_if}
use Rattle.replica_world.proofs.Kept.{kept_more, still_at}
use Rattle.replica_world.proofs.world.World.answer.Goals as goal

pub step-requires-clause-own : goal.step-requires-clause-own
step-requires-clause-own g c =
    (ready c.in_hand-heard.result.now c.requires.due c.requires.kept c.index_mut-course.ensures.value c.index_mut.ensures.value c.deref.ensures.value c.in_hand-heard.ensures).own

pub step-requires-clause-kept : goal.step-requires-clause-kept
step-requires-clause-kept g c =
    (ready c.in_hand-heard.result.now c.requires.due c.requires.kept c.index_mut-course.ensures.value c.index_mut.ensures.value c.deref.ensures.value c.in_hand-heard.ensures).kept

pub step-requires-clause-fits : goal.step-requires-clause-fits
step-requires-clause-fits g c =
    (ready c.in_hand-heard.result.now c.requires.due c.requires.kept c.index_mut-course.ensures.value c.index_mut.ensures.value c.deref.ensures.value c.in_hand-heard.ensures).fits

pub step-requires-clause-in_hand : goal.step-requires-clause-in_hand
step-requires-clause-in_hand g c =
    (ready c.in_hand-heard.result.now c.requires.due c.requires.kept c.index_mut-course.ensures.value c.index_mut.ensures.value c.deref.ensures.value c.in_hand-heard.ensures).in_hand

pub step-requires-clause-room : goal.step-requires-clause-room
step-requires-clause-room g c =
    (ready c.in_hand-heard.result.now c.requires.due c.requires.kept c.index_mut-course.ensures.value c.index_mut.ensures.value c.deref.ensures.value c.in_hand-heard.ensures).room

pub returns-clause-steps : goal.returns-clause-steps
returns-clause-steps g c =
    let r = ready c.in_hand-heard.result.now c.requires.due c.requires.kept c.index_mut-course.ensures.value c.index_mut.ensures.value c.deref.ensures.value c.in_hand-heard.ensures in
    steps_at c.args.setup.now c.args.me c.args.ask.now c.args.self.now.links.items c.args.self.now.courses.items c.index_mut-course.result.now c.step.new.self c.in_hand-heard.result.now c.step.result r.was r.at_hand c.step.ensures.own c.step.ensures.steps

pub returns-clause-err : goal.returns-clause-err
returns-clause-err g c =
    let r = ready c.in_hand-heard.result.now c.requires.due c.requires.kept c.index_mut-course.ensures.value c.index_mut.ensures.value c.deref.ensures.value c.in_hand-heard.ensures in
    stays_at c.args.setup.now c.args.me c.args.self.now.courses.items c.index_mut-course.result.now c.step.new.self c.step.result r.was c.step.ensures.own c.step.ensures.err

pub returns-clause-kept : goal.returns-clause-kept
returns-clause-kept g c =
    let r = ready c.in_hand-heard.result.now c.requires.due c.requires.kept c.index_mut-course.ensures.value c.index_mut.ensures.value c.deref.ensures.value c.in_hand-heard.ensures in
    kept_more g.S.Storage.keeps c.args.setup.now c.args.me c.args.self.now.courses.items c.args.self.now.storages.items c.index_mut-course.result.now c.step.new.self c.index_mut.result.now c.step.new.storage r.was r.had c.step.ensures.kept c.requires.kept

pub returns-clause-stops : goal.returns-clause-stops
returns-clause-stops g c =
    let r = ready c.in_hand-heard.result.now c.requires.due c.requires.kept c.index_mut-course.ensures.value c.index_mut.ensures.value c.deref.ensures.value c.in_hand-heard.ensures in
    stops_if g.S.Storage.shows c.args.setup.now c.args.me c.args.ask.now c.args.self.now.courses.items c.args.self.now.storages.items c.index_mut-course.result.now c.step.new.self c.index_mut.result.now c.step.new.storage c.in_hand-heard.result.now c.step.result r.was r.had c.step.ensures.steps c.step.ensures.err c.step.ensures.costs

pub returns-clause-still : goal.returns-clause-still
returns-clause-still g c =
    let r = ready c.in_hand-heard.result.now c.requires.due c.requires.kept c.index_mut-course.ensures.value c.index_mut.ensures.value c.deref.ensures.value c.in_hand-heard.ensures in
    still_at g.S.Storage.keeps c.args.setup.now c.args.me c.args.self.now.storages.items c.index_mut.result.now c.step.new.storage c.step.result r.had c.step.ensures.still
