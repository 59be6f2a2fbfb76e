use Rattle.std.proofs.Common.{arith, sym, subst}
use Rattle.replica_course.specs.Parts.{HasStayed}
use Rattle.replica_course.proofs.Seen.{course_spelled}
use Rattle.replica_course.proofs.course.Course.attempt.Goals as goal

pub append-requires : goal.append-requires
append-requires g c =
    let old = c.args.self.now in
    let spelled = course_spelled c.args.setup.now old c.args.batch.now c.requires.own c.requires.up c.requires.decided c.requires.some c.requires.room in
    record { kept = (c.args.setup.now.replicas, old.kept, c.requires.kept, spelled, omega (arith, c.requires.own.few_kept, c.requires.room)) }

pub returns-in-Ok-clause-kept : goal.returns-in-Ok-clause-kept
returns-in-Ok-clause-kept g c =
    let old = c.args.self.now in
    let spelled = course_spelled c.args.setup.now old c.args.batch.now c.requires.own c.requires.up c.requires.decided c.requires.some c.requires.room in
    c.in-Ok.ensures.kept c.args.setup.now.replicas old.kept c.requires.kept spelled (omega (arith, c.requires.own.few_kept, c.requires.room))

pub returns-in-Err-clause-err : goal.returns-in-Err-clause-err
returns-in-Err-clause-err g c =
    subst (HasStayed c.args.setup.now c.args.self.now) (sym (c.give_back.ensures c.ready.new.self c.entry.result c.in_ok-make_room.ensures.ok)) c.ready.ensures.same
