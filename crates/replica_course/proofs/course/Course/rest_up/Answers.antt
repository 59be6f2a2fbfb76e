use Rattle.std.proofs.Common.{◌+◌, ap, max, ◌∙◌}
use Rattle.std.specs.Prelude.{None, min}
use Rattle.replica_course.specs.Steps.{last_stamp}
use Rattle.replica_course.proofs.Rested.{rested_up}
use Rattle.replica_course.proofs.Stepping.{has_rested}
use Rattle.replica_course.proofs.course.Course.rest_up.Goals as goal

pub returns-clause-ended : goal.returns-clause-ended
returns-clause-ended c =
    let old = c.args.self.now in
    let stamp = c.stamp_after-stamp.result in
    let is = c.stamp_after-stamp.ensures ∙ ap (λ s. min (max old.stamp s + 1) last_stamp) c.stamp.ensures in
    has_rested c.args.setup.now c.args.ask c.args.heard.now old stamp c.args.outcome None c.in_ok-entry.entry c.write.new.self
    (rested_up c.args.setup.now c.args.ask c.args.heard.now old stamp c.args.outcome c.requires.own c.requires.up c.requires.rests is) c.in_ok-entry.ensures.entry c.in_ok-entry.ensures.ok
