use Rattle.std.proofs.Common.{subst, ap, ◌∙◌, List}
use Rattle.std.specs.Prelude.{Option}
use Rattle.run_model.specs.declared.batch.Batch.{Batch}
use Rattle.replica_core.specs.Recovered.{IsRecovered}
use Rattle.replica_course.specs.declared.course.State.{State}
use Rattle.replica_course.specs.declared.course.State.TheVariants as states
use Rattle.replica_course.proofs.Stopped.{decided_anew}
use Rattle.replica_course.proofs.course.Course.prepare.Goals as goal

pub ready_too-requires-clause-decided : goal.ready_too-requires-clause-decided
ready_too-requires-clause-decided c = λ batch is.
    let old = c.args.self.now in
    let recovered = subst (λ (kept : List Batch). IsRecovered c.args.setup.now old.me kept c.in_ok-replica.replica) c.as_slice.ensures.value c.in_ok-replica.ensures.recovered in
    decided_anew c.args.setup.now old c.in_ok-replica.replica batch c.requires.own recovered (c.in-Down.is ∙ ap (λ (p : Option Batch). let s : State = states.Down p in s) is)
