use Rattle.std.proofs.Common.{refl, subst, sym}
use Rattle.std.proofs.lemmas.Result.{on_ok_weaker}
use Rattle.replica_core.specs.Decisions.{IsDecided}
use Rattle.replica_course.proofs.Seen.{readied, view_up}
use Rattle.replica_course.proofs.course.Course.ready.Goals as goal

pub ready-requires-clause-decided : goal.ready-requires-clause-decided
ready-requires-clause-decided c = subst (λ v. IsDecided c.args.setup.now v c.args.batch.now) (sym (view_up c.args.setup.now c.args.self.now.me c.args.self.now c.in-Up.replica c.requires.own c.in-Up.is)) c.requires.decided

pub returns-clause-ready : goal.returns-clause-ready
returns-clause-ready c = on_ok_weaker c.ready.result (λ ready. readied c.args.setup.now c.args.batch.now.items _ c.ready.new.self refl ready) c.ready.ensures.ready
