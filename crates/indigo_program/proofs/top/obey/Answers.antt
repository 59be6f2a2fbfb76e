use Rattle.std.proofs.Common.{inl, refl}
use Rattle.indigo_program.proofs.Answered.{err_is, finished, keeps_all, not_known}
use Rattle.indigo_program.proofs.Concluded.{command_read, command_unread, read_within}
use Rattle.indigo_program.proofs.top.obey.Goals as goal

pub returns-in-None : goal.returns-in-None
returns-in-None g c =
    finished _ _ _ _ 2 _ _ _ (inl (refl, refl, not_known _ c.in-None.ensures.none c.requires, keeps_all _, (λ r. refl, λ r. refl))) refl c.finish.ensures

pub returns-in-Err : goal.returns-in-Err
returns-in-Err g c =
    command_unread _ c.in-Some.command _ _ _ c.in-Err.error _ c.in-Some.ensures.some (λ r. refl, λ r. refl)
    (record { failed = λ is. c.in-Err.ensures.cause.failed (err_is _ _ is); fault = λ is. c.in-Err.ensures.fault (err_is _ _ is); long = λ is. c.in-Err.ensures.too_long (err_is _ _ is); within = read_within _ _ _ _ c.in-Err.ensures.turns })
    c.unread.ensures

pub returns-in-Ok : goal.returns-in-Ok
returns-in-Ok g c =
    command_read _ c.in-Some.command _ _ _ c.in-Ok.bytes _ c.make_reply.result _ c.in-Some.ensures.some c.in-Ok.ensures.whole c.in-Ok.ensures.end c.in-Ok.ensures.short c.as_slice.ensures.value
    (read_within _ _ _ _ c.in-Ok.ensures.turns) c.make_reply.ensures.answer c.make_reply.ensures.memory c.conclude.ensures
