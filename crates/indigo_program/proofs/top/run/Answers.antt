use Rattle.std.proofs.Common.{refl}
use Rattle.indigo_program.proofs.Answered.{err_is}
use Rattle.indigo_program.proofs.Concluded.{read_within, run_read, run_unread}
use Rattle.indigo_program.proofs.top.run.Goals as goal

pub returns-in-Err : goal.returns-in-Err
returns-in-Err g c =
    run_unread _ _ _ c.in-Err.error _ (λ r. refl, λ r. refl)
    (record { failed = λ is. c.in-Err.ensures.cause.failed (err_is _ _ is); fault = λ is. c.in-Err.ensures.fault (err_is _ _ is); long = λ is. c.in-Err.ensures.too_long (err_is _ _ is); within = read_within _ _ _ _ c.in-Err.ensures.turns })
    c.unread.ensures

pub returns-in-Ok : goal.returns-in-Ok
returns-in-Ok g c =
    run_read _ _ _ c.in-Ok.bytes _ c.run_reply.result _ c.in-Ok.ensures.whole c.in-Ok.ensures.end c.in-Ok.ensures.short c.as_slice.ensures.value
    (read_within _ _ _ _ c.in-Ok.ensures.turns) c.run_reply.ensures c.conclude.ensures
