use Rattle.std.proofs.Common.{subst}
use Rattle.std.specs.Prelude.{Bool, IsTrue}
use Rattle.batch_storage.proofs.Begun.{err_more}
use Rattle.batch_storage.proofs.starting.restart_on.Goals as goal

pub returns-in-Ok-clause-still : goal.returns-in-Ok-clause-still
returns-in-Ok-clause-still g c =
    err_more c.start_on.result.1
    (λ made batches next was. made batches next (λ new_tells.
    let tells = subst (λ (b : Bool). IsTrue b) c.in-Ok.ensures.costs.tells new_tells in
    was tells (g.J.D.Disk.standing c.wake.new.disk).bytes (c.in-Ok.ensures.image tells)))
    c.start_on.ensures.still
