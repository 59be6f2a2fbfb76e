use Rattle.std.proofs.Common.{inr, refl}
use Rattle.indigo_program.proofs.Answered.{finished, keeps_all, soak_read}
use Rattle.indigo_program.proofs.top.run_soak.Goals as goal

pub returns-in-Ok : goal.returns-in-Ok
returns-in-Ok g c = λ words source asks same.
    finished words source _ _ 0 _ _ _ (soak_read words c.args.seed source _ _ asks c.in-Ok.ensures same) c.as_slice.ensures.value c.finish.ensures

pub returns-in-Err : goal.returns-in-Err
returns-in-Err g c = λ words source asks same. inr (inr (refl, inr (c.args.seed, asks, same), keeps_all _))
