use Rattle.std.specs.Prelude.{codes}
use Rattle.scenario_lines.specs.declared.line.RunLine.TheVariants.{Recover}
use Rattle.scenario_text.specs.Draft.{run_step}
use Rattle.scenario_text.proofs.InPlaces.{recover_answered, failed}
use Rattle.scenario_text.proofs.in_place.take_recover.Goals as goal

pub returns-in-Ok : goal.returns-in-Ok
returns-in-Ok c = recover_answered c.args.draft.now c.in-Some.replica c.args.bytes.now _ c.in-Some.ensures c.in-Ok.ensures

pub returns-in-Err : goal.returns-in-Err
returns-in-Err c =
    failed c.in-Err.error c.args.draft.now _ (codes "recover") c.args.bytes.now (run_step c.args.draft.now (Recover c.in-Some.replica)) c.in-Err.ensures
    (λ answer is. recover_answered c.args.draft.now c.in-Some.replica c.args.bytes.now answer c.in-Some.ensures is)
