use Rattle.std.specs.Prelude.{codes}
use Rattle.scenario_text.specs.Draft.{run_step}
use Rattle.scenario_text.proofs.InPlaces.{send_answered, failed}
use Rattle.scenario_text.proofs.in_place.take_send.Goals as goal

pub returns-in-Ok : goal.returns-in-Ok
returns-in-Ok c = send_answered c.args.draft.now c.in-Some.line c.args.bytes.now _ c.in-Some.ensures c.in-Ok.ensures

pub returns-in-Err : goal.returns-in-Err
returns-in-Err c =
    failed c.in-Err.error c.args.draft.now _ (codes "send") c.args.bytes.now (run_step c.args.draft.now c.in-Some.line) c.in-Err.ensures
    (λ answer is. send_answered c.args.draft.now c.in-Some.line c.args.bytes.now answer c.in-Some.ensures is)
