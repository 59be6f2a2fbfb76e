use Rattle.std.proofs.Common.{refl, sym}
use Rattle.indigo_program.proofs.Services.{clients_fit, schedule_refused, served_answer, some_order}
use Rattle.indigo_program.proofs.running.serve_document.Goals as goal

pub serve_by_plan-requires-clause-fit : goal.serve_by_plan-requires-clause-fit
serve_by_plan-requires-clause-fit g c = λ κs outlives. clients_fit c.args.document _ c.requires.formed c.in-Some.ensures.some

pub unreachable-requires : goal.unreachable-requires
unreachable-requires g c = some_order c.args.document.work c.in-None.ensures.none (c.in-None-first_of.ensures.lacking c.args.document c.requires.read refl)

pub returns-in-Some-first_of : goal.returns-in-Some-first_of
returns-in-Some-first_of g c =
    schedule_refused c.args.bytes.now c.args.document _ _ c.refused.result c.requires.read c.in-None.ensures.none (sym c.in-Some-first_of.ensures.value) (λ r. refl, λ r. refl) c.refused.ensures

pub returns-in-Some : goal.returns-in-Some
returns-in-Some g c =
    served_answer c.args.bytes.now c.args.document _ _ c.serve_by_plan.result c.requires.read c.in-Some.ensures.some
    (c.serve_by_plan.ensures c.args.document refl refl (sym c.as_slice.ensures.value))
