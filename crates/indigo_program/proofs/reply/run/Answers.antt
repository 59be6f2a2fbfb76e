use Rattle.std.proofs.Common.{refl, sym, subst}
use Rattle.indigo_program.specs.Inputs.{IsOfClients}
use Rattle.indigo_program.proofs.Runs.{clients_refused, simulated_answer}
use Rattle.indigo_program.proofs.reply.run.Goals as goal

pub returns-in-Some : goal.returns-in-Some
returns-in-Some g c =
    clients_refused c.args.bytes.now c.args.document _ _ c.refused.result c.requires.read (subst IsOfClients (sym c.in-Clients.is) tt) (sym c.in-Some.ensures.value) (λ r. refl, λ r. refl) c.refused.ensures

pub returns-in-Schedule : goal.returns-in-Schedule
returns-in-Schedule g c =
    simulated_answer c.args.bytes.now c.args.document c.in-Schedule.orders _ _ c.run_by_plan.result c.requires.read c.in-Schedule.is c.as_slice-in-Schedule.ensures.value
    (c.run_by_plan.ensures c.args.document refl refl (sym c.as_slice.ensures.value))
