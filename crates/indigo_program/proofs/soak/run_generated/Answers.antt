use Rattle.std.proofs.Common.{ap, ◌∙◌}
use Rattle.scenario_text.specs.declared.document.Document.{Document}
use Rattle.indigo_program.proofs.Soaks.{no_clients, schedule_is}
use Rattle.indigo_program.proofs.soak.run_generated.Goals as goal

pub unreachable-requires : goal.unreachable-requires
unreachable-requires g c = no_clients c.args.document c.args.seed _ _ _ c.requires.of_seed c.in-Clients.is

pub planned-requires-clause-stock : goal.planned-requires-clause-stock
planned-requires-clause-stock g c = ap (λ (d : Document). d.spec) c.requires.of_seed

pub planned-requires-clause-four : goal.planned-requires-clause-four
planned-requires-clause-four g c = ap (λ (d : Document). d.replicas) c.requires.of_seed

pub planned-requires-clause-no_stops : goal.planned-requires-clause-no_stops
planned-requires-clause-no_stops g c = c.as_slice.ensures.value ∙ ap (λ (d : Document). d.stops) c.requires.of_seed

pub planned-requires-clause-of_seed : goal.planned-requires-clause-of_seed
planned-requires-clause-of_seed g c = c.as_slice-in-Schedule.ensures.value ∙ schedule_is c.args.document c.args.seed c.in-Schedule.orders c.requires.of_seed c.in-Schedule.is
