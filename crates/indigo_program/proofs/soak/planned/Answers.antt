use Rattle.std.proofs.Common.{subst, arith}
use Rattle.plan_answers.specs.Analysing.{IsAnalysis}
use Rattle.indigo_program.proofs.Runs.{plan_settles}
use Rattle.indigo_program.proofs.Soaks.{is_planned, soaked_by}
use Rattle.indigo_program.proofs.soak.planned.Goals as goal

pub unreachable-requires : goal.unreachable-requires
unreachable-requires g c = is_planned c.args.spec _ c.requires.stock (subst (IsAnalysis c.args.spec) c.in-Planless.is c.in_ok-analysed.ensures)

pub summary-requires-clause-settled : goal.summary-requires-clause-settled
summary-requires-clause-settled g c =
    plan_settles c.args.spec c.args.replicas c.in-Planned.analysed (omega (arith, c.requires.four)) c.requires.well_formed (subst (IsAnalysis c.args.spec) c.in-Planned.is c.in_ok-analysed.ensures)

pub summary-requires-clause-few : goal.summary-requires-clause-few
summary-requires-clause-few g c = omega (arith, c.requires.four)

pub returns : goal.returns
returns g c =
    soaked_by c.args.spec c.in-Planned.analysed c.args.replicas c.args.seed c.args.stops.now c.args.orders.now _ c.summary.result c.requires.stock c.requires.four c.requires.no_stops c.requires.of_seed
    (subst (IsAnalysis c.args.spec) c.in-Planned.is c.in_ok-analysed.ensures) c.summary.ensures
