use Rattle.std.proofs.Common.{subst}
use Rattle.plan_answers.specs.Analysing.{IsAnalysis}
use Rattle.indigo_program.proofs.Runs.{plan_settles}
use Rattle.indigo_program.proofs.running.serve_by_plan.Goals as goal

pub served_trace-requires-clause-settled : goal.served_trace-requires-clause-settled
served_trace-requires-clause-settled g c = λ κs outlives.
    plan_settles c.args.spec c.args.replicas c.in-Planned.analysed c.requires.some c.requires.well_formed (subst (IsAnalysis c.args.spec) c.in-Planned.is c.in_ok-analysed.ensures)
