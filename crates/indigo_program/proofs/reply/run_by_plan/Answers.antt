use Rattle.std.proofs.Common.{subst}
use Rattle.plan_answers.specs.Analysing.{IsAnalysis}
use Rattle.indigo_program.proofs.Runs.{plan_settles}
use Rattle.indigo_program.proofs.reply.run_by_plan.Goals as goal

pub trace-requires-clause-settled : goal.trace-requires-clause-settled
trace-requires-clause-settled g c =
    plan_settles c.args.spec c.args.replicas c.in-Planned.analysed c.requires.some c.requires.well_formed (subst (IsAnalysis c.args.spec) c.in-Planned.is c.in_ok-analysed.ensures)
