use Rattle.std.proofs.Common.{sym, ◌∙◌}
use Rattle.std.proofs.lemmas.Bool.{eqb-true}
use Rattle.scenario_text.proofs.Lacks.{run_holds, none_holds}
use Rattle.scenario_text.proofs.group.holds.Goals as goal

pub returns-then-is_of : goal.returns-then-is_of
returns-then-is_of c = run_holds c.args.group c.args.line.now c.runs.rest.now _ _ c.requires c.next_run.ensures.runs (sym c.is_of.ensures ∙ c.if-is_of.true) c.runs.invariant

pub returns : goal.returns
returns c = none_holds c.args.group c.args.line.now c.runs.rest.now c.requires (eqb-true _ _ (sym c.is_empty.ensures ∙ c.runs-test.false)) c.runs.invariant
