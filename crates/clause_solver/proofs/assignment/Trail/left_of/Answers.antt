use Rattle.std.proofs.Common.{sym, ◌∙◌}
use Rattle.clause_solver.proofs.Steps.{many_left}
use Rattle.clause_solver.proofs.assignment.Trail.left_of.Goals as goal

pub returns-in_default : goal.returns-in_default
returns-in_default c =
    sym (many_left c.args.self.now.values c.args.clause.now c.loop-lit.lit-index _ c.loop-lit-test.true
    (λ none. c.in_default.not-Nothing (c.loop-lit.invariant ∙ none))
    (sym c.is_false.ensures ∙ c.if-not-is_false.true))
