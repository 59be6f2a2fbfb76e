use Rattle.std.proofs.Common.{set, ap, ◌∙◌}
use Rattle.clause_solver.proofs.Steps.{push_keeps}
use Rattle.clause_solver.proofs.assignment.Trail.push.Goals as goal

pub returns-clause-trail : goal.returns-clause-trail
returns-clause-trail c =
    λ rows was is. push_keeps rows c.args.self.now c.set.new.self (record { lit = c.args.lit; cause = c.args.cause }) (c.set.ensures.entries ∙ c.in_ok-push.ensures.ok)
    (c.set.ensures.values ∙ ap (set c.args.self.now.values c.args.lit.var) c.value_of.ensures) was is
