use Rattle.std.proofs.Common.{[], ◌∷◌, ◌++◌, ap, ◌∙◌}
use Rattle.clause_solver.proofs.Found.{ended_empty, learned}
use Rattle.clause_solver.proofs.solving.Search.learn.Goals as goal

pub returns-clause-search : goal.returns-clause-search
returns-clause-search c =
    λ cnf is. learned cnf c.args.self.now (record { rows = c.add.new.self; trail = c.undo_to.new.self; steps = c.push.new.self; first = c.in_ok-self.field-0 }) c.in_ok-step.step
    c.in_ok-step.ensures (c.in_ok-self.ensures.clauses ∙ ap (λ lits. c.args.self.now.rows ++ lits ∷ []) c.in_ok-copy.ensures) c.in_ok-push.ensures.ok
    c.undo_to.ensures.size c.undo_to.ensures.trail is

pub returns-clause-ended : goal.returns-clause-ended
returns-clause-ended c =
    λ ended. ended_empty c.push.new.self c.args.self.now.steps c.in_ok-step.step c.in_ok-push.ensures.ok (c.is_empty-ended.ensures.0 ended)
