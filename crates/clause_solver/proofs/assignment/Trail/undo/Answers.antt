use Rattle.std.proofs.Common.{[], ◌∷◌, ◌++◌, sym, ap, ◌∙◌}
use Rattle.clause_solver.proofs.Steps.{undo_keeps}
use Rattle.clause_solver.proofs.assignment.Trail.undo.Goals as goal

pub returns-in-Some-clause-trail : goal.returns-in-Some-clause-trail
returns-in-Some-clause-trail c =
    λ rows was. undo_keeps rows c.args.self.now c.set.new.self c.in-Some.entry
    (c.in-Some.ensures ∙ ap (λ es. es ++ c.in-Some.entry ∷ []) (sym c.set.ensures.entries)) c.set.ensures.values was
