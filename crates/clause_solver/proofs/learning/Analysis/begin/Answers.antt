use Rattle.std.proofs.Common.{[], ◌∷◌, ◌++◌, ap, ◌∙◌}
use Rattle.clause_solver.proofs.Refutations.{begun}
use Rattle.clause_solver.proofs.learning.Analysis.begin.Goals as goal

pub returns : goal.returns
returns c =
    begun c.args.rows.now c.args.conflict c.args.trail.now.values c.requires.0 c.in_ok-no_marks.field-0 c.expand.new.self c.requires.1 c.requires.2
    (c.in_ok-no_marks.ensures ∙ c.len.ensures.value) (c.expand.ensures.marks c.requires.0 c.requires.1) (c.expand.ensures.lits ∙ c.new.ensures)
    (c.in_ok-expand.ensures.hints ∙ ap (λ hs. hs ++ c.args.conflict ∷ []) c.new-2.ensures)
