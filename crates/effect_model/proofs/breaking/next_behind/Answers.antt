use Rattle.std.proofs.Common.{◌≡◌, ◌++◌, ◌∷◌, [], List, false, subst}
use Rattle.spec_model.specs.declared.operation.Line.{Line}
use Rattle.effect_model.specs.Pruning.{clause_may}
use Rattle.effect_model.proofs.breaking.next_behind.Goals as goal

pub returns-clause-untouched : goal.returns-clause-untouched
returns-clause-untouched g c = λ x le lt. subst (λ (ls : List Line). clause_may c.args.laid.now.inst.now ls (c.args.front.now ++ x ∷ []) c.args.clause.now ≡ false) c.lines_of-lines.ensures (c.next_broken.ensures.untouched x le lt)
