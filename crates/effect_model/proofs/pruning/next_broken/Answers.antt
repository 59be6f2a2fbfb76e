use Rattle.std.proofs.Common.{◌++◌, ◌∷◌, ◌||◌, ◌∙◌, ap, [], true, arith}
use Rattle.std.specs.List.{list_any}
use Rattle.std.proofs.Math.Nat.{min-le_left, min-le_right}
use Rattle.effect_model.specs.Pruning.{literal_may}
use Rattle.effect_model.proofs.pruning.next_broken.Goals as goal

pub returns-clause-untouched : goal.returns-clause-untouched
returns-clause-untouched c = λ x le lt.
    let a = c.literals_next-premise.result in
    let b = c.literals_next-conclusion.result in
    let may = literal_may c.args.inst.now c.args.lines.now (c.args.front.now ++ x ∷ []) true in
    let premise = rw c.as_slice.ensures.value at (c.literals_next-premise.ensures.untouched x le (omega (arith, lt, c.min.ensures, min-le_left a b))) in
    let conclusion = rw c.as_slice-2.ensures.value at (c.literals_next-conclusion.ensures.untouched x le (omega (arith, lt, c.min.ensures, min-le_right a b))) in
    ap (λ p. p || list_any may c.args.clause.now.conclusion) premise ∙ conclusion
