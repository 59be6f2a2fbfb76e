use Rattle.std.proofs.Common.{◌≡◌, ◌++◌, List, true, false, subst}
use Rattle.std.specs.List.{list_any}
use Rattle.spec_model.specs.declared.clause.Literal.{Literal}
use Rattle.spec_model.specs.Truths.{literal_true}
use Rattle.effect_model.specs.Laying.{truths_after}
use Rattle.effect_model.proofs.Stays.{conclusion_true, premise_true}
use Rattle.effect_model.proofs.breaking.clause_stays.Goals as goal

pub returns-then-any_stays : goal.returns-then-any_stays
returns-then-any_stays g c =
    let truths = truths_after g.T.Truth.truths c.args.laid.now in
    λ yes behind. premise_true truths (c.args.front.now ++ behind) c.args.clause.now (subst (λ (ls : List Literal). list_any (literal_true truths (c.args.front.now ++ behind) false) ls ≡ true) c.as_slice.ensures.value (c.any_stays.ensures yes behind))

pub returns-else-any_stays : goal.returns-else-any_stays
returns-else-any_stays g c =
    let truths = truths_after g.T.Truth.truths c.args.laid.now in
    λ yes behind. conclusion_true truths (c.args.front.now ++ behind) c.args.clause.now (subst (λ (ls : List Literal). list_any (literal_true truths (c.args.front.now ++ behind) true) ls ≡ true) c.as_slice-else-any_stays.ensures.value (c.any_stays-else-any_stays.ensures yes behind))
