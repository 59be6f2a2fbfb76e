use Rattle.std.proofs.Common.{◌≡◌, ◌≤◌, ◌++◌, drop, length}
use Rattle.spec_model.specs.Masks as masks
use Rattle.spec_model.specs.Truths.{literals}
use Rattle.effect_model.specs.Laying.{truths_after}
use Rattle.effect_model.proofs.masking.true_places.Given as goal

abbrev pub invariant-loop-at : goal.invariant-loop-at
invariant-loop-at g l =
    (l.places ++ masks.places_from (λ s. masks.atom_true (truths_after g.T.Truth.truths l.laid) l.xs s.sign s.literal) l.at (drop l.at (literals l.clause)) ≡ masks.true_places (truths_after g.T.Truth.truths l.laid) l.xs l.clause)
    × (length l.places ≤ l.at)
