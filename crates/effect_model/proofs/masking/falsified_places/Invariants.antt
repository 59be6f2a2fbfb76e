use Rattle.std.proofs.Common.{◌≡◌, ◌≤◌, ◌++◌, drop, length}
use Rattle.spec_model.specs.Masks as masks
use Rattle.spec_model.specs.Truths.{literals}
use Rattle.effect_model.proofs.masking.falsified_places.Given as goal

abbrev pub invariant-loop-at : goal.invariant-loop-at
invariant-loop-at g l =
    (l.places ++ masks.places_from (masks.is_falsified l.laid.spec.now l.laid.inst.now l.xs) l.at (drop l.at (literals l.clause)) ≡ masks.falsified_places l.laid.spec.now l.laid.inst.now l.xs l.clause)
    × (length l.places ≤ l.at)
