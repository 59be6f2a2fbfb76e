use Rattle.std.proofs.Common.{◌≡◌, ◌≤◌, drop, length, false}
use Rattle.std.specs.List.{list_any}
use Rattle.effect_model.specs.Laying.{truths_after}
use Rattle.spec_model.specs.Truths.{literal_true}
use Rattle.effect_model.proofs.breaking.any_true.Given as goal

-- none from the place on
abbrev pub invariant-back : goal.invariant-back
invariant-back g l = record {
  within : l.at ≤ length l.literals;
  none : list_any (literal_true (truths_after g.T.Truth.truths l.laid) l.xs l.sign) (drop l.at l.literals) ≡ false;
}

abbrev pub decreases-back : goal.decreases-back
decreases-back g l = l.at
