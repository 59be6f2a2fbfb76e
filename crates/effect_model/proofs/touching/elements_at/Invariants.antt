use Rattle.std.proofs.Common.{◌≡◌, take}
use Rattle.spec_model.specs.Changes.{elements_at}
use Rattle.effect_model.proofs.touching.elements_at.Given as goal

abbrev pub invariant-loop-place : goal.invariant-loop-place
invariant-loop-place l = l.elements ≡ elements_at l.inst.args (take l.place-index l.params)
