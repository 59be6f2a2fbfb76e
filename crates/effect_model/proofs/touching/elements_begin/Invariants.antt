use Rattle.std.proofs.Common.{◌≡◌, drop}
use Rattle.spec_model.specs.Changes.{elements_at}
use Rattle.effect_model.specs.Touching.{begins_with}
use Rattle.effect_model.proofs.touching.elements_begin.Given as goal

abbrev pub invariant-loop-y : goal.invariant-loop-y
invariant-loop-y l = begins_with (elements_at l.inst.args l.left) (drop l.y-index l.front) ≡ begins_with (elements_at l.inst.args l.params) l.front
