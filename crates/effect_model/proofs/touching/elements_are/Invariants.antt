use Rattle.std.proofs.Common.{◌≡◌, drop}
use Rattle.std.specs.Str.{bytes_eq as equal_numbers}
use Rattle.spec_model.specs.Changes.{elements_at}
use Rattle.effect_model.proofs.touching.elements_are.Given as goal

abbrev pub invariant-loop-place : goal.invariant-loop-place
invariant-loop-place l = equal_numbers (elements_at l.inst.args (drop l.place-index l.params)) l.left ≡ equal_numbers (elements_at l.inst.args l.params) l.elements
