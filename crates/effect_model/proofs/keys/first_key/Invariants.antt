use Rattle.std.proofs.Common.{◌≡◌, take, map}
use Rattle.spec_model.specs.Changes.{elements_at}
use Rattle.effect_model.proofs.keys.first_key.Given as goal

abbrev pub invariant-loop-pair : goal.invariant-loop-pair
invariant-loop-pair l = l.key ≡ elements_at l.inst.args (map (λ pair. pair.a) (take l.pair-index l.kind.key))
