use Rattle.std.proofs.Common.{◌≡◌, take, map}
use Rattle.spec_model.specs.Truths.{op_at, sort_of}
use Rattle.spec_model.specs.Universe.{sizes_of}
use Rattle.effect_model.proofs.rights.key_sizes.Given as goal

abbrev pub invariant-loop-pair : goal.invariant-loop-pair
invariant-loop-pair l = l.sizes ≡ sizes_of l.spec (map (λ k. sort_of (op_at l.spec l.kind.a).params k.a) (take l.pair-index l.kind.key))
