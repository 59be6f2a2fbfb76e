use Rattle.std.proofs.Common.{◌≡◌, take}
use Rattle.spec_model.specs.Universe.{sizes_of}
use Rattle.effect_model.proofs.layout.sort_sizes.Given as goal

abbrev pub invariant-loop-sort : goal.invariant-loop-sort
invariant-loop-sort l = l.sizes ≡ sizes_of l.spec (take l.sort-index l.sorts)
