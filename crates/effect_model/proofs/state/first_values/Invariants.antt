use Rattle.std.proofs.Common.{◌≡◌, ◌++◌, drop, map}
use Rattle.spec_model.specs.Universe.{cells, cells_from, first_value}
use Rattle.effect_model.proofs.state.first_values.Given as goal

abbrev pub invariant-loop-num : goal.invariant-loop-num
invariant-loop-num l = l.all ++ map (first_value l.spec) (cells_from l.spec l.num-index (drop l.num-index l.spec.nums)) ≡ map (first_value l.spec) (cells l.spec)
