use Rattle.std.proofs.Common.{◌≡◌, ◌*◌, drop}
use Rattle.spec_model.specs.Universe.{tuple_count, sizes_of}
use Rattle.effect_model.proofs.layout.count_tuples.Given as goal

abbrev pub invariant-loop-sort : goal.invariant-loop-sort
invariant-loop-sort l = l.count * tuple_count (sizes_of l.spec (drop l.sort-index l.sorts)) ≡ tuple_count (sizes_of l.spec l.sorts)
