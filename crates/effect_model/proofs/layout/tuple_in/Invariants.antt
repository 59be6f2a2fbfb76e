use Rattle.std.proofs.Common.{◌≡◌, drop, length}
use Rattle.spec_model.specs.Universe.{sizes_of}
use Rattle.effect_model.specs.Tuples.{tuple_at}
use Rattle.effect_model.proofs.Placing.{IsTaking}
use Rattle.effect_model.proofs.layout.tuple_in.Given as goal

abbrev pub invariant-loop-sort : goal.invariant-loop-sort
invariant-loop-sort l = IsTaking l.spec (tuple_at (sizes_of l.spec l.sorts) l.fn.place) l.behind l.left l.args (drop l.sort-index l.sorts) × (length l.args ≡ l.sort-index)
