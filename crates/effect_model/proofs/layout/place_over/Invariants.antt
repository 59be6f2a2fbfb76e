use Rattle.std.proofs.Common.{drop}
use Rattle.spec_model.specs.Universe.{sizes_of, tuple_count}
use Rattle.effect_model.specs.Tuples.{rank}
use Rattle.effect_model.proofs.Placing.{IsPlacing}
use Rattle.effect_model.proofs.layout.place_over.Given as goal

abbrev pub invariant-loop-at : goal.invariant-loop-at
invariant-loop-at l = IsPlacing (rank (sizes_of l.spec l.sorts) l.args) (tuple_count (sizes_of l.spec l.sorts)) l.place (drop l.at (sizes_of l.spec l.sorts)) (drop l.at l.args)
