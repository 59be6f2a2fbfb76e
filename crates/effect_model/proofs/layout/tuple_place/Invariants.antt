use Rattle.std.proofs.Common.{drop}
use Rattle.spec_model.specs.Universe.{tuple_count}
use Rattle.effect_model.specs.Tuples.{rank}
use Rattle.effect_model.proofs.Placing.{IsPlacing}
use Rattle.effect_model.proofs.layout.tuple_place.Given as goal

abbrev pub invariant-loop-at : goal.invariant-loop-at
invariant-loop-at l = IsPlacing (rank l.sizes l.args) (tuple_count l.sizes) l.place (drop l.at l.sizes) (drop l.at l.args)
