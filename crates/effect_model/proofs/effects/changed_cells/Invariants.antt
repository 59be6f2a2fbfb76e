use Rattle.std.proofs.Common.{◌≡◌, ◌++◌, drop}
use Rattle.std.specs.List.{flat_map}
use Rattle.spec_model.specs.Universe.{cells, cells_from}
use Rattle.effect_model.specs.Effects.{cell_change}
use Rattle.effect_model.proofs.effects.changed_cells.Given as goal

abbrev pub invariant-loop-at : goal.invariant-loop-at
invariant-loop-at l = l.out ++ flat_map (cell_change l.spec l.inst) (cells_from l.spec l.at (drop l.at l.spec.nums)) ≡ flat_map (cell_change l.spec l.inst) (cells l.spec)
