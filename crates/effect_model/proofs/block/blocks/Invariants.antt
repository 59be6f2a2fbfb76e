use Rattle.std.proofs.Common.{◌≡◌, ◌++◌, drop, take, sum_by}
use Rattle.effect_model.specs.Blocks.{blocks_from}
use Rattle.effect_model.specs.Tuples.{count_over}
use Rattle.effect_model.proofs.block.blocks.Given as goal

abbrev pub invariant-loop-one : goal.invariant-loop-one
invariant-loop-one g l =
    (l.all ++ blocks_from l.spec g.D.Declared.sorts_of l.start (drop l.one-index l.declared) ≡ blocks_from l.spec g.D.Declared.sorts_of 0 l.declared)
    × (l.start ≡ sum_by (count_over l.spec g.D.Declared.sorts_of) (take l.one-index l.declared))
