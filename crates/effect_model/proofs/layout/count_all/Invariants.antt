use Rattle.std.proofs.Common.{◌≡◌, take, sum_by}
use Rattle.effect_model.specs.Tuples.{count_over}
use Rattle.effect_model.proofs.layout.count_all.Given as goal

abbrev pub invariant-loop-one : goal.invariant-loop-one
invariant-loop-one g l = l.count ≡ sum_by (count_over l.spec g.D.Declared.sorts_of) (take l.one-index l.declared)
