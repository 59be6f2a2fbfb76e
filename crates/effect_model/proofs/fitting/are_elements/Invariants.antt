use Rattle.std.proofs.Common.{drop}
use Rattle.std.specs.Prelude.{◌↔◌}
use Rattle.spec_model.specs.Truths.{Within, size_of}
use Rattle.effect_model.proofs.fitting.are_elements.Given as goal

abbrev pub invariant-loop-sort : goal.invariant-loop-sort
invariant-loop-sort l = Within (size_of l.spec) (drop l.sort-index l.sorts) l.left ↔ Within (size_of l.spec) l.sorts l.args
