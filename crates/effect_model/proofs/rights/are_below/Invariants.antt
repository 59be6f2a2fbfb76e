use Rattle.std.proofs.Common.{drop}
use Rattle.std.specs.Prelude.{◌↔◌}
use Rattle.spec_model.specs.Truths.{Within}
use Rattle.effect_model.proofs.rights.are_below.Given as goal

abbrev pub invariant-loop-size : goal.invariant-loop-size
invariant-loop-size l = Within (λ s. s) (drop l.size-index l.sizes) l.left ↔ Within (λ s. s) l.sizes l.args
