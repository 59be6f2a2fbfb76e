use Rattle.std.proofs.Common.{◌≡◌, take, map}
use Rattle.spec_model.specs.Universe.{sizes_of}
use Rattle.effect_model.proofs.breaking.var_sizes.Given as goal

abbrev pub invariant-loop-var : goal.invariant-loop-var
invariant-loop-var l = l.sizes ≡ sizes_of l.spec (map (λ v. v.sort) (take l.var-index l.vars))
