use Rattle.std.proofs.Common.{◌≡◌, take}
use Rattle.spec_model.specs.Truths.{values}
use Rattle.effect_model.proofs.breaking.values.Given as goal

abbrev pub invariant-loop-var : goal.invariant-loop-var
invariant-loop-var l = l.out ≡ values l.xs (take l.var-index l.vars)
