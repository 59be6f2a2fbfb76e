use Rattle.std.proofs.Common.{◌≡◌, ◌++◌, take, map}
use Rattle.spec_model.specs.Masks.{allow_need}
use Rattle.effect_model.proofs.masking.add_allows.Given as goal

abbrev pub invariant-loop-literal : goal.invariant-loop-literal
invariant-loop-literal l = l.out ≡ l.fn.out ++ map (allow_need l.clause l.args) (take l.literal-index l.places)
