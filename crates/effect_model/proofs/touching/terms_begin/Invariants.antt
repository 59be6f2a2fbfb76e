use Rattle.std.proofs.Common.{◌≡◌, drop}
use Rattle.spec_model.specs.Truths.{inst_has}
use Rattle.effect_model.specs.Touching.{terms_begin}
use Rattle.effect_model.proofs.touching.terms_begin.Given as goal

abbrev pub invariant-loop-x : goal.invariant-loop-x
invariant-loop-x l = terms_begin (inst_has l.inst) l.left (drop l.x-index l.front) ≡ terms_begin (inst_has l.inst) l.terms l.front
