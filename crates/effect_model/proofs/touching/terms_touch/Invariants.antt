use Rattle.std.proofs.Common.{◌≡◌, drop}
use Rattle.spec_model.specs.Truths.{terms_touch, inst_has}
use Rattle.effect_model.proofs.touching.terms_touch.Given as goal

abbrev pub invariant-loop-term : goal.invariant-loop-term
invariant-loop-term l = terms_touch (inst_has l.inst) (drop l.term-index l.terms) l.left ≡ terms_touch (inst_has l.inst) l.terms l.args
