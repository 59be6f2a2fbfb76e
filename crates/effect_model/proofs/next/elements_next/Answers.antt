use Rattle.std.proofs.Common.{◌∙◌, sym, [], ◌∷◌, arith}
use Rattle.spec_model.specs.Changes.{elements_at}
use Rattle.effect_model.proofs.Nexts.{numbers_end, numbers_lack, numbers_short}
use Rattle.effect_model.proofs.next.elements_next.Goals as goal

pub returns-then-not-elements_begin-clause-untouched : goal.returns-then-not-elements_begin-clause-untouched
returns-then-not-elements_begin-clause-untouched c = λ x le lt. numbers_short (elements_at c.args.inst.now.args c.args.params.now) c.args.front.now (x ∷ []) (sym c.elements_begin.ensures ∙ c.if-not-elements_begin.true)

pub returns-then-from-element-clause-untouched : goal.returns-then-from-element-clause-untouched
returns-then-from-element-clause-untouched c = λ x le lt. numbers_lack (elements_at c.args.inst.now.args c.args.params.now) c.args.front.now x c.in-Some.element (sym c.element_at.ensures ∙ c.in-Some.is) (λ same. absurd (omega (arith, lt, same)))

pub returns-else-from-element-clause-untouched : goal.returns-else-from-element-clause-untouched
returns-else-from-element-clause-untouched c = λ x le lt. numbers_lack (elements_at c.args.inst.now.args c.args.params.now) c.args.front.now x c.in-Some.element (sym c.element_at.ensures ∙ c.in-Some.is) (λ same. absurd (omega (arith, le, same, c.if-from-element.false)))

pub returns-in-None-clause-untouched : goal.returns-in-None-clause-untouched
returns-in-None-clause-untouched c = λ x le lt. numbers_end (elements_at c.args.inst.now.args c.args.params.now) c.args.front.now x (sym c.element_at.ensures ∙ c.in-None.is)
