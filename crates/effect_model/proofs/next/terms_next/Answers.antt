use Rattle.std.proofs.Common.{◌∙◌, sym, [], ◌∷◌}
use Rattle.spec_model.specs.Truths.{inst_has}
use Rattle.effect_model.proofs.Nexts.{terms_end, terms_lack, terms_short}
use Rattle.effect_model.proofs.next.terms_next.Goals as goal

pub returns-then-not-terms_begin-clause-untouched : goal.returns-then-not-terms_begin-clause-untouched
returns-then-not-terms_begin-clause-untouched c = λ x le lt. terms_short (inst_has c.args.inst.now) c.args.terms.now c.args.front.now (x ∷ []) (sym c.terms_begin.ensures ∙ c.if-not-terms_begin.true)

pub returns-in-Some-clause-untouched : goal.returns-in-Some-clause-untouched
returns-in-Some-clause-untouched c = λ x le lt. terms_lack (inst_has c.args.inst.now) c.args.terms.now c.args.front.now x c.in-Some.term (sym c.term_at.ensures ∙ c.in-Some.is) (c.term_next.ensures.untouched x le lt)

pub returns-in-None-clause-untouched : goal.returns-in-None-clause-untouched
returns-in-None-clause-untouched c = λ x le lt. terms_end (inst_has c.args.inst.now) c.args.terms.now c.args.front.now x (sym c.term_at.ensures ∙ c.in-None.is)
