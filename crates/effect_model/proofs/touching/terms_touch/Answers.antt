use Rattle.std.proofs.Common.{◌∙◌}
use Rattle.spec_model.specs.Truths.{inst_has}
use Rattle.effect_model.proofs.Terms.{short_elements}
use Rattle.effect_model.proofs.touching.terms_touch.Goals as goal

pub returns-in_default : goal.returns-in_default
returns-in_default c =
    short_elements (inst_has c.args.inst.now) c.args.terms.now c.loop-term.term-index c.loop-term.left.now c.loop-term-test.true c.in_default.len_below ∙ c.loop-term.invariant
