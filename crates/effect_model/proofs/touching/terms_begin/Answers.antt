use Rattle.std.proofs.Common.{◌∙◌}
use Rattle.spec_model.specs.Truths.{inst_has}
use Rattle.effect_model.proofs.Terms.{short_terms}
use Rattle.effect_model.proofs.touching.terms_begin.Goals as goal

pub returns-in_default : goal.returns-in_default
returns-in_default c =
    short_terms (inst_has c.args.inst.now) c.loop-x.left.now c.args.front.now c.loop-x.x-index c.loop-x-test.true c.in_default.len_below ∙ c.loop-x.invariant
