use Rattle.std.proofs.Common.{◌∙◌}
use Rattle.effect_model.proofs.Acts.{lines_small, rise_is, fall_is}
use Rattle.effect_model.proofs.acting.net_change.Goals as goal

pub lines_add-plus-requires : goal.lines_add-plus-requires
lines_add-plus-requires c = lines_small c.args.spec.now c.args.inst.now c.lines_of-lines.result.now c.requires.well_formed c.lines_of-lines.ensures

pub lines_subtract-minus-requires : goal.lines_subtract-minus-requires
lines_subtract-minus-requires c = lines_small c.args.spec.now c.args.inst.now c.lines_of-lines.result.now c.requires.well_formed c.lines_of-lines.ensures

pub returns-clause-rise : goal.returns-clause-rise
returns-clause-rise c =
    c.saturating_sub-rise.ensures
    ∙ rise_is c.args.spec.now c.args.inst.now c.args.cell.now c.lines_of-lines.result.now c.lines_add-plus.result c.lines_subtract-minus.result c.lines_of-lines.ensures c.lines_add-plus.ensures.value c.lines_subtract-minus.ensures.value

pub returns-clause-fall : goal.returns-clause-fall
returns-clause-fall c =
    c.saturating_sub-fall.ensures
    ∙ fall_is c.args.spec.now c.args.inst.now c.args.cell.now c.lines_of-lines.result.now c.lines_add-plus.result c.lines_subtract-minus.result c.lines_of-lines.ensures c.lines_add-plus.ensures.value c.lines_subtract-minus.ensures.value
