use Rattle.effect_model.proofs.Keyed.{locks_short, parts_short}
use Rattle.effect_model.proofs.Owned.{right_fits_is, right_contained}
use Rattle.effect_model.proofs.rights.right_fits.Goals as goal

pub is_right-requires-clause-locks : goal.is_right-requires-clause-locks
is_right-requires-clause-locks c = locks_short c.args.setup.now.spec c.args.setup.now.plan c.requires.well_formed c.requires.plan

pub is_right-requires-clause-parts : goal.is_right-requires-clause-parts
is_right-requires-clause-parts c = parts_short c.args.setup.now.spec c.args.setup.now.plan c.requires.well_formed c.requires.plan

pub returns : goal.returns
returns c = (
  λ yes_is. right_contained c.args.setup.now c.args.right.now (c.is_right.ensures.0 yes_is),
  λ there. c.is_right.ensures.1 (right_fits_is c.args.setup.now c.args.right.now there),
)
