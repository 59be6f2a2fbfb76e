use Rattle.std.proofs.Common.{sym, subst}
use Rattle.effect_model.specs.Masking.{AreFew}
use Rattle.effect_model.proofs.Reserved.{locks_few, parts_few}
use Rattle.effect_model.proofs.needing.needs_with.Goals as goal

pub add_locks-requires : goal.add_locks-requires
add_locks-requires g c = subst AreFew (sym c.as_slice.ensures.value) (locks_few c.args.laid.now.spec.now c.args.plan.now c.requires.well_formed c.requires.plan)

pub add_parts-requires : goal.add_parts-requires
add_parts-requires g c = subst AreFew (sym c.as_slice-2.ensures.value) (parts_few c.args.laid.now.spec.now c.args.plan.now c.requires.well_formed c.requires.plan)
