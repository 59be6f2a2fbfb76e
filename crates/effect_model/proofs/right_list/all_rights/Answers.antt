use Rattle.std.proofs.Common.{◌≤◌, length, sym, subst}
use Rattle.std.specs.List.{AllByRecursion}
use Rattle.effect_model.specs.Rights.{HasShortKey}
use Rattle.effect_model.proofs.Keyed.{locks_few, locks_short, parts_few, parts_short}
use Rattle.effect_model.proofs.Ordered.{all_listed}
use Rattle.effect_model.proofs.right_list.all_rights.Goals as goal

pub list_keys-requires-clause-short : goal.list_keys-requires-clause-short
list_keys-requires-clause-short c = subst (AllByRecursion HasShortKey) (sym c.as_slice.ensures.value) (locks_short c.args.setup.now.spec c.args.setup.now.plan c.requires.well_formed c.requires.plan)

pub list_keys-requires-clause-few : goal.list_keys-requires-clause-few
list_keys-requires-clause-few c = subst (λ kinds. length kinds ≤ 4096) (sym c.as_slice.ensures.value) (locks_few c.args.setup.now.spec c.args.setup.now.plan c.requires.well_formed c.requires.plan)

pub list_keys-requires-2-clause-short : goal.list_keys-requires-2-clause-short
list_keys-requires-2-clause-short c = subst (AllByRecursion HasShortKey) (sym c.as_slice-3.ensures.value) (parts_short c.args.setup.now.spec c.args.setup.now.plan c.requires.well_formed c.requires.plan)

pub list_keys-requires-2-clause-few : goal.list_keys-requires-2-clause-few
list_keys-requires-2-clause-few c = subst (λ kinds. length kinds ≤ 4096) (sym c.as_slice-3.ensures.value) (parts_few c.args.setup.now.spec c.args.setup.now.plan c.requires.well_formed c.requires.plan)

pub returns : goal.returns
returns c = all_listed c.args.setup.now c.new-out.result c.list_cells.new.out c.list_cells-2.new.out c.list_keys.new.out c.list_masks.new.out c.list_keys-2.new.out c.as_slice.result.now c.as_slice-2.result.now c.as_slice-3.result.now
    c.as_slice.ensures.value c.as_slice-2.ensures.value c.as_slice-3.ensures.value c.new-out.ensures c.in_ok-list_cells.ensures c.in_ok-list_cells-2.ensures c.in_ok-list_keys.ensures c.in_ok-list_masks.ensures c.in_ok-list_keys-2.ensures
