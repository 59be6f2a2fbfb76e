use Rattle.std.proofs.Common.{◌≡◌, ◌++◌, drop}
use Rattle.std.specs.List.{flat_map}
use Rattle.spec_model.specs.AllRights.{entry_rights}
use Rattle.effect_model.proofs.right_list.list_masks.Given as goal

abbrev pub invariant-loop-of : goal.invariant-loop-of
invariant-loop-of l = l.out ++ flat_map (entry_rights l.spec) (drop l.of-index l.masks) ≡ l.fn.out ++ flat_map (entry_rights l.spec) l.masks
