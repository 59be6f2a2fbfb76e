use Rattle.std.proofs.Common.{◌≡◌, ◌++◌, drop}
use Rattle.spec_model.specs.AllRights.{key_rights}
use Rattle.effect_model.specs.Rights.{right_at}
use Rattle.effect_model.proofs.right_list.list_keys.Given as goal

abbrev pub invariant-loop-at : goal.invariant-loop-at
invariant-loop-at l = l.out ++ key_rights (λ n key. right_at l.family n key) l.spec l.at (drop l.at l.kinds) ≡ l.fn.out ++ key_rights (λ n key. right_at l.family n key) l.spec 0 l.kinds
