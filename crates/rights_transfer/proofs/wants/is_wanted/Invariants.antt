use Rattle.std.specs.Prelude.{◌≡◌, drop}
use Rattle.std.specs.List.{list_any}
use Rattle.run_model.specs.Wants.{is_on}
use Rattle.rights_transfer.proofs.wants.is_wanted.Given as goal

abbrev pub invariant-loop-want : goal.invariant-loop-want
invariant-loop-want l = list_any (is_on l.right) (drop l.want-index l.wants) ≡ list_any (is_on l.right) l.wants
