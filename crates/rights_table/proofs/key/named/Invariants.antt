use Rattle.std.proofs.Common.{◌≡◌, take}
use Rattle.std.specs.List.{fold}
use Rattle.rights_table.specs.Keys.{mixed}
use Rattle.rights_table.proofs.key.named.Given as goal

abbrev pub invariant-loop-arg : goal.invariant-loop-arg
invariant-loop-arg l = l.all ≡ fold mixed (mixed l.kind l.number) (take l.arg-index l.args)
