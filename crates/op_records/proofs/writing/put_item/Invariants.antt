use Rattle.std.proofs.Common.{◌≡◌, ◌++◌, drop}
use Rattle.std.specs.List.{flat_map}
use Rattle.op_records.specs.Spelling.{number}
use Rattle.op_records.proofs.writing.put_item.Given as goal

abbrev pub invariant-loop-count : goal.invariant-loop-count
invariant-loop-count l = l.out ++ flat_map (number 4) (drop l.count-index l.item.deps) ≡ l.fn.out ++ ((number 1 l.item.origin ++ number 4 l.item.index) ++ flat_map (number 4) l.item.deps)
