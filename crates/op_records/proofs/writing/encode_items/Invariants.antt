use Rattle.std.proofs.Common.{◌≡◌, ◌++◌, drop}
use Rattle.std.specs.List.{flat_map}
use Rattle.op_records.specs.Spelling.{item_text, batch_text}
use Rattle.op_records.proofs.writing.encode_items.Given as goal

abbrev pub invariant-loop-item : goal.invariant-loop-item
invariant-loop-item l = l.out ++ flat_map item_text (drop l.item-index l.items) ≡ batch_text l.replicas l.items
