use Rattle.run_model.specs.Logs.{cut_after}
use Rattle.std.specs.Prelude.{◌≡◌, drop, length}
use Rattle.message_drafts.proofs.logging.seen_after.Given as goal

-- what the others lead to from here is what all lead to
abbrev pub invariant-loop-item : goal.invariant-loop-item
invariant-loop-item l = record {
  left : cut_after l.seen (drop l.item-index l.items) ≡ cut_after l.fn.cut l.items;
  whole : length l.seen ≡ l.replicas;
}
