use Rattle.std.proofs.Common.{◌≡◌, ◌++◌, map}
use Rattle.reservation_plan.specs.Drafting.{line_at}
use Rattle.reservation_plan.proofs.drafting.add_lines.Given as goal

abbrev pub invariant-loop-item : goal.invariant-loop-item
invariant-loop-item l = record {
  whole : l.yielded ++ l.item-iterator.rest.items ≡ l.fn.judged;
  lines : l.lines ≡ l.fn.lines ++ map (line_at l.place) l.yielded;
}
