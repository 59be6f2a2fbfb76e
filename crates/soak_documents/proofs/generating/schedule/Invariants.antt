use Rattle.std.proofs.Common.{◌≡◌, ◌-◌, ◌++◌, length}
use Rattle.soak_documents.specs.Counting.{AreCounted}
use Rattle.soak_documents.specs.Generating.{lines_from, schedule_of}
use Rattle.soak_documents.proofs.generating.schedule.Given as goal

abbrev pub invariant-loop-number : goal.invariant-loop-number
invariant-loop-number l =
    (l.lines.orders ++ lines_from (20000 - l.number) l.lines.orders l.number l.state ≡ schedule_of l.fn.seed)
    × AreCounted l.lines.orders l.lines.sent × (length l.lines.orders ≡ l.number)
