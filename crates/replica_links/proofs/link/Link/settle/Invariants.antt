use Rattle.std.proofs.Common.{◌≡◌, ◌≤◌, ◌+◌, ◌++◌, true, length}
use Rattle.std.specs.Prelude.{vec_capacity}
use mathlib.Core.List.{IsPrefix}
use Rattle.crossbeam_queue.specs.Passes.{view, IsPassOf}
use Rattle.replica_links.specs.Passes.{put_of, taken_of}
use Rattle.replica_links.proofs.link.Link.settle.Given as goal

abbrev pub invariant-loop : goal.invariant-loop
invariant-loop g l =
    IsPassOf l.self.queue l.end
    × ((view l.end).puts ≡ true) × ((view l.end).gets ≡ true)
    × ((view l.end).put ≡ put_of l.fn.put) × ((view l.end).taken ≡ taken_of l.fn.get ++ l.left.items)
    × IsPrefix (view l.end).taken (view l.end).put
    × (length l.left.items ≡ l.counter) × (l.count ≤ vec_capacity l.left)
    × (length (put_of l.fn.put) ≡ length (taken_of l.fn.get) + l.count)
