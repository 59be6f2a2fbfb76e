use Rattle.std.proofs.Common.{◌≡◌, ◌++◌, take}
use Rattle.std.specs.Vec.{vec_capacity}
use Rattle.ind_io.proofs.memory.append.Given as goal

abbrev pub invariant-loop-b : goal.invariant-loop-b
invariant-loop-b l =
    (l.bytes.items ≡ l.fn.bytes.items ++ take l.b-index l.more) × (vec_capacity l.bytes ≡ vec_capacity l.fn.bytes)
