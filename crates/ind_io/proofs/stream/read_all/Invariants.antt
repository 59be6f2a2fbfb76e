use Rattle.std.proofs.Common.{◌≡◌, ◌≤◌, ◌+◌, ◌-◌, length}
use Rattle.std.specs.Io.KnownBytes.{Consumes}
use Rattle.ind_io.proofs.stream.read_all.Given as goal

abbrev pub invariant-loop-piece : goal.invariant-loop-piece
invariant-loop-piece g l =
    Consumes (g.S.Source.left l.fn.source) (g.S.Source.left l.source) l.all × (length l.all ≤ l.limit + 1) × (length l.piece ≡ 4096)
    × (g.S.Source.faults l.source ≡ g.S.Source.faults l.fn.source)
    × (g.S.Source.calls l.source ≤ g.S.Source.calls l.fn.source + length l.all)

abbrev pub decreases-loop-piece : goal.decreases-loop-piece
decreases-loop-piece g l = l.limit + 1 - length l.all
