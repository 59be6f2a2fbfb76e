use Rattle.std.proofs.Common.{◌≡◌, ◌<◌, ◌++◌, length, take}
use Rattle.std.specs.List.{AllByRecursion}
use Rattle.rights_journal.specs.Image.{frames}
use Rattle.rights_journal.specs.Batches.{IsSpelled}
use Rattle.rights_journal.proofs.reading.known_frames.Given as goal

-- the frames so far are those of the batches so far
abbrev pub invariant-loop-at : goal.invariant-loop-at
invariant-loop-at l = (l.bytes ≡ frames l.replicas (take l.at l.known) ++ l.rest) × (0 < length l.rest) × AllByRecursion (IsSpelled l.replicas) (take l.at l.known)
