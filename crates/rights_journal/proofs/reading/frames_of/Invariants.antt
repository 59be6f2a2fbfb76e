use Rattle.std.proofs.Common.{◌≡◌, ◌<◌, ◌++◌, length}
use Rattle.std.specs.List.{AllByRecursion}
use Rattle.rights_journal.specs.Image.{opened}
use Rattle.rights_journal.proofs.reading.frames_of.Given as goal
use Rattle.rights_journal.specs.Batches.{IsSpelled}
use Rattle.rights_journal.specs.Reading.{known_and}

abbrev pub invariant-frames : goal.invariant-frames
invariant-frames l = (l.bytes ≡ opened l.replicas (known_and l.same l.known l.batches) ++ l.rest) × (0 < length l.rest) × AllByRecursion (IsSpelled l.replicas) (known_and l.same l.known l.batches)

abbrev pub decreases-frames : goal.decreases-frames
decreases-frames l = length l.rest
