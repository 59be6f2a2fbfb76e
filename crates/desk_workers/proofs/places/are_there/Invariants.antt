use Rattle.std.proofs.Common.{All, take}
use Rattle.desk_workers.specs.Places.{IsThere}
use Rattle.desk_workers.proofs.places.are_there.Given as goal

abbrev pub invariant-loop-done : goal.invariant-loop-done
invariant-loop-done g l = All IsThere (take l.done-index l.back)
