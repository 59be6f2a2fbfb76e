use Rattle.std.proofs.Common.{◌≡◌, ◌≤◌, ◌*◌, ◌^◌, drop, map}
use Rattle.spec_model.specs.Universe.{tuple_count}
use Rattle.spec_language.specs.AtStart.{size_at}
use Rattle.spec_language.proofs.at_start.tuple_count.Given as goal

abbrev pub invariant-loop-place : goal.invariant-loop-place
invariant-loop-place l = (l.count * tuple_count (map (size_at l.sorts) (drop l.place-index l.places)) ≡ tuple_count (map (size_at l.sorts) l.places)) × (l.count ≤ 1024 ^ l.place-index)
