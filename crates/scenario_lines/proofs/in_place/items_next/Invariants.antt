use Rattle.scenario_lines.proofs.InPlaces.{AreReadSoFar}
use Rattle.scenario_lines.proofs.in_place.items_next.Given as goal

abbrev pub invariant-loop-turn : goal.invariant-loop-turn
invariant-loop-turn l = AreReadSoFar l.args l.bytes l.rest
