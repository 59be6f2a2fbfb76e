use Rattle.std.proofs.Common.{take}
use Rattle.ground_clauses.specs.ThreeStates.{GrowsBy}
use Rattle.ground_clauses.proofs.three_states.ThreeStates.add_literals.Given as goal

abbrev pub invariant-loop-literal : goal.invariant-loop-literal
invariant-loop-literal l = GrowsBy l.looking.asked l.fn.self l.self l.classes l.sign (take l.literal-index l.literals)
