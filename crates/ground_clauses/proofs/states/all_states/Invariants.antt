use Rattle.std.proofs.Common.{◌≡◌, ◌++◌, drop, map}
use Rattle.ground_clauses.specs.States.{states_of}
use Rattle.ground_clauses.proofs.states.all_states.Given as goal

abbrev pub invariant-loop-atom : goal.invariant-loop-atom
invariant-loop-atom l =
    l.found ++ map (states_of l.asked.spec.now l.asked.case.now l.asked.variables.now l.model) (drop l.atom-index l.atoms)
    ≡ map (states_of l.asked.spec.now l.asked.case.now l.asked.variables.now l.model) l.atoms
