use Rattle.std.proofs.Common.{◌≡◌, ◌++◌, drop}
use Rattle.ground_clauses.specs.Instances.{atoms_at}
use Rattle.ground_clauses.proofs.instances.add_atoms.Given as goal

abbrev pub invariant-loop-literal : goal.invariant-loop-literal
invariant-loop-literal l = l.atoms ++ atoms_at l.classes (drop l.literal-index l.literals) ≡ l.fn.atoms ++ atoms_at l.classes l.literals
