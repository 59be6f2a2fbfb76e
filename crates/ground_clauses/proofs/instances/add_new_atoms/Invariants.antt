use Rattle.std.proofs.Common.{◌≡◌, drop}
use Rattle.ground_clauses.specs.Instances.{atoms_at, with_all}
use Rattle.ground_clauses.proofs.instances.add_new_atoms.Given as goal

abbrev pub invariant-loop-literal : goal.invariant-loop-literal
invariant-loop-literal l = with_all l.once (atoms_at l.classes (drop l.literal-index l.literals)) ≡ with_all l.fn.once (atoms_at l.classes l.literals)
