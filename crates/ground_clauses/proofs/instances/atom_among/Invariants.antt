use Rattle.std.proofs.Common.{◌≡◌, take, false}
use Rattle.std.specs.List.{list_any}
use Rattle.ground_clauses.specs.Query.{same_atom}
use Rattle.ground_clauses.proofs.instances.atom_among.Given as goal

abbrev pub invariant-loop-other : goal.invariant-loop-other
invariant-loop-other l = list_any (same_atom l.atom) (take l.other-index l.atoms) ≡ false
