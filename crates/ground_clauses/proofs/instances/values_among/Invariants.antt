use Rattle.std.proofs.Common.{◌≡◌, take, false}
use Rattle.std.specs.List.{list_any}
use Rattle.ground_clauses.specs.Query.{atom_of, same_atom}
use Rattle.spec_model.specs.Truths.{values}
use Rattle.ground_clauses.proofs.instances.values_among.Given as goal

abbrev pub invariant-loop-other : goal.invariant-loop-other
invariant-loop-other l = list_any (same_atom (atom_of l.pred (values l.classes l.vars))) (take l.other-index l.atoms) ≡ false
