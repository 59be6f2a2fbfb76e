use Rattle.std.proofs.Common.{◌≡◌, ◌++◌, drop, map}
use Rattle.std.specs.List.{flat_map}
use Rattle.ground_clauses.specs.Cases.{case_sets}
use Rattle.ground_clauses.specs.Query.{atom_variables}
use Rattle.ground_clauses.specs.Rows.{touches_at}
use Rattle.ground_clauses.proofs.queries.list_variables.Given as goal

abbrev pub invariant-loop-atom : goal.invariant-loop-atom
invariant-loop-atom l = record {
  touches : l.touches ++ map (touches_at l.spec (case_sets l.spec l.case)) (drop l.atom-index l.atoms) ≡ map (touches_at l.spec (case_sets l.spec l.case)) l.atoms;
  variables : l.variables ++ flat_map (atom_variables l.spec (case_sets l.spec l.case)) (drop l.atom-index l.atoms) ≡ flat_map (atom_variables l.spec (case_sets l.spec l.case)) l.atoms;
}
