use Rattle.std.proofs.Common.{◌≡◌, map, take}
use Rattle.std.specs.List.{AllByRecursion}
use Rattle.ground_clauses.specs.Rows.{IsRow, row_atom}
use Rattle.ground_clauses.proofs.rows.list_rows.Given as goal

abbrev pub invariant-loop-place : goal.invariant-loop-place
invariant-loop-place l = record {
  rows : AllByRecursion (IsRow l.asked) l.rows;
  atoms : map row_atom l.rows ≡ take l.place l.atoms;
}
