use Rattle.std.proofs.Common.{◌≡◌, ◌++◌, drop, map}
use Rattle.std.specs.List.{flat_map}
use Rattle.ground_clauses.specs.Asking.{row_clauses}
use Rattle.ground_clauses.specs.Rows.{row_atom}
use Rattle.ground_clauses.proofs.queries.add_rows.Given as goal

abbrev pub invariant-loop-row : goal.invariant-loop-row
invariant-loop-row l = l.draft.cnf.clauses ++ flat_map (row_clauses l.asked) (map row_atom (drop l.row-index l.rows)) ≡ l.fn.draft.cnf.clauses ++ flat_map (row_clauses l.asked) (map row_atom l.rows)
