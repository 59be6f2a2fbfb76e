use Rattle.std.proofs.Common.{◌≡◌, ◌++◌, drop}
use Rattle.std.specs.List.{flat_map}
use Rattle.ground_clauses.specs.Asking.{denial_clauses}
use Rattle.ground_clauses.proofs.queries.add_denials.Given as goal

abbrev pub invariant-loop-literal : goal.invariant-loop-literal
invariant-loop-literal l =
    l.draft.cnf.clauses ++ flat_map (denial_clauses l.looking.asked l.classes l.sign) (drop l.literal-index l.literals) ≡ l.fn.draft.cnf.clauses ++ flat_map (denial_clauses l.looking.asked l.classes l.sign) l.literals
