use Rattle.std.proofs.Common.{◌≡◌, ◌++◌, drop}
use Rattle.std.specs.List.{flat_map}
use Rattle.ground_clauses.specs.Asking.{instance_clauses}
use Rattle.ground_clauses.proofs.queries.add_hypotheses.Given as goal

abbrev pub invariant-loop-instance : goal.invariant-loop-instance
invariant-loop-instance l = l.draft.cnf.clauses ++ flat_map (instance_clauses l.looking.asked) (drop l.instance-index l.instances) ≡ l.fn.draft.cnf.clauses ++ flat_map (instance_clauses l.looking.asked) l.instances
