use Rattle.std.proofs.Common.{◌≡◌, ◌++◌, map, drop}
use Rattle.std.specs.List.{flat_map}
use Rattle.ground_clauses.specs.Instances.{clause_instances, instance_of}
use Rattle.ground_clauses.proofs.instances.find_instances.Given as goal

abbrev pub invariant-loop-clause : goal.invariant-loop-clause
invariant-loop-clause l = map instance_of l.found ++ flat_map (clause_instances l.search) (drop l.clause-index l.clauses) ≡ map instance_of l.fn.found ++ flat_map (clause_instances l.search) l.clauses
