use Rattle.std.proofs.Common.{◌≡◌, [], map, drop}
use Rattle.std.specs.List.{flat_map}
use Rattle.ground_clauses.specs.Instances.{instance_of, with_all}
use Rattle.ground_clauses.specs.Query.{instance_atoms}
use Rattle.ground_clauses.proofs.instances.list_atoms.Given as goal

abbrev pub invariant-loop-instance : goal.invariant-loop-instance
invariant-loop-instance l = with_all l.once (flat_map instance_atoms (map instance_of (drop l.instance-index l.instances))) ≡ with_all [] (flat_map instance_atoms (map instance_of l.instances))
