use Rattle.std.proofs.Common.{◌≡◌, ◌++◌, map, length}
use Rattle.ground_clauses.specs.Instances.{instance_of}
use Rattle.ground_clauses.proofs.Finding.{found_upto}
use Rattle.ground_clauses.proofs.instances.+add_instances.Given as goal

abbrev pub decreases-add_instances : goal.decreases-add_instances
decreases-add_instances l = length l.vars.now

abbrev pub invariant-loop-class : goal.invariant-loop-class
invariant-loop-class l =
    map instance_of l.found ≡ map instance_of l.fn.found ++ found_upto l.search l.clause l.front l.rest l.class
