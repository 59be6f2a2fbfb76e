use Rattle.std.proofs.Common.{◌≡◌, replicate}
use Rattle.replica_course.specs.declared.heard.Heard.TheVariants as heards
use Rattle.replica_node.proofs.node.free_hands.Given as goal

abbrev pub invariant-loop-replica : goal.invariant-loop-replica
invariant-loop-replica l = l.hands ≡ replicate l._replica heards.Nothing
