use Rattle.replica_wires.specs.Settling.{AreSoFar, IsJoining, IsSettling}
use Rattle.replica_wires.proofs.web.Web.settle.Given as goal

abbrev pub invariant-loop-me : goal.invariant-loop-me
invariant-loop-me g l = IsSettling l.me 0 l.fn.passes l.all.items × AreSoFar l.self.replicas l.me l.fn.passes l.left

abbrev pub invariant-loop-from : goal.invariant-loop-from
invariant-loop-from g l = IsJoining l.self.replicas l.me l.from l.fn.passes l.all.items l.left l.lists
