use Rattle.certificate_check.proofs.Repeats.{AreSeen}
use Rattle.certificate_check.proofs.steps.many_repeat.Given as goal

abbrev pub invariant-back : goal.invariant-back
invariant-back l = AreSeen l.lits l.seen.keys l.at

abbrev pub decreases-back : goal.decreases-back
decreases-back l = l.at
