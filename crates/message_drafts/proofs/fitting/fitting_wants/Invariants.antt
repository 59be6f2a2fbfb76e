use Rattle.std.proofs.Common.{List, ◌++◌, drop}
use Rattle.spec_model.specs.declared.right.Want.{Want}
use Rattle.message_laws.specs.Heeded.{AreFitting}
use Rattle.message_drafts.proofs.fitting.fitting_wants.Given as goal

abbrev pub invariant-loop-want : goal.invariant-loop-want
invariant-loop-want l = (rest : List Want) → AreFitting l.setup (drop l.want-index l.wants) rest → AreFitting l.setup l.wants (l.fitting ++ rest)
