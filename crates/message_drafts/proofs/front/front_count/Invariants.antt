use Rattle.std.specs.Prelude.{take}
use Rattle.message_drafts.specs.Fronts.{first_at}
use Rattle.message_drafts.proofs.Looking.{FitFrom}
use Rattle.message_drafts.proofs.front.front_count.Given as goal

-- the items so far fit, and stand in a row
abbrev pub invariant-loop-at : goal.invariant-loop-at
invariant-loop-at l = FitFrom l.setup l.from (first_at l.items) (take l.at l.items)
