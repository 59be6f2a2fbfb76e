use Rattle.std.proofs.Common.{◌≡◌, length, replicate}
use Rattle.soak_documents.proofs.counting.no_sends.Given as goal

abbrev pub invariant-loop-turn : goal.invariant-loop-turn
invariant-loop-turn l = (l.sent ≡ replicate l._turn 0) × (length l.sent ≡ l._turn)
