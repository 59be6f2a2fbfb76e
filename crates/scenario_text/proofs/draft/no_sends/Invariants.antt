use Rattle.std.proofs.Common.{◌≡◌, length, replicate}
use Rattle.scenario_text.proofs.draft.no_sends.Given as goal

abbrev pub invariant-loop-turn : goal.invariant-loop-turn
invariant-loop-turn l = (l.sent ≡ replicate l._turn 0) × (length l.sent ≡ l._turn)
