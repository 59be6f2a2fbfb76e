use Rattle.std.specs.Prelude.{◌≢◌, ℕ, ◌<◌, ◌≤◌, slice_index}
use Rattle.causal_delivery.proofs.admission.is_seen_but.Given as goal

-- all places before this one were seen
abbrev pub invariant-loop-at : goal.invariant-loop-at
invariant-loop-at l = (i : ℕ) → i < l.at → i ≢ l.own → slice_index l.past i ≤ slice_index l.cut i
