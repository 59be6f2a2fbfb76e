use Rattle.std.proofs.Common.{ℕ, ◌-◌, length}
use Rattle.plan_answers.proofs.Cut.{IsBefore}
use Rattle.plan_answers.proofs.splitting.plan_place.Given as goal

abbrev pub invariant-going : goal.invariant-going
invariant-going l = IsBefore l.bytes l.at

abbrev pub decreases-going : goal.decreases-going
decreases-going l = length l.bytes - l.at
