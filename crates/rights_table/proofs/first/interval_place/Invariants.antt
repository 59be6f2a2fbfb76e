use Rattle.std.proofs.Common.{◌≡◌, ◌+◌, drop}
use Rattle.spec_model.specs.Separated as separated
use Rattle.rights_table.proofs.first.interval_place.Given as goal

abbrev pub invariant-loop-at : goal.invariant-loop-at
invariant-loop-at l = l.at + separated.interval_place (drop l.at l.params) ≡ separated.interval_place l.params
