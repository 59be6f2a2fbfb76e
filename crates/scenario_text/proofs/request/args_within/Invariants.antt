use Rattle.std.proofs.Common.{◌≡◌, length}
use Rattle.scenario_text.specs.Requests as requests
use Rattle.scenario_text.proofs.request.args_within.Given as goal

abbrev pub invariant-within : goal.invariant-within
invariant-within l = requests.args_within l.sorts l.ps l.xs ≡ requests.args_within l.sorts l.params l.args

abbrev pub decreases-within : goal.decreases-within
decreases-within l = length l.ps
