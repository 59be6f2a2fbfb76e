use Rattle.std.proofs.Common.{◌≡◌, length}
use Rattle.scenario_text.specs.Requests as requests
use Rattle.scenario_text.proofs.request.args_fit.Given as goal

abbrev pub invariant-fitting : goal.invariant-fitting
invariant-fitting l = requests.args_fit l.ps l.xs ≡ requests.args_fit l.params l.args

abbrev pub decreases-fitting : goal.decreases-fitting
decreases-fitting l = length l.ps
