use Rattle.std.proofs.Common.{◌≡◌, ◌++◌, drop, map, length, true}
use Rattle.std.specs.List.{list_all}
use Rattle.scenario_text.specs.Requests as requests
use Rattle.scenario_text.proofs.request.spans_of.Given as goal

abbrev pub invariant-loop-x : goal.invariant-loop-x
invariant-loop-x l = (l.spans ++ map requests.span_of (drop l.x-index l.args) ≡ map requests.span_of l.args) × (length l.spans ≡ l.x-index) × (list_all requests.is_ordered (drop l.x-index l.args) ≡ true)
