use Rattle.std.proofs.Common.{◌≡◌, ◌++◌, length, true}
use Rattle.std.specs.List.{list_all, flat_map}
use Rattle.spec_model.specs.Universe.{below, tuples}
use Rattle.spec_language.specs.AtStart.{starts_at}
use Rattle.spec_language.proofs.Instances.{behind}
use Rattle.spec_language.proofs.at_start.+start_behind.Given as goal

abbrev pub invariant-loop-x : goal.invariant-loop-x
invariant-loop-x l = list_all (λ xs. starts_at l.preds l.clause (l.front ++ xs)) (flat_map (behind (tuples l.others)) (below l.x)) ≡ true

abbrev pub decreases-start_behind : goal.decreases-start_behind
decreases-start_behind l = length l.sizes.now
