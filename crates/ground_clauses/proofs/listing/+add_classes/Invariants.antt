use Rattle.std.proofs.Common.{◌≡◌, ◌++◌, ◌-◌, length}
use Rattle.std.specs.List.{filter}
use Rattle.ground_clauses.specs.Cases.{is_touched_case}
use Rattle.ground_clauses.proofs.Shapes.{listed_upto}
use Rattle.ground_clauses.proofs.listing.+add_classes.Given as goal

abbrev pub decreases-add_classes : goal.decreases-add_classes
decreases-add_classes l = length l.shape.now.sorts.now - length l.front

abbrev pub invariant-loop-class : goal.invariant-loop-class
invariant-loop-class l = l.found ≡ l.fn.found ++ filter (is_touched_case l.shape.spec.now) (listed_upto l.shape l.front l.class)
