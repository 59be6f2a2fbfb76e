use Rattle.std.proofs.Common.{◌≡◌, drop}
use Rattle.ground_clauses.specs.Cases.{class_count, interval_classes}
use Rattle.ground_clauses.proofs.listing.interval_classes.Given as goal

abbrev pub invariant-loop-param : goal.invariant-loop-param
invariant-loop-param l = interval_classes (class_count l.sorts l.classes) (drop l.param-index l.params) ≡ interval_classes (class_count l.sorts l.classes) l.params
