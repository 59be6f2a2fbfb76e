use Rattle.std.proofs.Common.{◌≡◌, ◌++◌}
use Rattle.ground_clauses.specs.Cases.{pred_targets}
use Rattle.ground_clauses.specs.Listing.{touched_of}
use Rattle.ground_clauses.proofs.Shapes.{preds_from}
use Rattle.ground_clauses.proofs.listing.add_pred_cases.Given as goal

abbrev pub invariant-loop-place : goal.invariant-loop-place
invariant-loop-place l = l.found ++ touched_of l.spec l.a l.b (preds_from l.spec l.place) ≡ l.fn.found ++ touched_of l.spec l.a l.b (pred_targets 0 l.spec.preds)
