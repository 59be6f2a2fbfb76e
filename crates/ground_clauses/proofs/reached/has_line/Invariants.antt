use Rattle.std.proofs.Common.{◌≡◌, take, false}
use Rattle.std.specs.List.{list_any}
use Rattle.ground_clauses.specs.Reached.{is_line_of}
use Rattle.ground_clauses.proofs.reached.has_line.Given as goal

abbrev pub invariant-loop-line : goal.invariant-loop-line
invariant-loop-line l = list_any (is_line_of l.pred) (take l.line-index l.lines) ≡ false
