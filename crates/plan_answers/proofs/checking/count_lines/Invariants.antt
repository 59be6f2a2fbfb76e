use Rattle.std.proofs.Common.{◌≡◌, ◌≤◌, ◌*◌, take}
use Rattle.std.specs.Prelude.{sum_by}
use Rattle.plan_answers.specs.Checking.{line_count}
use Rattle.plan_answers.proofs.checking.count_lines.Given as goal

abbrev pub invariant-loop-line : goal.invariant-loop-line
invariant-loop-line l = (l.count ≡ sum_by line_count (take l.line-index l.lines)) × (l.count ≤ 4294967295 * l.line-index)
