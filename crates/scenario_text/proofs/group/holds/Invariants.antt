use Rattle.std.proofs.Common.{◌≡◌, length}
use Rattle.std.specs.List.{list_any}
use Rattle.line_text.specs.Bytes.{before_comment}
use Rattle.line_text.specs.Words.{is_one_of, runs_of}
use Rattle.scenario_text.specs.Groups.{words_of}
use Rattle.scenario_text.proofs.group.holds.Given as goal

abbrev pub invariant-runs : goal.invariant-runs
invariant-runs l = list_any (is_one_of (words_of l.group)) (runs_of l.rest) ≡ list_any (is_one_of (words_of l.group)) (runs_of (before_comment l.line))

abbrev pub decreases-runs : goal.decreases-runs
decreases-runs l = length l.rest
