use Rattle.std.proofs.Common.{◌≡◌, ◌≤◌, drop}
use Rattle.std.specs.Str.{all_ascii_digits}
use Rattle.ind_base.specs.Numbers.{value_after}
use Rattle.line_text.proofs.next.value_of.Given as goal

abbrev pub invariant-loop-b : goal.invariant-loop-b
invariant-loop-b l = (l.value ≤ 1000000000000) × (value_after l.value (drop l.b-index l.run) ≡ value_after 0 l.run) × (all_ascii_digits (drop l.b-index l.run) ≡ all_ascii_digits l.run)
