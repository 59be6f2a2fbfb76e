use Rattle.std.proofs.Common.{◌≡◌, ◌++◌, drop, take}
use Rattle.std.specs.List.{AllByRecursion}
use Rattle.certificate_check.specs.Printed.{cases_text}
use Rattle.certificate_check.specs.Texts.{KeepsIfFew}
use Rattle.certificate_check.proofs.print.put_cases.Given as goal

abbrev pub invariant-loop-place : goal.invariant-loop-place
invariant-loop-place l =
    (l.out ++ cases_text l.place (drop l.place l.lines) ≡ l.fn.out ++ cases_text 0 l.lines)
    × AllByRecursion KeepsIfFew (take l.place l.lines)
