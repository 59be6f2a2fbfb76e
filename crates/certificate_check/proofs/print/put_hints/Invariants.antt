use Rattle.std.proofs.Common.{◌≡◌, ◌++◌, drop, take}
use Rattle.std.specs.List.{AllByRecursion, flat_map}
use Rattle.certificate_lines.specs.Texts.{IsSmall}
use Rattle.certificate_check.specs.Printed.{hint_text}
use Rattle.certificate_check.proofs.print.put_hints.Given as goal

abbrev pub invariant-loop-hint : goal.invariant-loop-hint
invariant-loop-hint l =
    (l.out ++ flat_map hint_text (drop l.hint-index l.hints) ≡ l.fn.out ++ flat_map hint_text l.hints)
    × AllByRecursion IsSmall (take l.hint-index l.hints)
