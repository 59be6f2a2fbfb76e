use Rattle.std.proofs.Common.{◌≡◌, ◌++◌, drop, take}
use Rattle.std.specs.List.{AllByRecursion, flat_map}
use Rattle.certificate_lines.specs.Texts.{StepSpelt}
use Rattle.certificate_check.specs.Printed.{step_text}
use Rattle.certificate_check.proofs.print.put_steps.Given as goal

abbrev pub invariant-loop-step : goal.invariant-loop-step
invariant-loop-step l =
    (l.out ++ flat_map step_text (drop l.step-index l.steps) ≡ l.fn.out ++ flat_map step_text l.steps)
    × AllByRecursion StepSpelt (take l.step-index l.steps)
