use Rattle.std.proofs.Common.{ap, ◌∙◌}
use Rattle.line_text.specs.Lines.{lines_of}
use Rattle.certificate_check.specs.Reading.{read_of}
use Rattle.reservation_plan.specs.Derived.{derived_plan}
use Rattle.plan_answers.proofs.laws.planned_is_checked.Goals as goal

pub returns : goal.returns
returns c spec text formed names planned = record {
  few = planned.certified.has.few;
  plan = derived_plan spec;
  certificate = planned.certificate;
  read = ap (λ t. read_of spec (lines_of t)) planned.written ∙ c.text_is_read_again.ensures spec (derived_plan spec) planned.certificate planned.certified.fits formed names planned.limits;
  checks = planned.certified.checks;
}
