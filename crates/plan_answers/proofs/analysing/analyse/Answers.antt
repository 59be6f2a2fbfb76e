use Rattle.std.proofs.Common.{rules, ◌≡◌, ◌≤◌, subst}
use Rattle.certificate_check.specs.Checks.{Checks}
use Rattle.ground_clauses.specs.Counting.{case_count}
use Rattle.reservation_plan.specs.Derived.{derived_plan}
use Rattle.spec_model.specs.Fits.{PlanFits}
use Rattle.spec_model.specs.Stable.{IsEnough}
use Rattle.plan_answers.proofs.Rejecting.{rejected_fits}
use Rattle.plan_answers.proofs.analysing.analyse.Goals as goal

pub rejected-requires-clause-fits : goal.rejected-requires-clause-fits
rejected-requires-clause-fits c = rejected_fits c.args.spec.now c.in-Err-Rejected.case c.in-Err-Rejected.model c.in-Err-Rejected.field-0 c.requires c.in-Err-Rejected.ensures.cause c.in-Err-Rejected.field-0-is

pub returns-in-Ok : goal.returns-in-Ok
returns-in-Ok c =
    let same : c.in-Ok.analysed.plan ≡ derived_plan c.args.spec.now = c.in-Ok.ensures.plan in
    let counted : case_count c.args.spec.now ≤ 100000 = search rules in
    record {
      plan = same;
      certified = record {
        has = record { few = counted; goes = c.in-Ok.ensures.none };
        fits = subst (PlanFits c.args.spec.now) same c.in-Ok.ensures.fits;
        checks = subst (λ p. Checks c.args.spec.now p c.in-Ok.analysed.certificate) same c.in-Ok.ensures.checks;
        enough = subst (IsEnough c.args.spec.now) same c.in-Ok.ensures.stable;
      };
      short = c.in-Ok.ensures.short;
      few_locks = c.in-Ok.ensures.few_locks;
      few_parts = c.in-Ok.ensures.few_parts;
    }
