use Rattle.std.proofs.Common.{refl}
use Rattle.reservation_plan.proofs.Steps.{drafts_check, drafts_go, drafts_short}
use Rattle.reservation_plan.proofs.planning.analyse.Goals as goal

pub returns-clause-checks : goal.returns-clause-checks
returns-clause-checks c =
    drafts_check c.args.spec.now c.in_ok-locks.field-0 c.in_ok-locks.field-0.locks c.in_ok-locks.field-0.parts c.in_ok-masks.masks c.in_ok-locks.field-0.lines refl refl refl c.in_ok-masks.ensures c.in_ok-locks.ensures.ok

pub returns-clause-goes : goal.returns-clause-goes
returns-clause-goes c = drafts_go c.args.spec.now c.in_ok-locks.field-0 c.in_ok-locks.ensures.ok

pub returns-clause-short : goal.returns-clause-short
returns-clause-short c = drafts_short c.args.spec.now c.in_ok-locks.field-0 c.in_ok-locks.field-0.lines c.requires.well_formed c.requires.few refl c.in_ok-locks.ensures.ok
