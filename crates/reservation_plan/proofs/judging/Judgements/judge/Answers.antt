use Rattle.reservation_plan.proofs.Coming.{conflict_more, found_conflict, found_harmless, harmless_more}
use Rattle.reservation_plan.proofs.judging.Judgements.judge.Goals as goal
use Rattle.std.proofs.Common.{sym, ◌∙◌}

pub returns-in_ok-add_harmless-in-Harmless-clause-ok : goal.returns-in_ok-add_harmless-in-Harmless-clause-ok
returns-in_ok-add_harmless-in-Harmless-clause-ok c =
    harmless_more c.args.spec.now c.args.case.now c.in-Harmless.derivation c.args.self.now c.add_harmless.new.self c.in_ok-derivation.ensures.easy
    (found_harmless c.args.spec.now c.args.case.now c.in_ok-derivation.field-0 c.in-Harmless.derivation c.in-Harmless.is c.in_ok-derivation.ensures.finding).0
    (found_harmless c.args.spec.now c.args.case.now c.in_ok-derivation.field-0 c.in-Harmless.derivation c.in-Harmless.is c.in_ok-derivation.ensures.finding).1
    c.in_ok-add_harmless-in-Harmless.ensures

pub returns-in_ok-add_conflict-in-Conflicts-clause-ok : goal.returns-in_ok-add_conflict-in-Conflicts-clause-ok
returns-in_ok-add_conflict-in-Conflicts-clause-ok c =
    conflict_more c.args.spec.now c.args.case.now c.args.self.now c.add_conflict.new.self c.in_ok-derivation.ensures.easy (sym c.refuses.ensures ∙ c.if-refuses.false)
    (found_conflict c.args.spec.now c.args.case.now c.in_ok-derivation.field-0 c.in-Conflicts.model c.in-Conflicts.is c.in_ok-derivation.ensures.finding).0
    c.in_ok-add_conflict-in-Conflicts.ensures
