use Rattle.std.proofs.Common.{◌≡◌, List, length, take, drop, sym, subst}
use Rattle.spec_model.specs.declared.log.LogItem.{LogItem}
use Rattle.run_model.specs.Steps.{AreAdmitted, unseen}
use Rattle.causal_delivery.specs.Rows.{AreOfOne}
use Rattle.causal_delivery.proofs.Admitting.{admitted_of_all, rest_of_one, unseen_twice}
use Rattle.causal_delivery.proofs.admission.admit.Goals as goal

pub apply_count-apply-requires-clause-row : goal.apply_count-apply-requires-clause-row
apply_count-apply-requires-clause-row c =
    subst (AreOfOne (length c.args.cut.now)) (sym c.split_at.ensures.back) (rest_of_one (length c.args.cut.now) c.seen_count-skip.result c.args.items.now c.requires.row)

pub apply_count-apply-requires-clause-unseen : goal.apply_count-apply-requires-clause-unseen
apply_count-apply-requires-clause-unseen c =
    subst (λ (items : List LogItem). unseen c.args.cut.now items ≡ items) (sym c.split_at.ensures.back) (unseen_twice c.args.cut.now c.args.items.now c.seen_count-skip.result c.seen_count-skip.ensures.skipped)

pub returns-clause-applied : goal.returns-clause-applied
returns-clause-applied c =
    let rest = drop c.seen_count-skip.result c.args.items.now in
    admitted_of_all c.args.cut.now c.args.items.now (take c.apply_count-apply.result rest) c.seen_count-skip.result c.seen_count-skip.ensures.skipped
    (subst (λ (items : List LogItem). AreAdmitted c.args.cut.now items (take c.apply_count-apply.result items)) c.split_at.ensures.back c.apply_count-apply.ensures.applied)
