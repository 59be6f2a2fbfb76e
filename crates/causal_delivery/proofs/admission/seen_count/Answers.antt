use Rattle.std.proofs.Common.{ap, ◌∙◌, ◌-◌, arith}
use Rattle.causal_delivery.proofs.Admitting.{seen_of_row}
use Rattle.causal_delivery.proofs.admission.seen_count.Goals as goal

pub returns-in-len1-up-clause-skipped : goal.returns-in-len1-up-clause-skipped
returns-in-len1-up-clause-skipped c =
    seen_of_row c.args.cut.now c.args.items.now c.first-item.result c.saturating_sub-seen.result c.min.result c.requires (omega (arith, c.in-len1-up.len_at_least)) c.first-item.is
    (c.saturating_sub-seen.ensures ∙ ap (λ n. n - c.first-item.result.index) c.count_of.ensures) c.min.ensures
