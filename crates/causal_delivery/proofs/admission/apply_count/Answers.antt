use Rattle.std.proofs.Common.{arith}
use Rattle.causal_delivery.proofs.Admitting.{admitted_ready}
use Rattle.causal_delivery.proofs.admission.apply_count.Goals as goal

pub returns-else-first-count_of-clause-applied : goal.returns-else-first-count_of-clause-applied
returns-else-first-count_of-clause-applied c =
    let fits = c.if-first-count_of.false in
    admitted_ready c.args.cut.now c.args.items.now c.first-item.result c.ready_count.result c.requires.row c.requires.unseen (omega (arith, c.in-len1-up.len_at_least)) c.first-item.is
    (omega (arith, fits, c.count_of.ensures)) c.ready_count.ensures.ready
