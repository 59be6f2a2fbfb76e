use Rattle.std.proofs.Common.{List, sym, ap, subst, length, arith}
use Rattle.run_model.specs.declared.history.History.{History}
use Rattle.run_trace.specs.Merging.{AreHistories, IsMerged}
use Rattle.indigo_program.proofs.Soaks.{merged_few, summary_of, text_is}
use Rattle.indigo_program.proofs.soak.summary.Goals as goal

pub merge-requires : goal.merge-requires
merge-requires g c = subst AreHistories (sym c.as_slice.ensures.value) c.in_ok-histories.ensures.legal.1.own

pub put_summary-requires : goal.put_summary-requires
put_summary-requires g c =
    let legal = c.in_ok-histories.ensures.legal in
    let merged = subst (λ (hs : List History). IsMerged hs c.in_ok-entries.entries) c.as_slice.ensures.value c.in_ok-entries.ensures in
    let few = merged_few c.args.setup.now c.args.orders.now c.in_ok-histories.histories legal.0 c.in_ok-entries.entries legal.1 merged in
    omega (arith, ap length c.as_slice-2.ensures.value, few, c.requires.schedule.few_orders)

pub returns : goal.returns
returns g c =
    let legal = c.in_ok-histories.ensures.legal in
    let merged = subst (λ (hs : List History). IsMerged hs c.in_ok-entries.entries) c.as_slice.ensures.value c.in_ok-entries.ensures in
    summary_of c.args.setup.now c.args.stops.now c.args.orders.now c.in_ok-histories.histories legal.0 c.in_ok-entries.entries c.args.seed _ _ legal.1 legal.2 merged
    (text_is c.args.seed _ _ _ _ c.in_ok-put_summary.ensures c.new-text.ensures c.as_slice-2.ensures.value)
