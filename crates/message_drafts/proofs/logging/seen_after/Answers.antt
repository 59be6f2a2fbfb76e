use Rattle.run_model.specs.Logs.{cut_after}
use Rattle.std.proofs.Common.{◌+◌, ℕ, List, length, drop, sym, ap, subst, ◌∙◌, arith, length-set}
use Rattle.spec_model.specs.declared.log.LogItem.{LogItem}
use Rattle.run_model.specs.Fitting.{IsPlaced}
use Rattle.message_drafts.proofs.Places.{drop_at_item}
use Rattle.message_drafts.proofs.logging.seen_after.Goals as goal

pub set-requires : goal.set-requires
set-requires c =
    let fits = subst (IsPlaced c.args.replicas) (sym c.item-item.is) (c.requires.fits c.loop-item.item-index c.item-item.result c.loop-item-test.true) in
    omega (arith, fits.origin, c.loop-item.invariant.whole)

pub loop-item-preserved : goal.loop-item-preserved
loop-item-preserved c =
    let items : List LogItem = c.args.items.now in
    let k = c.loop-item.item-index in
    let x : LogItem = c.item-item.result in
    record {
      left = ap (λ (cut : List ℕ). cut_after cut (drop (k + 1) items)) c.set.ensures ∙ sym (ap (cut_after c.loop-item.seen) (drop_at_item items k x c.loop-item-test.true c.item-item.is)) ∙ c.loop-item.invariant.left;
      whole = ap length c.set.ensures ∙ length-set c.loop-item.seen x.origin (x.index + 1) ∙ c.loop-item.invariant.whole;
    }
