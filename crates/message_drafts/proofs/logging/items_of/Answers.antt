use Rattle.std.proofs.Common.{ℕ, List, ap, arith, length}
use Rattle.std.specs.Prelude.{slice_index}
use Rattle.message_drafts.proofs.Logged.{one_logged}
use Rattle.message_drafts.proofs.logging.items_of.Goals as goal

pub bounds-as_slice-me : goal.bounds-as_slice-me
bounds-as_slice-me c = omega (arith, c.requires.place, c.loop-body.invariant.whole, ap length c.as_slice.ensures.value)

pub set-requires : goal.set-requires
set-requires c = omega (arith, c.requires.place, c.loop-body.invariant.whole)

pub loop-body-preserved : goal.loop-body-preserved
loop-body-preserved c =
    one_logged c.args.me c.loop-body.body-index _ c.args.cut c.args.bodies.now c.body-item.result c.loop-body.items c.push.new.self c.loop-body.seen c.set.new.self c.requires.place c.loop-body-test.true c.body-item.is
    (ap (λ (l : List ℕ). slice_index l c.args.me) c.as_slice.ensures.value) c.loop-body.invariant c.in_ok-push.ensures.ok c.set.ensures
