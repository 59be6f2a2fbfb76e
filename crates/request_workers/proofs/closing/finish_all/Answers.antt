use Rattle.std.proofs.Common.{◌∷◌, ◌++◌, [], length, refl, sym, subst}
use Rattle.request_workers.specs.Taking.{AreFinished}
use Rattle.request_workers.proofs.Taken.{finished_next}
use Rattle.request_workers.proofs.Handed.{more_behind}
use Rattle.request_workers.proofs.Taking.{at_next}
use Rattle.request_workers.proofs.closing.finish_all.Goals as goal

pub finish-requires-clause-own : goal.finish-requires-clause-own
finish-requires-clause-own g c =
    let at = at_next c.args.stills.items c.loop-still.yielded _ _ c.in-Some.still (length c.loop-still.yielded) refl c.loop-still.invariant.0 c.in-Some.ensures.steps.0 in
    let its = c.requires.can.each (length c.loop-still.yielded) c.in-Some.still at in
    (its.0, its.1, its.2)

pub finish-requires-clause-few : goal.finish-requires-clause-few
finish-requires-clause-few g c =
    let at = at_next c.args.stills.items c.loop-still.yielded _ _ c.in-Some.still (length c.loop-still.yielded) refl c.loop-still.invariant.0 c.in-Some.ensures.steps.0 in
    (c.requires.can.each (length c.loop-still.yielded) c.in-Some.still at).3

pub loop-still-preserved : goal.loop-still-preserved
loop-still-preserved g c = (
  more_behind c.args.stills.items c.loop-still.yielded _ _ c.in-Some.still c.loop-still.invariant.0 c.in-Some.ensures.steps.0,
  subst (λ histories. AreFinished g.S.D.Disk.standing g.S.Storage.shows g.S.Storage.comes_back c.args.setup.now (c.loop-still.yielded ++ c.in-Some.still ∷ []) histories c.push-in-loop-still.new.self.items) (sym c.in_ok-push.ensures.ok)
      (subst (λ disks. AreFinished g.S.D.Disk.standing g.S.Storage.shows g.S.Storage.comes_back c.args.setup.now (c.loop-still.yielded ++ c.in-Some.still ∷ []) (c.loop-still.histories ++ c.in_ok-history.field-0.history ∷ []) disks) (sym c.in_ok-push-2.ensures.items)
      (finished_next g.S.D.Disk.standing g.S.Storage.shows g.S.Storage.comes_back c.args.setup.now c.loop-still.yielded c.loop-still.histories c.loop-still.disks.items c.in-Some.still c.in_ok-history.field-0.history c.in_ok-history.field-0.disk c.loop-still.invariant.1
      c.in_ok-history.ensures.history c.in_ok-history.ensures.shown c.in_ok-history.ensures.journal)),
)
