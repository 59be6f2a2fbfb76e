use Rattle.std.proofs.Common.{length, sym, subst}
use Rattle.run_trace.specs.Merging.{IsMerged}
use Rattle.client_runs.specs.Serving.{ups_of}
use Rattle.request_workers.specs.Histories.{AreLegal, BayTells, stops_of}
use Rattle.request_workers.proofs.Finished.{legal}
use Rattle.request_workers.proofs.Told.{bay_tells}
use Rattle.request_workers.proofs.simulation.simulate.Goals as goal

pub returns-clause-legal : goal.returns-clause-legal
returns-clause-legal g c =
    let h = c.in_ok-run.ensures.running in
    let histories_are = c.in_ok-histories.ensures.histories in (
      h.world,
      subst (λ hs. AreLegal c.args.setup.now c.args.schedule.now hs h.world) (sym histories_are)
          (legal c.args.setup.now c.args.schedule.now _ _ h c.runs_are_sound.ensures c.runs_in_order.ensures c.finals_agree.ensures c.requires.settled c.requires.schedule),
      λ telling entries merged.
          subst (λ hs. BayTells c.args.setup.now c.args.lines.now (ups_of hs) entries h.world (record { tells = g.B.Bay.tells c.args.bay.now; given_before = g.B.Bay.given c.args.bay.now; given_after = g.B.Bay.given c.give_back.new.bay; left_before = g.B.Bay.left c.args.bay.now; left_after = g.B.Bay.left c.give_back.new.bay })) (sym histories_are)
          (bay_tells g.B.D.Disk.standing g.B.D.Disk.may_leave g.B.Bay.tells g.B.Bay.has_given g.B.Bay.given g.B.Bay.left _ c.args.setup.now c.args.lines.now c.args.schedule.now c.args.bay.now c.disks_of.new.bay c.give_back.new.bay
          c.in_ok-disks.disks.items _ c.run.new.world.courses.items c.run.new.world.storages.items _ h c.in_ok-disks.ensures
          (λ me. c.in_ok-run.ensures.stops me (length (stops_of me c.args.lines.now)) (c.in_ok-world.ensures.stops me (length (stops_of me c.args.lines.now)) (λ d is. c.in_ok-disks.ensures.told telling me d is)))
          (record { whole = c.in_ok-histories.ensures.whole; storages_whole = c.in_ok-run.ensures.kept.whole; shown = c.in_ok-histories.ensures.shown; journals = c.in_ok-histories.ensures.journals })
          c.give_back.ensures telling entries (subst (λ hs. IsMerged hs entries) histories_are merged)),
    )
