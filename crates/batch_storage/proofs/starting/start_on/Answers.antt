use Rattle.std.proofs.Common.{◌+◌, ◌*◌, List, length, subst, arith}
use Rattle.std.specs.Prelude.{Bool, IsTrue}
use Rattle.run_model.specs.declared.batch.Batch.{Batch}
use Rattle.rights_journal.specs.Reading.{known_and}
use Rattle.batch_storage.specs.Found.{IsFound}
use Rattle.batch_storage.specs.Held.{IsStored, IsLeft, IsUp, IsDown}
use Rattle.batch_storage.proofs.Begun.{one_of, still_left, stored, found_keeps, if_broken, on_err}
use Rattle.batch_storage.proofs.starting.start_on.Goals as goal

pub returns-in-Ok-clause-found : goal.returns-in-Ok-clause-found
returns-in-Ok-clause-found g c =
    let n = c.args.replicas in
    let kept = c.args.kept.now in
    let pending = c.args.pending.now in
    let same = c.in-Ok.started.same in
    let others : List Batch = c.in-Ok.started.batches in
    let started = known_and same kept others in
    let journal = c.in-Ok.started.journal in
    let old = g.J.D.Disk.standing c.args.disk in
    let new = g.J.D.Disk.standing (g.J.Keeps.disk_of journal) in
    found_keeps (g.J.Keeps.disk_of) journal
    (λ batches j. IsUp (g.J.Keeps.live j) (g.J.Keeps.is_kept j) (g.J.Keeps.replicas_of j) n (g.J.D.Disk.standing (g.J.Keeps.disk_of j)) (IsStored (g.J.Keeps.finished n) batches))
    (λ batches d next. IsDown (g.J.D.Disk.standing d) (g.J.D.Disk.may_leave d) (IsLeft (g.J.Keeps.stands_for n) batches next))
    c.hold.result started kept pending c.found_behind-found.result c.hold.ensures
    (subst (λ (l : List Batch). IsFound (known_and same kept l) kept pending c.found_behind-found.result) c.as_slice.ensures.value c.found_behind-found.ensures)
    (λ one. record {
      alive = c.in-Ok.ensures.live.0;
      kept = c.in-Ok.ensures.kept;
      among = c.in-Ok.ensures.live.1;
      stored = λ new_tells.
          let tells = subst (λ (b : Bool). IsTrue b) c.in-Ok.ensures.run.tells new_tells in
          let left = c.requires.left tells in
          stored (g.J.Keeps.stands_for n) kept pending old.bytes left (g.J.Keeps.finished n) started new.bytes one (c.in-Ok.ensures.finished tells)
          (c.in-Ok.ensures.end tells (64 + 7000 * (length kept + 1)) (omega (arith, g.met.J.Keeps.fresh_within)) left.short);
    })
    (λ other new_tells.
    let tells = subst (λ (b : Bool). IsTrue b) c.in-Ok.ensures.run.tells new_tells in
    absurd (other (one_of (g.J.Keeps.stands_for n) kept pending old.bytes (c.requires.left tells) started (λ xs ys a b. c.one_thing.ensures.once n xs ys old.bytes a b) (c.in-Ok.ensures.batches tells))))

pub returns-in-Err-clause-found : goal.returns-in-Err-clause-found
returns-in-Err-clause-found g c =
    let n = c.args.replicas in
    let d = c.in-Err.failed.disk in
    if_broken c.found_by.result
    (λ batches j. IsUp (g.J.Keeps.live j) (g.J.Keeps.is_kept j) (g.J.Keeps.replicas_of j) n (g.J.D.Disk.standing (g.J.Keeps.disk_of j)) (IsStored (g.J.Keeps.finished n) batches))
    (λ batches d next. IsDown (g.J.D.Disk.standing d) (g.J.D.Disk.may_leave d) (IsLeft (g.J.Keeps.stands_for n) batches next))
    d c.args.kept.now c.args.pending.now c.found_by.ensures.broken
    (λ new_tells.
    let tells = subst (λ (b : Bool). IsTrue b) c.in-Err.ensures.run_err.tells new_tells in
    still_left (g.J.Keeps.stands_for n) c.args.kept.now c.args.pending.now (g.J.D.Disk.standing c.args.disk).bytes (c.requires.left tells)
    g.J.D.Disk.moment g.J.D.Disk.left_since c.args.disk d (g.J.D.Disk.may_leave d) g.J.Keeps.fresh (λ t b le now. g.met.J.D.Disk.counts_now d t b le now)
    (λ batches stands. c.in-Err.ensures.any_moment_err tells batches stands) (λ longest room short. c.in-Err.ensures.short_err tells longest room short) g.met.J.Keeps.fresh_within)

pub returns-in-Err-clause-err : goal.returns-in-Err-clause-err
returns-in-Err-clause-err g c =
    let n = c.args.replicas in
    let d = c.in-Err.failed.disk in
    on_err c.found_by.result
    (λ new_tells.
    let tells = subst (λ (b : Bool). IsTrue b) c.in-Err.ensures.run_err.tells new_tells in
    still_left (g.J.Keeps.stands_for n) c.args.kept.now c.args.pending.now (g.J.D.Disk.standing c.args.disk).bytes (c.requires.left tells)
    g.J.D.Disk.moment g.J.D.Disk.left_since c.args.disk d (g.J.D.Disk.may_leave d) g.J.Keeps.fresh (λ t b le now. g.met.J.D.Disk.counts_now d t b le now)
    (λ batches stands. c.in-Err.ensures.any_moment_err tells batches stands) (λ longest room short. c.in-Err.ensures.short_err tells longest room short) g.met.J.Keeps.fresh_within)

pub returns-in-Err-clause-still : goal.returns-in-Err-clause-still
returns-in-Err-clause-still g c =
    let n = c.args.replicas in
    let d = c.in-Err.failed.disk in
    on_err c.found_by.result
    (λ batches next was new_tells.
    let tells = subst (λ (b : Bool). IsTrue b) c.in-Err.ensures.run_err.tells new_tells in
    still_left (g.J.Keeps.stands_for n) batches next (g.J.D.Disk.standing c.args.disk).bytes (was tells)
    g.J.D.Disk.moment g.J.D.Disk.left_since c.args.disk d (g.J.D.Disk.may_leave d) g.J.Keeps.fresh (λ t b le now. g.met.J.D.Disk.counts_now d t b le now)
    (λ xs stands. c.in-Err.ensures.any_moment_err tells xs stands) (λ longest room short. c.in-Err.ensures.short_err tells longest room short) g.met.J.Keeps.fresh_within)
