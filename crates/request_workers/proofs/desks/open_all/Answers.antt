use Rattle.std.proofs.Common.{◌<◌, rules, subst, sym}
use Rattle.request_workers.proofs.DesksOpened.{next_empty, next_own, next_passes, opening_first, opening_last, opening_next, some_passes}
use Rattle.request_workers.proofs.desks.open_all.Goals as goal

pub loop-disk-init : goal.loop-disk-init
loop-disk-init g c =
    (search rules, search rules, opening_first {disks = c.args.disks.items} {passes = c.args.passes} (search rules) c.into_vec-left.ensures c.new-served.ensures c.requires.whole c.requires.web c.requires.own c.requires.fresh c.requires.empty)

pub remove-mine-requires : goal.remove-mine-requires
remove-mine-requires g c = subst (λ n. 0 < n) (sym c.loop-disk.left.ok.0) (some_passes c.loop-disk.invariant.2 (c.in-Some.ensures.steps).0)

pub open_one-requires-clause-empty : goal.open_one-requires-clause-empty
open_one-requires-clause-empty g c = next_empty c.loop-disk.invariant.2 (c.in-Some.ensures.steps).0

pub open_one-requires-clause-own : goal.open_one-requires-clause-own
open_one-requires-clause-own g c =
    let are = next_passes c.loop-disk.invariant.2 (c.in-Some.ensures.steps).0 c.remove-mine.ensures.value c.remove-mine.ensures.items in
    (next_own c.loop-disk.invariant.2 c.loop-disk.invariant.1 are).0

pub open_one-requires-clause-fresh : goal.open_one-requires-clause-fresh
open_one-requires-clause-fresh g c =
    let are = next_passes c.loop-disk.invariant.2 (c.in-Some.ensures.steps).0 c.remove-mine.ensures.value c.remove-mine.ensures.items in
    (next_own c.loop-disk.invariant.2 c.loop-disk.invariant.1 are).1

pub loop-disk-preserved : goal.loop-disk-preserved
loop-disk-preserved g c =
    let are = next_passes c.loop-disk.invariant.2 (c.in-Some.ensures.steps).0 c.remove-mine.ensures.value c.remove-mine.ensures.items in
    opening_next c.loop-disk.invariant.2 {more = c.push.new.self} c.loop-disk.invariant.0 c.loop-disk.invariant.1 (c.in-Some.ensures.steps).0 are c.in_ok-push.ensures.ok c.in_ok-one.ensures

pub returns : goal.returns
returns g c = opening_last c.loop-disk.invariant.2 c.loop-disk.invariant.0 (search rules)
