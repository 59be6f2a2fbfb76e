use Rattle.std.proofs.Common.{◌≡◌, [], ap, subst, length, ◌∙◌, rules}
use Rattle.replica_world.proofs.Begun.{AreBegun, begun_next, first_kept, first_run, none_left, stops_first, yielded_all}
use Rattle.replica_world.proofs.world.World.begin.Goals as goal

pub loop-disk-preserved : goal.loop-disk-preserved
loop-disk-preserved g c =
    begun_next g.S.D.Disk.standing g.S.Storage.shows g.S.Storage.keeps c.args.setup.now c.args.disks.items c.loop-disk.yielded _ _ c.loop-disk.courses.items _ c.loop-disk.storages.items _ c.loop-disk.me c.in-Some.disk c.in_ok-course.course c.in_ok-course.storage
    c.loop-disk.invariant.0 (c.in-Some.ensures.steps).0 c.loop-disk.invariant.1 c.in_ok-push.ensures.items c.in_ok-push-2.ensures.items c.loop-disk.invariant.2 c.in_ok-course.ensures

pub returns-clause-running : goal.returns-clause-running
returns-clause-running g c =
    let none : c.loop-disk.disk-iterator.rest.items ≡ [] = none_left _ (search rules) in
    let all = yielded_all c.args.disks.items c.loop-disk.yielded _ c.loop-disk.invariant.0 none in
    first_run g.S.D.Disk.standing g.S.Storage.shows g.S.Storage.keeps c.args.setup.now c.loop-disk.yielded c.loop-disk.courses.items c.loop-disk.storages.items c.in_ok-links.links.items c.loop-disk.invariant.2 (ap length all ∙ c.requires.whole) c.in_ok-links.ensures

pub returns-clause-kept : goal.returns-clause-kept
returns-clause-kept g c = first_kept g.S.D.Disk.standing g.S.Storage.shows g.S.Storage.keeps c.args.setup.now c.loop-disk.yielded c.loop-disk.courses.items c.loop-disk.storages.items c.loop-disk.invariant.2

pub returns-clause-stops : goal.returns-clause-stops
returns-clause-stops g c =
    let none : c.loop-disk.disk-iterator.rest.items ≡ [] = none_left _ (search rules) in
    let all = yielded_all c.args.disks.items c.loop-disk.yielded _ c.loop-disk.invariant.0 none in
    stops_first g.S.D.Disk.standing g.S.Storage.shows g.S.Storage.keeps c.args.setup.now c.args.disks.items c.loop-disk.courses.items c.loop-disk.storages.items
    (subst (λ ds. AreBegun g.S.D.Disk.standing g.S.Storage.shows g.S.Storage.keeps c.args.setup.now ds c.loop-disk.courses.items c.loop-disk.storages.items) all c.loop-disk.invariant.2)
