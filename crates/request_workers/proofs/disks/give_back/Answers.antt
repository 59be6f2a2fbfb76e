use Rattle.std.proofs.Common.{◌≡◌, [], ◌∷◌, length, sym, subst, arith}
use Rattle.std.proofs.lemmas.List.{length-append}
use Rattle.request_workers.specs.Handing.{AreBack}
use Rattle.request_workers.proofs.Handed.{more_behind, next_there, one_back, taken_at}
use Rattle.request_workers.proofs.disks.give_back.Goals as goal

pub loop-disk-preserved : goal.loop-disk-preserved
loop-disk-preserved g c =
    let split = (c.in-Some.ensures.steps).0 in
    let longer = length-append c.loop-disk.yielded (c.in-Some.disk ∷ []) in
    let place : c.loop-disk.replica ≡ length c.loop-disk.yielded = c.loop-disk.invariant.1 in (
      more_behind c.args.disks.items c.loop-disk.yielded _ _ c.in-Some.disk c.loop-disk.invariant.0 split,
      omega (arith, place, longer),
      subst (λ n. AreBack g.B.D.Disk.standing g.B.Bay.tells g.B.Bay.has_given g.B.Bay.given g.B.Bay.left n c.args.bay.now c.back.new.self c.args.disks.items) (sym longer)
          (one_back g.B.D.Disk.standing g.B.Bay.tells g.B.Bay.has_given g.B.Bay.given g.B.Bay.left (length c.loop-disk.yielded) c.args.bay.now c.loop-disk.bay c.back.new.self c.args.disks.items c.in-Some.disk
          (next_there c.args.disks.items c.loop-disk.yielded _ _ c.in-Some.disk c.loop-disk.invariant.0 split) c.loop-disk.invariant.2
          (taken_at g.B.D.Disk.standing g.B.Bay.tells g.B.Bay.has_given g.B.Bay.given g.B.Bay.left c.loop-disk.replica (length c.loop-disk.yielded) c.loop-disk.bay c.back.new.self c.in-Some.disk place
          (record { same = c.back.ensures.tells; places = c.back.ensures.places; asked = c.back.ensures.given; told = c.back.ensures.left; others = c.back.ensures.left_else }))),
    )
