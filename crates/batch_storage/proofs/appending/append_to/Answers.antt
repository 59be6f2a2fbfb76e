use Rattle.std.proofs.Common.{ℕ, Some, sym, subst}
use Rattle.std.specs.Prelude.{Bool, IsTrue}
use Rattle.batch_storage.specs.Held.{IsStored, IsLeft, IsDown}
use Rattle.batch_storage.proofs.Added.{left}
use Rattle.batch_storage.proofs.appending.append_to.Goals as goal

pub returns-in-Err-Disk-clause-kept : goal.returns-in-Err-Disk-clause-kept
returns-in-Err-Disk-clause-kept g c = λ n batches up spelled few.
    let batch = c.args.batch.now in
    let replicas = g.J.Keeps.replicas_of c.args.journal in
    let old = g.J.Keeps.disk_of c.args.journal in
    let new = g.J.Keeps.disk_of c.append.new.self in
    let bytes = (g.J.D.Disk.standing old).bytes in
    subst (λ d. IsDown (g.J.D.Disk.standing d) (g.J.D.Disk.may_leave d) (IsLeft (g.J.Keeps.stands_for n) batches (Some batch))) (sym c.into_disk.ensures)
    (λ new_tells b now.
    let tells = subst (λ (x : Bool). IsTrue x) c.append.ensures.run.tells new_tells in
    let stored = subst (λ (m : ℕ). IsStored (g.J.Keeps.finished m) batches bytes) (sym up.among) (up.stored tells) in
    subst (λ (m : ℕ). IsLeft (g.J.Keeps.stands_for m) batches (Some batch) b) up.among
    (left batches batch (g.J.Keeps.finished replicas) (g.J.Keeps.stands_for replicas) g.J.D.Disk.moment g.J.D.Disk.left_since old new (g.J.D.Disk.may_leave new)
    (λ t x le here. g.met.J.D.Disk.counts_now new t x le here) (λ all x fin. g.met.J.Keeps.finished_stands replicas all x fin)
    (c.append.ensures.any_moment tells batches stored.whole) (c.append.ensures.within tells batches stored.whole stored.short) b now))
