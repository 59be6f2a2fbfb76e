use Rattle.std.proofs.Common.{rules}
use Rattle.batch_storage.specs.Held.{IsStored, IsLeft, IsUp, IsDown}
use Rattle.batch_storage.proofs.Begun.{still_down}
use Rattle.batch_storage.proofs.journaled.JournaledStorage.restart.Goals as goal

pub returns-clause-still : goal.returns-clause-still
returns-clause-still g c =
    let n = c.args.replicas in
    still_down c.restart_on-held.result.1
    (λ batches j. IsUp (g.J.Keeps.live j) (g.J.Keeps.is_kept j) (g.J.Keeps.replicas_of j) n (g.J.D.Disk.standing (g.J.Keeps.disk_of j)) (IsStored (g.J.Keeps.finished n) batches))
    (λ batches d next. IsDown (g.J.D.Disk.standing d) (g.J.D.Disk.may_leave d) (IsLeft (g.J.Keeps.stands_for n) batches next))
    c.args.self.now.held c.in-Some-Disk.disk c.restart_on-held.result.0 (search rules) c.restart_on-held.ensures.still
