use Rattle.std.proofs.Common.{◌≡◌, drop}
use Rattle.certificate_check.specs.Separation.{lock_fits, lowest, lowest_from}
use Rattle.certificate_check.proofs.separation.lowest_lock.Given as goal

abbrev pub invariant-loop-place : goal.invariant-loop-place
invariant-loop-place l = lowest_from l.place (lock_fits l.spec l.case) (drop l.place l.locks) ≡ lowest (lock_fits l.spec l.case) l.locks
