use Rattle.std.proofs.Common.{◌≡◌, ◌++◌, drop}
use Rattle.spec_model.specs.Needs.{key_needs, lock_need}
use Rattle.effect_model.proofs.needing.add_locks.Given as goal

abbrev pub invariant-loop-at : goal.invariant-loop-at
invariant-loop-at l = l.out ++ key_needs (lock_need l.inst) l.inst l.at (drop l.at l.locks) ≡ l.fn.out ++ key_needs (lock_need l.inst) l.inst 0 l.locks
