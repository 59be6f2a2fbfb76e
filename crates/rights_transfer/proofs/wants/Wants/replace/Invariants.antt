use Rattle.std.specs.Prelude.{◌≡◌, ◌++◌, ◌≤◌, drop, take, length}
use Rattle.run_model.specs.Wants.{replaced}
use Rattle.rights_transfer.proofs.wants.Wants.replace.Given as goal

-- those that were seen, and behind them those that are left
abbrev pub invariant-loop-k : goal.invariant-loop-k
invariant-loop-k l = (l.self-inside.items.items ≡ replaced (take l.k l.fn.self) l.want ++ drop l.k l.fn.self) × (l.k ≤ length l.fn.self)
