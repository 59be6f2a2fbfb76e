use Rattle.std.proofs.Common.{◌≡◌}
use Rattle.client_asks.specs.Asking.{first_turns}
use Rattle.client_asks.proofs.asking.courier_asks.Given as goal

abbrev pub invariant-loop-turn : goal.invariant-loop-turn
invariant-loop-turn l = l.asks ≡ first_turns l.replicas l.me l.turn
