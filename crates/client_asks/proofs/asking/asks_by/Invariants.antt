use Rattle.std.proofs.Common.{◌≡◌, ◌++◌, drop}
use Rattle.client_asks.specs.Asking.{asks_by}
use Rattle.client_asks.proofs.asking.asks_by.Given as goal

abbrev pub invariant-loop-request : goal.invariant-loop-request
invariant-loop-request l = l.asks ++ asks_by l.client (drop l.request-index l.asked) ≡ asks_by l.client l.asked
