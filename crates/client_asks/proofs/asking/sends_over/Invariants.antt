use Rattle.std.proofs.Common.{◌≡◌, ◌+◌, ◌≤◌, drop}
use Rattle.client_asks.specs.Asking.{sends_in}
use Rattle.client_asks.proofs.asking.sends_over.Given as goal

abbrev pub invariant-loop-ask : goal.invariant-loop-ask
invariant-loop-ask l = (l.count + sends_in l.to (drop l.ask-index l.asks) ≡ sends_in l.to l.asks) × (l.count ≤ l.ask-index)
