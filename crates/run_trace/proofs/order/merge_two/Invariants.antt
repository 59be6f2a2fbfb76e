use Rattle.std.proofs.Common.{◌+◌, ◌-◌, ◌≤◌, drop, length, map}
use Rattle.run_trace.proofs.Joined.{IsJoining}
use Rattle.run_trace.proofs.order.merge_two.Given as goal

abbrev pub invariant-joining : goal.invariant-joining
invariant-joining l = record {
  joins : IsJoining (map (λ e. e.now) l.a) (map (λ e. e.now) l.b) (map (λ e. e.now) l.out.items) (map (λ e. e.now) (drop l.from_a l.a)) (map (λ e. e.now) (drop l.from_b l.b));
  in_a : l.from_a ≤ length l.a;
  in_b : l.from_b ≤ length l.b;
}

abbrev pub decreases-joining : goal.decreases-joining
decreases-joining l = (length l.a - l.from_a) + (length l.b - l.from_b)
