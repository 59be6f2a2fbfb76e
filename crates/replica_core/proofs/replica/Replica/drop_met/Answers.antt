use Rattle.std.proofs.Common.{◌-◌, length, sym, subst, ap, arith}
use Rattle.replica_core.specs.Replicas.{IsReplica}
use Rattle.replica_core.specs.declared.replica.Replica.{Replica}
use Rattle.replica_core.proofs.Dropped.{dropped_one, passed_own}
use Rattle.replica_core.proofs.replica.Replica.drop_met.Goals as goal

pub drop_if_met-requires-clause-own : goal.drop_if_met-requires-clause-own
drop_if_met-requires-clause-own c =
    let old = c.args.self.now in
    subst (λ (r : Replica). IsReplica c.args.setup.now r.me r) (sym c.loop-k.invariant) (passed_own c.args.setup.now old (length old.wants - c.loop-k.k) c.requires.own)

pub loop-k-preserved : goal.loop-k-preserved
loop-k-preserved c = dropped_one c.args.setup.now c.args.self.now c.loop-k.self c.drop_if_met.new.self _ c.loop-k.k c.loop-k.invariant c.drop_if_met.ensures (omega (arith, c.loop-k-test.true, ap length c.list-count.ensures.value))
