use Rattle.replica_core.proofs.Logged.{learned_own, others_can}
use Rattle.replica_core.proofs.replica.Replica.learn.Goals as goal

pub apply-requires-clause-store : goal.apply-requires-clause-store
apply-requires-clause-store c = others_can c.args.setup.now c.args.self.now c.requires.others.0 c.args.items.now c.requires.own c.requires.others.1

pub returns-clause-own : goal.returns-clause-own
returns-clause-own c = learned_own c.tables_learn.ensures c.args.setup.now c.args.self.now c.apply.new.self c.requires.others.0 c.args.items.now c.requires.own c.requires.others.1 c.apply.ensures.learned
