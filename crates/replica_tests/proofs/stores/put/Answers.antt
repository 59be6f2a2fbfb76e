use Rattle.replica_tests.proofs.Walked.{as_whole}
use Rattle.replica_tests.proofs.stores.put.Goals as goal

pub apply-requires-clause-own : goal.apply-requires-clause-own
apply-requires-clause-own c = as_whole c.args.spec.now 2 _ (c.ready.ensures.own c.args.spec.now 2 c.requires.own)
