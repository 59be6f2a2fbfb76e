use Rattle.replica_core.proofs.Replayed.{decided_stays, replayed_stays}
use Rattle.replica_core.proofs.Changes.{own_again}
use Rattle.replica_core.proofs.Readied.{readied_by}
use Rattle.replica_core.proofs.replica.Replica.replay_ready.Goals as goal

pub replay-requires-clause-own : goal.replay-requires-clause-own
replay-requires-clause-own c = own_again c.args.setup.now c.args.self.now.me c.ready_behind.new.self c.ready_behind.ensures.same.own

pub replay-requires-clause-decided : goal.replay-requires-clause-decided
replay-requires-clause-decided c = decided_stays c.args.setup.now c.args.self.now c.ready_behind.new.self c.args.batch.now c.ready_behind.ensures.same c.requires.decided

pub replay-requires-clause-room : goal.replay-requires-clause-room
replay-requires-clause-room c = c.ready_behind.ensures.same.room 24 c.requires.room

pub returns-clause-replayed : goal.returns-clause-replayed
returns-clause-replayed c = replayed_stays c.args.setup.now c.args.batch.now.items c.args.self.now c.ready_behind.new.self c.replay.new.self c.ready_behind.ensures.same c.replay.ensures.replayed

pub returns-clause-readied : goal.returns-clause-readied
returns-clause-readied c =
    let mid = c.ready_behind.new.self in
    readied_by c.args.setup.now c.args.batch.now.items mid c.replay.new.self (own_again c.args.setup.now c.args.self.now.me mid c.ready_behind.ensures.same.own) c.in_ok-ready_behind.ensures.ready c.replay.ensures.put c.replay.ensures.replayed.own.me_is
