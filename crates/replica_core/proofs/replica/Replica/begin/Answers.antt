use Rattle.std.proofs.Common.{[], refl}
use Rattle.replica_core.proofs.Begun.{first_replica, first_stands}
use Rattle.replica_core.proofs.replica.Replica.begin.Goals as goal

pub returns-clause-own : goal.returns-clause-own
returns-clause-own c = first_replica c.args.setup.now c.args.me _ (record {
  me_is = refl;
  within = c.requires.place;
  few = c.requires.few;
  setup_fits = c.requires.setup;
  store = c.in_ok-store.ensures.own;
  empty = c.in_ok-store.ensures.empty;
  table = c.begin-3.ensures;
  wants = c.in_ok-wants.ensures;
  told = c.in_ok-told.ensures;
})

pub returns-clause-stands : goal.returns-clause-stands
returns-clause-stands c = first_stands c.args.setup.now c.args.me (record { me = c.args.me; store = c.in_ok-store.store; table = c.begin-3.result; needs = []; wants = c.in_ok-wants.wants; told = c.in_ok-told.told }) (record {
  me_is = refl;
  within = c.requires.place;
  few = c.requires.few;
  setup_fits = c.requires.setup;
  store = c.in_ok-store.ensures.own;
  empty = c.in_ok-store.ensures.empty;
  table = c.begin-3.ensures;
  wants = c.in_ok-wants.ensures;
  told = c.in_ok-told.ensures;
})
