use Rattle.std.specs.Prelude.{List, ◌++◌, take, drop}
use Rattle.spec_model.specs.declared.log.LogItem.{LogItem}
use Rattle.causal_store.specs.Stores.{HasRoomFor}
use Rattle.replica_core.specs.Replicas.{CanLearn, HasLearned}
use Rattle.replica_core.proofs.replica.Replica.apply.Given as goal

-- the items so far were learned, and the others can be
abbrev pub invariant-loop-item : goal.invariant-loop-item
invariant-loop-item l = record {
  learned : HasLearned l.spec (take l.item-index l.items) l.fn.self l.self;
  ready : (more : List LogItem) → HasRoomFor l.fn.self.store (l.items ++ more) → HasRoomFor l.self.store (drop l.item-index l.items ++ more);
  can : CanLearn l.spec l.self (drop l.item-index l.items);
}
