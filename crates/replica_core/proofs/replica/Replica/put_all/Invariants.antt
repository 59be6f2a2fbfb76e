use Rattle.std.specs.Prelude.{List, [], ◌++◌, drop, map, take}
use Rattle.spec_model.specs.declared.log.LogItem.{LogItem}
use Rattle.causal_store.specs.Stores.{HasRoomFor}
use Rattle.replica_core.specs.Next.{AreEntered, AreNext, HasPut}
use Rattle.replica_core.specs.Replicas.{HasLoggedAll, known_to, standing_of}
use Rattle.replica_core.proofs.replica.Replica.put_all.Given as goal

-- the items so far were logged, and the others are next and have their entries
abbrev pub invariant-loop-item : goal.invariant-loop-item
invariant-loop-item l = record {
  logged : HasLoggedAll l.setup (map (λ item. item.body) (take l.item-index l.items)) l.fn.self l.self;
  put : HasPut l.fn.self l.self;
  ready : (more : List LogItem) → HasRoomFor l.fn.self.store (l.items ++ more) → HasRoomFor l.self.store (drop l.item-index l.items ++ more);
  next : AreNext l.setup (known_to l.self) l.self.me l.self.needs (standing_of 0 [] [] l.self) (drop l.item-index l.items);
  entered : AreEntered l.setup (known_to l.self) l.self.needs l.self.table (drop l.item-index l.items);
}
