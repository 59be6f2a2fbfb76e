use Rattle.std.specs.Prelude.{true, take, drop}
use Rattle.std.specs.List.{AllByRecursion, list_any}
use Rattle.run_model.specs.Fitting.{BodyFits}
use Rattle.rights_table.specs.Touched.{MakesRoom, item_touches}
use Rattle.rights_table.proofs.table.Table.ready_items.Given as goal

-- room for what the items so far touch
abbrev pub invariant-loop-item : goal.invariant-loop-item
invariant-loop-item l = record {
  room : MakesRoom l.setup true (λ r. list_any (item_touches l.setup.spec l.me r) (take l.item-index l.items)) l.fn.self l.self;
  fits : AllByRecursion (λ item. BodyFits l.setup item.body) (drop l.item-index l.items);
}
