use Rattle.std.specs.Prelude.{true, take, drop}
use Rattle.std.specs.List.{AllByRecursion, list_any}
use Rattle.run_model.specs.Fitting.{NeedFits}
use Rattle.rights_table.specs.Touched.{MakesRoom, need_touches}
use Rattle.rights_table.proofs.table.Table.ready_needs.Given as goal

-- room for what the needs so far may be met by
abbrev pub invariant-loop-need : goal.invariant-loop-need
invariant-loop-need l = record {
  room : MakesRoom l.setup true (λ r. list_any (need_touches r) (take l.need-index l.needs)) l.fn.self l.self;
  fits : AllByRecursion (NeedFits l.setup) (drop l.need-index l.needs);
}
