use Rattle.std.specs.Prelude.{true, take}
use Rattle.std.specs.List.{list_any}
use Rattle.rights_table.specs.Cells.{line_moves}
use Rattle.rights_table.specs.Touched.{MakesRoom}
use Rattle.rights_table.proofs.table.Table.ready_lines.Given as goal

-- room for what the lines so far change
abbrev pub invariant-loop-line : goal.invariant-loop-line
invariant-loop-line l = MakesRoom l.setup true (λ r. list_any (line_moves l.setup.spec l.inst r) (take l.line-index l.lines)) l.fn.self l.self
