use Rattle.std.specs.Prelude.{take, sum_by}
use Rattle.rights_table.specs.Cells.{MovesBy, line_loses}
use Rattle.rights_table.proofs.table.Table.lose_lines.Given as goal

-- what the lines so far spend
abbrev pub invariant-loop-line : goal.invariant-loop-line
invariant-loop-line l = MovesBy l.setup (λ q. 0) (λ q. sum_by (line_loses l.setup.spec l.inst q) (take l.line-index l.lines)) l.fn.self l.self
