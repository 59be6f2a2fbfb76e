use Rattle.std.specs.Prelude.{take, sum_by}
use Rattle.rights_table.specs.Cells.{MovesBy, line_gains}
use Rattle.rights_table.proofs.table.Table.gain_lines.Given as goal

-- what the lines so far create
abbrev pub invariant-loop-line : goal.invariant-loop-line
invariant-loop-line l = MovesBy l.setup (λ q. sum_by (line_gains l.setup.spec l.inst q) (take l.line-index l.lines)) (λ q. 0) l.fn.self l.self
