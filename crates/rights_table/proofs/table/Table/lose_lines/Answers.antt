use Rattle.std.proofs.Common.{◌+◌, ◌<◌, List, length, take, arith}
use Rattle.std.specs.Prelude.{sum_by}
use Rattle.spec_model.specs.declared.operation.Line.{Line}
use Rattle.rights_table.specs.Cells.{line_loses, line_moves}
use Rattle.rights_table.proofs.Levels.{any_at}
use Rattle.rights_table.proofs.Sums.{sum_more, sum_part}
use Rattle.rights_table.proofs.Lines.{moves_both}
use Rattle.rights_table.proofs.table.Table.lose_lines.Goals as goal

pub lose_line-requires-clause-entered : goal.lose_line-requires-clause-entered
lose_line-requires-clause-entered c = λ q h.
    let lines : List Line = c.args.lines.now in
    let k = c.loop-line.line-index in
    let lt : k < length lines = omega (arith, c.loop-line-test.true) in
    c.loop-line.invariant.kept q (c.requires.entered q (any_at (line_moves c.args.setup.now.spec c.args.inst.now q) lines k c.line-item.result lt c.line-item.is h))

pub lose_line-requires-clause-held : goal.lose_line-requires-clause-held
lose_line-requires-clause-held c = λ q.
    let lines : List Line = c.args.lines.now in
    let k = c.loop-line.line-index in
    let lt : k < length lines = omega (arith, c.loop-line-test.true) in
    let f = line_loses c.args.setup.now.spec c.args.inst.now q in
    let one = sum_more f lines k c.line-item.result lt c.line-item.is in
    let part = sum_part f lines (k + 1) in
    let here = c.loop-line.invariant.counts q in
    let held = c.requires.held q in
    omega (arith, one, part, here, held)

pub loop-line-preserved : goal.loop-line-preserved
loop-line-preserved c =
    let setup = c.args.setup.now in
    let inst = c.args.inst.now in
    let lines : List Line = c.args.lines.now in
    let k = c.loop-line.line-index in
    let l : Line = c.line-item.result in
    let lt : k < length lines = omega (arith, c.loop-line-test.true) in
    moves_both setup (λ q. 0) (λ q. sum_by (line_loses setup.spec inst q) (take k lines)) (λ q. 0) (λ q. line_loses setup.spec inst q l) (λ q. 0) (λ q. sum_by (line_loses setup.spec inst q) (take (k + 1) lines)) c.args.self.now c.loop-line.self c.lose_line.new.self
    c.loop-line.invariant c.lose_line.ensures (λ q. omega arith) (λ q. sum_more (line_loses setup.spec inst q) lines k l lt c.line-item.is)
