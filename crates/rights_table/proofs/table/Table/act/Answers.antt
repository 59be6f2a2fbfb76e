use Rattle.std.proofs.Common.{arith}
use Rattle.rights_table.proofs.Logged.{acted}
use Rattle.rights_table.proofs.table.Table.act.Goals as goal

pub move_cells-requires-clause-entered : goal.move_cells-requires-clause-entered
move_cells-requires-clause-entered c = λ q h. c.set_modes.ensures.kept q (c.requires.cells q h)

pub move_cells-requires-clause-small : goal.move_cells-requires-clause-small
move_cells-requires-clause-small c = λ q. let small = c.requires.small q in let same = c.set_modes.ensures.counts q in omega (arith, small, same)

pub move_cells-requires-clause-held : goal.move_cells-requires-clause-held
move_cells-requires-clause-held c = λ q. let held = c.requires.held q in let same = c.set_modes.ensures.counts q in omega (arith, held, same)

pub returns-clause-acted : goal.returns-clause-acted
returns-clause-acted c = λ logs me own x act needed is.
    acted c.args.setup.now logs me own x c.args.inst.now c.args.needs.now c.args.self.now c.set_modes.new.self c.move_cells.new.self c.requires.shared c.set_modes.ensures c.move_cells.ensures act needed is

pub returns-clause-kept : goal.returns-clause-kept
returns-clause-kept c = λ q has. c.move_cells.ensures.kept q (c.set_modes.ensures.kept q has)
