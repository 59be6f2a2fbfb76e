use Rattle.std.proofs.Common.{arith}
use Rattle.rights_table.specs.declared.holding.Holding.{Holding}
use Rattle.rights_table.specs.Tables.{Becomes}
use Rattle.rights_table.proofs.Entries.{kind_entered}
use Rattle.rights_table.proofs.Telling.{count_entered}
use Rattle.rights_table.proofs.Moves.{escrow_counts, gained}
use Rattle.rights_table.proofs.table.Table.gain.Goals as goal

pub change-requires-clause-may : goal.change-requires-clause-may
change-requires-clause-may c = λ h is.
    let t = c.args.self.now in
    let r = c.args.right.now in
    let count = count_entered c.args.setup.now t r h is in
    (escrow_counts t.replicas r h c.requires.escrow (kind_entered t.replicas t.entries.entries r h t.kinds is), omega (arith, count, c.requires.small))

pub returns : goal.returns
returns c =
    let t = c.args.self.now in
    let r = c.args.right.now in
    let done = c.change.ensures in
    let before : Holding = done.0 in
    let after : Holding = done.1 in
    let becomes : Becomes r before after t c.change.new.self = done.2 in
    gained c.args.setup.now r c.args.n before after t c.change.new.self becomes (escrow_counts t.replicas r before c.requires.escrow (kind_entered t.replicas t.entries.entries r before t.kinds becomes.was)) done.3.0 done.3.1
