use Rattle.std.proofs.Common.{◌≡◌, ◌≤◌, true, subst, arith}
use Rattle.rights_table.specs.declared.holding.Holding.{Holding}
use Rattle.rights_table.specs.Holdings.{is_count, count_of}
use Rattle.rights_table.specs.Tables.{Becomes}
use Rattle.rights_table.proofs.Entries.{kind_entered}
use Rattle.rights_table.proofs.Telling.{count_entered}
use Rattle.rights_table.proofs.Moves.{escrow_counts, count_permits, lost}
use Rattle.rights_table.proofs.table.Table.lose.Goals as goal

pub change-requires-clause-may : goal.change-requires-clause-may
change-requires-clause-may c = λ h is.
    let t = c.args.self.now in
    let r = c.args.right.now in
    let count = count_entered c.args.setup.now t r h is in
    count_permits h c.args.n (escrow_counts t.replicas r h c.requires.escrow (kind_entered t.replicas t.entries.entries r h t.kinds is)) (omega (arith, count, c.requires.held))

pub returns : goal.returns
returns c =
    let t = c.args.self.now in
    let r = c.args.right.now in
    let done = c.change.ensures in
    let before : Holding = done.0 in
    let becomes : Becomes r before done.1 t c.change.new.self = done.2 in
    let counted : is_count before ≡ true = escrow_counts t.replicas r before c.requires.escrow (kind_entered t.replicas t.entries.entries r before t.kinds becomes.was) in
    let count = count_entered c.args.setup.now t r before becomes.was in
    let le : c.args.n ≤ count_of before = omega (arith, count, c.requires.held) in
    lost c.args.setup.now r c.args.n before t c.change.new.self (subst (λ (h : Holding). Becomes r before h t c.change.new.self) done.3 becomes) counted le
