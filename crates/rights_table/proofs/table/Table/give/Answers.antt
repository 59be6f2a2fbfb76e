use Rattle.std.proofs.Common.{sym, subst}
use Rattle.spec_model.specs.declared.right.Held.{Held}
use Rattle.run_model.specs.Allowed.{IsHeldPiece, span_given}
use Rattle.rights_table.proofs.Entries.{kind_entered}
use Rattle.rights_table.proofs.Telling.{told_held}
use Rattle.rights_table.proofs.Pieces.{held_may, gives, becomes_no_more}
use Rattle.rights_table.proofs.table.Table.give.Goals as goal

pub change-requires-clause-may : goal.change-requires-clause-may
change-requires-clause-may c = λ h is.
    let t = c.args.self.now in
    let r = c.args.right.now in
    let p = c.args.piece.now in
    let kind = kind_entered t.replicas t.entries.entries r h t.kinds is in
    held_may t.replicas r h p kind (subst (λ (held : Held). IsHeldPiece held p) (sym (told_held c.args.setup.now t t.replicas r h (span_given p) is kind)) c.requires.held)

pub returns-clause-out : goal.returns-clause-out
returns-clause-out c = λ logs me own among x to out is.
    let done = c.change.ensures in
    gives c.args.setup.now logs me own among x to c.args.right.now c.args.piece.now done.0 done.1 c.args.self.now c.change.new.self done.2 done.3 out is

pub returns-clause-no_more : goal.returns-clause-no_more
returns-clause-no_more c = λ q has.
    let done = c.change.ensures in
    becomes_no_more c.args.right.now q done.0 done.1 c.args.self.now c.change.new.self done.2 has
