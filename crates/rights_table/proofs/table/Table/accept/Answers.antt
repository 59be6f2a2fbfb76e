use Rattle.std.proofs.Common.{◌≡◌, true, sym, subst}
use Rattle.spec_model.specs.declared.right.Held.{Held}
use Rattle.run_model.specs.Allowed.{span_given}
use Rattle.run_model.specs.Passing.{can_accept}
use Rattle.rights_table.specs.Holdings.{told}
use Rattle.rights_table.proofs.Entries.{kind_entered}
use Rattle.rights_table.proofs.Telling.{told_held}
use Rattle.rights_table.proofs.Pieces.{joins_may, piece_low, accepts, becomes_kept, becomes_no_more}
use Rattle.rights_table.proofs.table.Table.accept.Goals as goal

pub change-requires-clause-may : goal.change-requires-clause-may
change-requires-clause-may c = λ h is.
    let t = c.args.self.now in
    let r = c.args.right.now in
    let p = c.args.piece.now in
    let kind = kind_entered t.replicas t.entries.entries r h t.kinds is in
    let can = subst (λ (held : Held). can_accept c.args.setup.now.replicas held p ≡ true) (sym (told_held c.args.setup.now t t.replicas r h (span_given p) is kind)) c.requires.joins in
    joins_may t.replicas r h p kind (piece_low c.args.setup.now r p c.requires.well_formed c.requires.piece) (subst (λ n. can_accept n (told h (span_given p)) p ≡ true) (sym c.requires.replicas) can)

pub returns-clause-accepted : goal.returns-clause-accepted
returns-clause-accepted c = λ logs me own among x out from at to accept there gave is.
    let done = c.change.ensures in
    accepts c.args.setup.now logs me own among x out from at to c.args.right.now c.args.piece.now done.0 done.1 c.args.self.now c.change.new.self done.2 done.3 accept there gave is

pub returns-clause-kept : goal.returns-clause-kept
returns-clause-kept c = λ q has.
    let done = c.change.ensures in
    becomes_kept c.args.right.now q done.0 done.1 c.args.self.now c.change.new.self done.2 has

pub returns-clause-no_more : goal.returns-clause-no_more
returns-clause-no_more c = λ q has.
    let done = c.change.ensures in
    becomes_no_more c.args.right.now q done.0 done.1 c.args.self.now c.change.new.self done.2 has
