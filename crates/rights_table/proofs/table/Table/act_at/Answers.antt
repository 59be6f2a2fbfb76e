use Rattle.std.proofs.Common.{subst}
use Rattle.rights_table.specs.declared.holding.Holding.{Holding}
use Rattle.rights_table.specs.Tables.{Becomes}
use Rattle.rights_table.proofs.Entries.{kind_entered}
use Rattle.rights_table.proofs.ActedOn.{IsSharesOf, shares_of_kind, shares_permit, acts_one}
use Rattle.rights_table.proofs.table.Table.act_at.Goals as goal

pub change-requires-clause-may : goal.change-requires-clause-may
change-requires-clause-may c = λ h is.
    let t = c.args.self.now in
    let r = c.args.right.now in
    let kind : IsSharesOf c.args.setup.now.replicas h = subst (λ n. IsSharesOf n h) c.requires.replicas (shares_of_kind t.replicas r h c.requires.shared (kind_entered t.replicas t.entries.entries r h t.kinds is)) in
    shares_permit c.args.setup.now t r c.args.level h is kind c.requires.permitted

pub returns : goal.returns
returns c =
    let t = c.args.self.now in
    let r = c.args.right.now in
    let done = c.change.ensures in
    let before : Holding = done.0 in
    let becomes : Becomes r before done.1 t c.change.new.self = done.2 in
    let kind : IsSharesOf c.args.setup.now.replicas before = subst (λ n. IsSharesOf n before) c.requires.replicas (shares_of_kind t.replicas r before c.requires.shared (kind_entered t.replicas t.entries.entries r before t.kinds becomes.was)) in
    acts_one c.args.setup.now t c.change.new.self r c.args.level before (subst (λ (h : Holding). Becomes r before h t c.change.new.self) done.3 becomes) kind
