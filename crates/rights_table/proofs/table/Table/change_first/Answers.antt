use Rattle.std.proofs.Common.{◌≡◌, Some, refl, sym, ap, ◌∙◌}
use Rattle.indexmap.proofs.CallerLemmas.{updates-with_value_at}
use Rattle.spec_model.specs.declared.right.Right.{Right}
use Rattle.rights_table.specs.declared.holding.Holding.{Holding}
use Rattle.rights_table.specs.Keys.{same_equiv}
use Rattle.rights_table.specs.Tables.{entered}
use Rattle.rights_table.proofs.Entries.{first_is, first_value, kind_entered, kinds_first}
use Rattle.rights_table.proofs.table.Table.change_first.Goals as goal

pub step-requires : goal.step-requires
step-requires c =
    let es = c.args.self.now.entries.entries in
    let r : Right = c.args.right.now in
    let h : Holding = c.requires.first.0 in
    let at = c.requires.first.1 in
    c.requires.may c.in-Some.holding.now (first_is es r h at ∙ sym (first_value es r h at) ∙ sym c.in-Some.ensures.value)

pub invariant_of-self-clause-kinds : goal.invariant_of-self-clause-kinds
invariant_of-self-clause-kinds c =
    let t = c.args.self.now in
    let es = t.entries.entries in
    let r : Right = c.args.right.now in
    let h : Holding = c.requires.first.0 in
    let at = c.requires.first.1 in
    let was : entered t r ≡ Some c.in-Some.holding.now = first_is es r h at ∙ sym (first_value es r h at) ∙ sym c.in-Some.ensures.value in
    kinds_first t.replicas es r h c.step.new.self at t.kinds (c.step.ensures.kind t.replicas r (kind_entered t.replicas es r c.in-Some.holding.now t.kinds was))

pub returns : goal.returns
returns c =
    let t = c.args.self.now in
    let es = t.entries.entries in
    let r : Right = c.args.right.now in
    let h : Holding = c.requires.first.0 in
    let at = c.requires.first.1 in
    let after : Holding = c.step.new.self in (
      c.in-Some.holding.now,
      after,
      record {
        me = refl;
        replicas = refl;
        was = first_is es r h at ∙ sym (first_value es r h at) ∙ sym c.in-Some.ensures.value;
        is = λ q. (updates-with_value_at t.entries 0 after same_equiv c.in-Some.ensures.unique r h at).0 q;
      },
      c.step.ensures.done,
    )
