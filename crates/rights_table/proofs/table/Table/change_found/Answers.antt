use Rattle.std.proofs.Common.{◌≡◌, cond, refl, sym, ap, ◌∙◌}
use Rattle.std.specs.Prelude.{Some}
use Rattle.spec_model.specs.declared.right.Right.{Right}
use Rattle.run_model.specs.Rights.{same_right}
use Rattle.rights_table.specs.Entries.{are_of_kind}
use Rattle.rights_table.specs.Tables.{entered}
use Rattle.rights_table.proofs.Entries.{kind_entered, kinds_set, no_some, some_is}
use Rattle.rights_table.proofs.table.Table.change_found.Goals as goal

pub step-requires : goal.step-requires
step-requires c = c.requires.may c.in-Some.holding.now (ap (entered c.args.self.now) (sym c.of.ensures) ∙ sym c.in-Some.ensures.value)

pub unreachable-requires : goal.unreachable-requires
unreachable-requires c = no_some c.requires.entered.0 (sym c.requires.entered.1 ∙ ap (entered c.args.self.now) (sym c.of.ensures) ∙ sym c.in-None.ensures.value)

pub invariant_of-self-clause-kinds : goal.invariant_of-self-clause-kinds
invariant_of-self-clause-kinds c =
    let t = c.args.self.now in
    let es = t.entries.entries in
    let k : Right = c.of.result in
    let after = c.step.new.self in
    let kind = c.step.ensures.kind t.replicas k (kind_entered t.replicas es k c.in-Some.holding.now t.kinds (sym c.in-Some.ensures.value)) in
    ap (are_of_kind t.replicas) (c.get_mut.follows.holds after).0 ∙ kinds_set t.replicas es k after t.kinds kind

pub returns : goal.returns
returns c =
    let t = c.args.self.now in
    let k : Right = c.of.result in
    let before = c.in-Some.holding.now in
    let after = c.step.new.self in
    let was : entered t k ≡ Some before = sym c.in-Some.ensures.value in (
      before,
      after,
      record {
        me = refl;
        replicas = refl;
        was = ap (entered t) (sym c.of.ensures) ∙ was;
        is = λ q. ((c.get_mut.follows.holds after).3 (some_is (entered t k) before was)).0 q ∙ ap (λ (r : Right). cond (same_right r q) (Some after) (entered t q)) c.of.ensures;
      },
      c.step.ensures.done,
    )
