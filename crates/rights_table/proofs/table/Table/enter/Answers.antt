use Rattle.std.proofs.Common.{◌≡◌, true, cond, refl, sym, ap, subst, ◌∙◌}
use Rattle.std.specs.Prelude.{Some}
use Rattle.spec_model.specs.declared.right.Right.{Right}
use Rattle.run_model.specs.Rights.{same_right}
use Rattle.rights_table.specs.Holdings.{is_of}
use Rattle.rights_table.specs.Tables.{entered}
use Rattle.rights_table.proofs.Entries.{kinds_made}
use Rattle.rights_table.proofs.table.Table.enter.Goals as goal

pub invariant_of-self-clause-kinds : goal.invariant_of-self-clause-kinds
invariant_of-self-clause-kinds c =
    let t = c.args.self.now in
    let kind = subst (λ (k : Right). is_of t.replicas k c.args.holding ≡ true) (sym c.of.ensures) c.requires.kind in
    kinds_made c.insert.result t.replicas t.entries.entries c.insert.new.self.entries c.of.result c.args.holding c.insert.ensures.entries c.insert.ensures.err t.kinds kind

pub returns : goal.returns
returns c =
    let t = c.args.self.now in
    record {
      me = refl;
      replicas = refl;
      was = c.requires.none;
      is = λ q. c.in_ok-insert.ensures.updates.0 q ∙ ap (λ (k : Right). cond (same_right k q) (Some c.args.holding) (entered t q)) c.of.ensures;
    }
