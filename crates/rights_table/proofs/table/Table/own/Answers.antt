use Rattle.std.proofs.Common.{◌≡◌, ◌<◌, ◌^◌, true, refl, sym, subst, ◌∙◌, arith}
use Rattle.spec_model.specs.declared.log.Body.{Body}
use Rattle.spec_model.specs.declared.right.Held.{Held}
use Rattle.run_model.specs.Allowed.{IsAllowed, IsHeldPiece, span_given}
use Rattle.run_model.specs.Passing.{can_accept}
use Rattle.rights_table.proofs.Telling.{table_tells}
use Rattle.run_model.specs.Fitting.{BodyFits}
use Rattle.rights_table.specs.Whole.{GoesWith, HasEntryFor}
use Rattle.rights_table.proofs.Growing.{few_act, few_out, few_accept}
use Rattle.rights_table.proofs.Named.{act_held}
use Rattle.rights_table.proofs.Owned.{acts_entered, gain_small, on_shares, within}
use Rattle.std.specs.Prelude.{length}
use Rattle.std.proofs.lemmas.Option.{same_Some}
use Rattle.rights_table.specs.Tables.{count_in}
use Rattle.rights_table.specs.Cells.{all_gain}
use Rattle.rights_table.proofs.table.Table.own.Goals as goal

pub act-requires-clause-entered : goal.act-requires-clause-entered
act-requires-clause-entered c =
    let setup = c.args.setup.now in
    let needs = c.args.needs.now in
    let may = c.requires.may in
    let with = subst (λ (b : Body). GoesWith setup may.0 may.1 may.2 may.3.deps c.args.of needs b) (may.4 ∙ c.in-Act.is) may.6.with in
    let ready = subst (λ (b : Body). HasEntryFor setup b c.args.of needs c.args.self.now) c.in-Act.is c.requires.ready in
    acts_entered setup c.args.self.now needs (on_shares setup needs with.1) ready.1

pub act-requires-clause-small : goal.act-requires-clause-small
act-requires-clause-small c = λ q.
    let setup = c.args.setup.now in
    let may = c.requires.may in
    let has = may.5 in
    within (length may.2) (count_in setup c.args.self.now q) (all_gain setup.spec c.in-Act.inst q) may.6.few (let few = has.few.counts q in let same = has.table.counts q refl in omega (arith, few, same)) (gain_small setup.spec c.in-Act.inst q c.requires.setup.spec)

pub act-requires-clause-held : goal.act-requires-clause-held
act-requires-clause-held c = λ q.
    let setup = c.args.setup.now in
    let may = c.requires.may in
    let is = may.4 ∙ c.in-Act.is in
    let fits = subst (λ (b : Body). BodyFits setup b) is may.6.fits in
    let allowed = subst (λ (b : Body). IsAllowed setup may.0 may.1 may.2 may.3.deps b) is may.6.allowed in
    let held = act_held setup may.0 may.1 may.2 may.3.deps c.in-Act.inst c.requires.setup fits allowed q in
    let same = may.5.table.counts q refl in
    omega (arith, held, same)

pub give-requires-clause-held : goal.give-requires-clause-held
give-requires-clause-held c =
    let setup = c.args.setup.now in
    let may = c.requires.may in
    let allowed = subst (λ (b : Body). IsAllowed setup may.0 may.1 may.2 may.3.deps b) (may.4 ∙ c.in-Out.is) may.6.allowed in
    let tells = table_tells setup may.0 may.1 may.2 (λ r. true) c.args.self.now c.in-Out.right (span_given c.in-Out.piece) may.5.table refl in
    subst (λ (held : Held). IsHeldPiece held c.in-Out.piece) (sym tells) allowed

pub accept_of-requires-clause-joins : goal.accept_of-requires-clause-joins
accept_of-requires-clause-joins c =
    let setup = c.args.setup.now in
    let may = c.requires.may in
    let takes = subst (λ (b : Body). GoesWith setup may.0 may.1 may.2 may.3.deps c.args.of c.args.needs.now b) (may.4 ∙ c.in-Accept.is) may.6.with in
    let tells = table_tells setup may.0 may.1 may.2 (λ r. true) c.args.self.now takes.right (span_given takes.piece) may.5.table refl in (
      takes.to,
      takes.right,
      takes.piece,
      same_Some c.in-Some.out takes.out.body (sym c.in-Some.is ∙ takes.of_is) ∙ takes.gives,
      takes.piece_fits,
      subst (λ (held : Held). can_accept setup.replicas held takes.piece ≡ true) (sym tells) takes.joins,
    )

pub returns-in-Act-clause-owned : goal.returns-in-Act-clause-owned
returns-in-Act-clause-owned c = λ logs me own x is has may.
    let setup = c.args.setup.now in
    let act = is ∙ c.in-Act.is in
    let with = subst (λ (b : Body). GoesWith setup logs me own x.deps c.args.of c.args.needs.now b) act may.with in
    record {
      table = c.act.ensures.acted logs me own x act with.0 has.table;
      few = few_act setup logs me own x has.few c.in-Act.inst c.requires.setup.spec act;
    }

pub returns-in-Out-clause-owned : goal.returns-in-Out-clause-owned
returns-in-Out-clause-owned c = λ logs me own x is has may.
    let setup = c.args.setup.now in
    let out = is ∙ c.in-Out.is in
    record {
      table = c.give.ensures.out logs me own (λ r. true) x c.in-Out.to out has.table;
      few = few_out setup logs me own x has.few c.in-Out.to c.in-Out.right c.in-Out.piece out;
    }

pub returns-in-Some-clause-owned : goal.returns-in-Some-clause-owned
returns-in-Some-clause-owned c = λ logs me own x is has may.
    let setup = c.args.setup.now in
    let accept = is ∙ c.in-Accept.is in
    let takes = subst (λ (b : Body). GoesWith setup logs me own x.deps c.args.of c.args.needs.now b) accept may.with in
    record {
      table = c.accept_of.ensures.accepted logs me own x takes.out c.in-Accept.from c.in-Accept.index accept takes.there (same_Some takes.out.body c.in-Some.out (sym takes.of_is ∙ c.in-Some.is)) has.table;
      few = few_accept setup logs me own x has.few c.args.of c.in-Accept.from c.in-Accept.index (subst (λ n. n < 2 ^ 32) c.few_replicas.ensures.value c.few_replicas.ensures.few) accept takes;
    }
