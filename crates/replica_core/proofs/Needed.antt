-- What a request needs, and what is wanted once it is short.
use Rattle.std.proofs.Common.{◌≡◌, ◌∙◌, ℕ, ◌≤◌, List, [], ◌∷◌, length, refl, sym, ap, subst, arith}
use Rattle.std.specs.Prelude.{Some, None, slice_set}
use Rattle.std.specs.List.{AllByRecursion}
use Rattle.std.proofs.lemmas.List.{length-append}
use Rattle.spec_model.specs.declared.plan.Setup.{Setup}
use Rattle.spec_model.specs.declared.clause.Broken.{Broken}
use Rattle.spec_model.specs.declared.instance.Inst.{Inst}
use Rattle.spec_model.specs.declared.right.Need.{Need}
use Rattle.spec_model.specs.declared.right.Want.{Want}
use Rattle.spec_model.specs.declared.right.Held.{Held}
use Rattle.spec_model.specs.declared.right.Lacking.{Lacking}
use Rattle.spec_model.specs.declared.log.Body.TheVariants as body
use Rattle.spec_model.specs.Needs.{needs}
use Rattle.run_model.specs.declared.batch.Batch.{Batch}
use Rattle.run_model.specs.declared.step.Outcome.{Outcome}
use Rattle.run_model.specs.declared.step.Outcome.TheVariants as outcomes
use Rattle.run_model.specs.Logs.{Logs}
use Rattle.run_model.specs.Levels.{first_lacking}
use Rattle.run_model.specs.Worlds.{Sending, Standing}
use Rattle.run_model.specs.Steps.{Requested, Requests}
use Rattle.run_model.specs.Wants.{noted, want_of}
use Rattle.run_model.specs.Fitting.{NeedFits, WantFits}
use Rattle.causal_store.specs.Stores.{IsStore}
use Rattle.rights_table.specs.Lacks.{Tells, TablesTell, lacking_of}
use Rattle.rights_table.specs.Tables.{holding_in}
use Rattle.message_laws.specs.Views.{item_of}
use Rattle.message_laws.proofs.Wanted.{lacking_fits, noted_few, noted_fit, want_fits}
use Rattle.replica_core.specs.Replicas.{HasAnswered, HasLogged, IsReplica, holds_of, known_to, own_log, standing_of, view_of}
use Rattle.replica_core.specs.Decisions.{broken_here, truths_here}
use Rattle.replica_core.specs.declared.replica.Replica.{Replica}
use Rattle.replica_core.proofs.Items.{set_back}

-- what it applied is a store, by the logs that it knows
pub store_whole : (setup : Setup) (r : Replica) → IsReplica setup r.me r → IsStore setup.spec (length (known_to r)) r.store
store_whole setup r own = subst (λ n. IsStore setup.spec n r.store) (sym own.store.whole) own.store

-- ---- what its table tells

-- what the table tells is what is held
pub tells : TablesTell → (setup : Setup) (r : Replica) → IsReplica setup r.me r → Tells setup (known_to r) r.me (own_log r) r.table
tells law setup r own = law setup (known_to r) r.me (own_log r) r.table own.all.table

-- ---- a replica with other wants, and told more

pub record Hears (setup : Setup) (old new : Replica) : Type 0 where
  pub wants : List Want
  pub told : List (List ℕ)
  pub is : new ≡ record old { wants = wants; told = told }
  pub fit : AllByRecursion (WantFits setup) wants
  pub few : length wants ≤ 8
  pub whole : length told ≡ setup.replicas
  pub each : AllByRecursion (λ cut. length cut ≡ setup.replicas) told

pub heard_replica : (setup : Setup) (me : ℕ) (old new : Replica) → IsReplica setup me old → Hears setup old new → IsReplica setup me new
heard_replica setup me old new own h = subst (IsReplica setup me) (sym h.is) (record {
  me_is = own.me_is;
  setup_fits = own.setup_fits;
  store = own.store;
  view = own.view;
  all = own.all;
  wants = h.fit;
  few_wants = h.few;
  told = h.whole;
  told_each = h.each;
})

-- ---- requests

-- what the instance needs in its state
abbrev pub needs_here : Setup → Inst → Replica → List Need
needs_here setup inst r = needs setup (truths_here setup (view_of r)) inst

-- where no clause would break, what is needed decides
unbroken : (setup : Setup) (inst : Inst) (old new : Replica) (outcome : Outcome) (stamp : ℕ) (sendings : List Sending) (kept : List Batch) → broken_here setup inst (view_of old) ≡ None
    → Requested old.me inst None (first_lacking setup.replicas (holds_of setup old) (needs_here setup inst old)) (standing_of stamp sendings kept old) outcome (standing_of stamp sendings kept new)
    → Requests setup (known_to old) old.me inst (standing_of stamp sendings kept old) outcome (standing_of stamp sendings kept new)
unbroken setup inst old new outcome stamp sendings kept whole is =
    subst (λ b. Requested old.me inst b (first_lacking setup.replicas (holds_of setup old) (needs_here setup inst old)) (standing_of stamp sendings kept old) outcome (standing_of stamp sendings kept new)) (sym whole) is

-- where one would, nothing changes
pub answered_breaks : (setup : Setup) (r : Replica) (inst : Inst) (broken : Broken) → IsReplica setup r.me r → broken_here setup inst (view_of r) ≡ Some broken → HasAnswered setup inst r (outcomes.Breaks broken) r
answered_breaks setup r inst broken own is = record {
  own = own;
  requests = λ stamp sendings kept.
      subst (λ b. Requested r.me inst b (first_lacking setup.replicas (holds_of setup r) (needs_here setup inst r)) (standing_of stamp sendings kept r) (outcomes.Breaks broken) (standing_of stamp sendings kept r)) (sym is) (refl, refl);
  knows = sym (set_back (known_to r) r.me);
  grown = omega arith;
}

-- short of a need, which is wanted
pub answered_short : (setup : Setup) (inst : Inst) (old new : Replica) (l : Lacking) → IsReplica setup old.me old → WantFits setup (want_of l.need) → broken_here setup inst (view_of old) ≡ None
    → Some l ≡ first_lacking setup.replicas (holds_of setup old) (needs_here setup inst old) → new ≡ record old { wants = noted old.wants (want_of l.need) } → HasAnswered setup inst old (outcomes.Short l) new
answered_short setup inst old new l own fits whole is becomes =
    let want : Want = want_of l.need in
    record {
      own = heard_replica setup old.me old new own (record { wants = noted old.wants want; told = old.told; is = becomes; fit = noted_fit (WantFits setup) old.wants want own.wants fits; few = noted_few old.wants want own.few_wants; whole = own.told; each = own.told_each });
      requests = λ stamp sendings kept. unbroken setup inst old new (outcomes.Short l) stamp sendings kept whole (subst (λ o. Requested old.me inst None o (standing_of stamp sendings kept old) (outcomes.Short l) (standing_of stamp sendings kept new)) is (refl, ap (standing_of stamp sendings kept) becomes));
      knows = subst (λ (r : Replica). known_to r ≡ set_log r) (sym becomes) (sym (set_back (known_to old) old.me));
      grown = omega (arith, ap (λ (r : Replica). length (own_log r)) becomes);
    }
  where
    set_log : Replica → Logs
    set_log r = slice_set (known_to old) r.me (own_log r)

-- done where nothing is lacking
pub answered_done : (setup : Setup) (inst : Inst) (old new : Replica) (index : ℕ) → index ≡ length (own_log old) → broken_here setup inst (view_of old) ≡ None → None ≡ first_lacking setup.replicas (holds_of setup old) (needs_here setup inst old) → HasLogged setup (body.Act inst) old new
    → HasAnswered setup inst old (outcomes.Done index) new
answered_done setup inst old new index at whole is h = record {
  own = h.own;
  requests = λ stamp sendings kept. unbroken setup inst old new (outcomes.Done index) stamp sendings kept whole (subst (λ o. Requested old.me inst None o (standing_of stamp sendings kept old) (outcomes.Done index) (standing_of stamp sendings kept new)) is (ap outcomes.Done at, h.stands stamp sendings kept));
  knows = h.knows;
  grown = omega (arith, ap (λ (p : Standing). length p.log) (h.stands 0 [] []), length-append (own_log old) (item_of (view_of old) (body.Act inst) ∷ []));
}

-- what the table lacks first of what is needed is what is lacking
pub lacks : TablesTell → (setup : Setup) (r : Replica) (all these : List Need) → IsReplica setup r.me r → these ≡ all → first_lacking setup.replicas (holding_in setup r.table) these ≡ first_lacking setup.replicas (holds_of setup r) all
lacks law setup r all these own is =
    ap (first_lacking setup.replicas (holding_in setup r.table)) is ∙ (tells law setup r own).lacking all

-- a need with what the table tells of it
pub told_lacking : TablesTell → (setup : Setup) (r : Replica) (need : Need) → IsReplica setup r.me r → lacking_of (holding_in setup r.table) need ≡ lacking_of (holds_of setup r) need
told_lacking law setup r need own = ap (λ (h : Held). let l : Lacking = record { need = need; held = h } in l) ((tells law setup r own).held need)

-- it is lacking, and its want fits
pub short_here : TablesTell → (setup : Setup) (r : Replica) (inst : Inst) (all : List Need) (need : Need) (l : Lacking) → IsReplica setup r.me r → all ≡ needs_here setup inst r → AllByRecursion (NeedFits setup) all
    → first_lacking setup.replicas (holds_of setup r) all ≡ Some (lacking_of (holding_in setup r.table) need) → l ≡ lacking_of (holds_of setup r) need → (first_lacking setup.replicas (holds_of setup r) (needs_here setup inst r) ≡ Some l) × WantFits setup (want_of l.need)
short_here law setup r inst all need l own all_is fit found is =
    let holds = holds_of setup r in
    let same : first_lacking setup.replicas holds all ≡ Some l = found ∙ ap (λ (m : Lacking). Some m) (told_lacking law setup r need own ∙ sym is) in
    (ap (first_lacking setup.replicas holds) (sym all_is) ∙ same, want_fits setup l.need (lacking_fits (NeedFits setup) setup.replicas holds all l fit same))
