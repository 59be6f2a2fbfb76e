-- A message that is sent fits the replica that it is sent to.
use Rattle.std.proofs.Common.{refl, ◌≡◌, ◌≢◌, ℕ, ◌<◌, ◌≤◌, List, [], length, map, take, drop, sym, ap, subst, ◌∙◌, arith, length-take}
use Rattle.std.specs.Prelude.{slice_index, slice_index_or}
use Rattle.std.specs.List.{AllByRecursion}
use Rattle.std.proofs.lemmas.List.{length-map}
use Rattle.spec_model.specs.declared.plan.Setup.{Setup}
use Rattle.spec_model.specs.declared.right.Want.{Want}
use Rattle.spec_model.specs.declared.log.LogItem.{LogItem}
use Rattle.run_model.specs.declared.message.Message.{Message}
use Rattle.run_model.specs.Logs.{Logs}
use Rattle.run_model.specs.Steps.{message_of}
use Rattle.run_model.specs.Wants.{want_less}
use Rattle.run_model.specs.Worlds.{Standing, holding}
use Rattle.run_model.specs.Fitting.{AreInRow, ItemFits, MessageFits, WantFits}
use Rattle.run_model.proofs.Lists.{each_take}
use Rattle.run_model.proofs.Own.{own_drop}
use Rattle.causal_store.specs.Stores.{cut_in}
use Rattle.causal_store.proofs.Stored.{each_log}
use Rattle.replica_core.specs.Replicas.{IsReplica, holds_of, known_to, own_log, standing_of}
use Rattle.replica_core.specs.declared.replica.Replica.{Replica}
use Rattle.replica_core.proofs.Applied.{row_taken}
use Rattle.message_laws.proofs.Lists.{each_dropped}
use Rattle.message_laws.proofs.Wanted.{wants_less_fit}

-- a replica whose log and wants fit
pub record CanSend (setup : Setup) (me : ℕ) (p : Standing) : Type 0 where
  pub place : me < setup.replicas
  pub wide : length p.cut ≡ setup.replicas
  pub log : AllByRecursion (ItemFits setup) p.log
  pub own : AreInRow me 0 p.log
  pub wants : AllByRecursion (WantFits setup) p.wants
  pub few : length p.wants ≤ 8

-- its message to another fits that one
pub message_fits : (setup : Setup) (logs : Logs) (me to number stamp : ℕ) (p : Standing) → CanSend setup me p → to ≢ me → MessageFits setup to (message_of setup logs me to number stamp p)
message_fits setup logs me to number stamp p h other =
    let seen : ℕ = slice_index (slice_index_or p.told to []) me in
    let rest : List LogItem = drop seen p.log in
    record {
      sender = h.place;
      other = λ same. other (sym same);
      receiver = refl;
      cut = h.wide;
      items = each_take (ItemFits setup) 16 rest (each_dropped (ItemFits setup) seen p.log h.log);
      first = seen;
      row = row_taken me seen 16 rest (own_drop me 0 seen p.log seen (omega arith) h.own);
      few_items = omega (arith, length-take 16 rest);
      wants = wants_less_fit setup (holding setup logs me p) p.wants h.wants;
      few_wants = omega (arith, length-map p.wants (want_less (holding setup logs me p)), h.few);
    }

-- so does that of a replica of the code
pub sent_fits : (setup : Setup) (r : Replica) (to number stamp : ℕ) (cut : List ℕ) (items : List LogItem) (wants : List Want) → IsReplica setup r.me r → to ≢ r.me → cut ≡ cut_in r.store
    → items ≡ take 16 (drop (slice_index (slice_index_or r.told to []) r.me) (own_log r)) → wants ≡ map (want_less (holds_of setup r)) r.wants
    → MessageFits setup to (record { from = r.me; to = to; number = number; stamp = stamp; cut = cut; items = items; wants = wants })
sent_fits setup r to number stamp cut items wants own other cut_is items_are wants_are =
    let p : Standing = standing_of 0 [] [] r in
    let message : List ℕ → List LogItem → List Want → Message = λ cut items wants. record { from = r.me; to = to; number = number; stamp = stamp; cut = cut; items = items; wants = wants } in
    let fits = message_fits setup (known_to r) r.me to number stamp p (record {
      place = own.view.within;
      wide = own.view.cut;
      log = each_log (ItemFits setup) (known_to r) r.me own.view.fits;
      own = own.view.own;
      wants = own.wants;
      few = own.few_wants;
    }) other in
    subst (MessageFits setup to) (sym (ap (λ c. message c items wants) cut_is ∙ ap (λ i. message p.cut i wants) items_are ∙ ap (message p.cut (take 16 (drop (slice_index (slice_index_or r.told to []) r.me) (own_log r)))) wants_are)) fits
