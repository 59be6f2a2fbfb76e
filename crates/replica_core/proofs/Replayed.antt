-- Room for what was decided, and what was committed logged again, batch by batch.
use Rattle.std.proofs.Common.{◌≡◌, ◌≢◌, inl, inr, ℕ, zero, suc, ◌+◌, ◌<◌, ◌≤◌, List, [], ◌∷◌, ◌++◌, length, get_or, map, replicate, take, drop, refl, sym, ap, subst, ◌∙◌, arith, length-append, eq-eqb}
use Rattle.std.specs.Prelude.{All, Contains, Err, None, Ok, OnOk, Result, Some, slice_get, slice_set, ◌==◌}
use Rattle.std.specs.List.{AllByRecursion, flat_map}
use Rattle.std.proofs.lemmas.List.{length-map, append-nil}
use Rattle.std.proofs.lemmas.List.Concat.{flat_map-cons}
use Rattle.std.proofs.lemmas.Grind.{flat_map-append}
use Rattle.spec_model.specs.declared.plan.Setup.{Setup}
use Rattle.spec_model.specs.declared.instance.Inst.{Inst}
use Rattle.spec_model.specs.Fits.{InstFits}
use Rattle.spec_model.specs.Needs.{needs}
use Rattle.run_model.specs.States.{truths_in}
use Rattle.std.proofs.lemmas.Bool.{cond-true}
use Rattle.spec_model.specs.declared.right.Need.{Need}
use Rattle.spec_model.specs.declared.log.Body.{Body}
use Rattle.spec_model.specs.declared.log.Body.TheVariants as body
use Rattle.spec_model.specs.declared.log.LogItem.{LogItem}
use Rattle.run_model.specs.declared.batch.Batch.{Batch}
use Rattle.run_model.specs.declared.message.Message.{Message}
use Rattle.run_model.specs.declared.step.Outcome.TheVariants as outcomes
use Rattle.run_model.specs.Logs.{Logs, cut_after, log_at, with_all}
use Rattle.run_model.specs.Worlds.{Standing, Sending, Up, logged}
use Rattle.run_model.specs.Steps.{Requests, Takes, accepts_of}
use Rattle.run_model.specs.Fitting.{BodyFits, ItemFits, NeedFits}
use Rattle.run_model.proofs.Lists.{each_append, each_weaker}
use Rattle.causal_store.specs.Stores.{HasRoomFor, IsStore, cut_in, logs_in}
use Rattle.causal_store.specs.declared.store.Store.{Store}
use Rattle.rights_table.specs.declared.table.Table.{Table}
use Rattle.rights_table.specs.Whole.{HasAll, HasEntriesFor}
use Rattle.message_laws.specs.Heeded.{with_items}
use Rattle.message_laws.specs.Views.{IsView, View, item_of, seeing}
use Rattle.message_laws.proofs.Logged.{logged_keeps}
use Rattle.message_drafts.specs.declared.taken.Taken.{Taken}
use Rattle.replica_core.specs.declared.decision.Decision.TheVariants as decision
use Rattle.replica_core.specs.declared.replica.Replica.{Replica}
use Rattle.replica_core.specs.Decisions.{Decides, IsDecided, IsReadyFor, StaysSame, truths_here}
use Rattle.replica_core.specs.Laws.{CommitsMore}
use Rattle.replica_core.specs.Next.{AreEntered, AreNext, AreOthers, IsNext, act_among}
use Rattle.replica_core.specs.Recovered.{AreCommitted, AreDecided, HasReplayed, logs_after, no_logs}
use Rattle.replica_core.specs.Replicas.{HasAnswered, HasLearned, HasLoggedAll, IsReplica, KnowsOwn, known_to, own_log, standing_of, view_of}
use Rattle.replica_core.proofs.Applied.{are_others, part_of, start_of}
use Rattle.replica_core.proofs.Changes.{longer_by}
use Rattle.replica_core.proofs.Committed.{Plans, before_of, gives_of, joined_back, taken_plans}
use Rattle.replica_core.proofs.Doing.{learned_cut, learned_known, logged_known}
use Rattle.replica_core.proofs.Entered.{plans_entered}
use Rattle.replica_core.proofs.Items.{IsNoAct, accepts_no_act, gives_no_act, items_for, items_origin, with_all_append, with_none}
use Rattle.replica_core.proofs.Lists.{back_of, drop_at_item, front_of, take_more}
use Rattle.replica_core.proofs.Logged.{learned_logs, own_stays}
use Rattle.replica_core.proofs.Needed.{answered_done}
use Rattle.replica_core.proofs.Next.{next_both, next_fit, next_like, next_one}
use Rattle.replica_core.proofs.Silent.{heeded_or_nothing}

-- ---- the same but for room

-- it decides the same, whatever room there is and whatever needs are kept
same_ready : (setup : Setup) (old : Replica) (s : Store) (t : Table) (n : List Need) → IsReplica setup old.me old → IsStore setup.spec setup.replicas s → logs_in s ≡ known_to old → cut_in s ≡ cut_in old.store → HasAll setup (known_to old) old.me (own_log old) t → StaysSame setup old (record old { store = s; table = t; needs = n })
same_ready setup old s t n own store logs cut all =
    let me : ℕ = old.me in
    let back : known_to old ≡ logs_in s = sym logs in
    let view : Logs → List ℕ → View = λ l k. record { me = me; known = l; cut = k } in
    let same : view (logs_in s) (cut_in s) ≡ view_of old = ap (λ (l : Logs). view l (cut_in s)) logs ∙ ap (view (known_to old)) cut in
    let stand : Logs → List ℕ → ℕ → List Sending → List Batch → Standing = λ l k stamp sendings kept. record { log = log_at l me; cut = k; stamp = stamp; wants = old.wants; told = old.told; sendings = sendings; running = Up; kept = kept } in
    record {
      own = record {
        me_is = refl;
        setup_fits = own.setup_fits;
        store = store;
        view = subst (IsView setup) (sym same) own.view;
        all = subst (λ (l : Logs). HasAll setup l me (log_at l me) t) back all;
        wants = own.wants;
        few_wants = own.few_wants;
        told = own.told;
        told_each = own.told_each;
      };
      view = same;
      wants = refl;
      told = refl;
      room = λ n h. subst (λ (l : Logs). length (log_at l me) + n ≤ 4194304) back h;
      answered = λ inst outcome last h. record {
        own = h.own;
        requests = λ stamp sendings kept. subst (λ (k : List ℕ). Requests setup (known_to old) me inst (stand (known_to old) k stamp sendings kept) outcome (standing_of stamp sendings kept last)) cut
            (subst (λ (l : Logs). Requests setup l me inst (stand l (cut_in s) stamp sendings kept) outcome (standing_of stamp sendings kept last)) logs (h.requests stamp sendings kept));
        knows = subst (λ (l : Logs). KnowsOwn l last) logs h.knows;
        grown = subst (λ (l : Logs). length (own_log last) ≤ length (log_at l me) + 1) logs h.grown;
      };
      took = λ message outcome last h. record {
        own = h.own;
        applied = h.applied;
        takes = λ stamp sendings kept. subst (λ (k : List ℕ). Takes setup (with_all h.applied (known_to old)) me message h.applied (stand (known_to old) k stamp sendings kept) outcome (standing_of stamp sendings kept last)) cut
            (subst (λ (l : Logs). Takes setup (with_all h.applied l) me message h.applied (stand l (cut_in s) stamp sendings kept) outcome (standing_of stamp sendings kept last)) logs (h.takes stamp sendings kept));
        knows = subst (λ (l : Logs). KnowsOwn (with_all h.applied l) last) logs h.knows;
        grown = subst (λ (l : Logs). length (own_log last) ≤ length (log_at l me) + 24) logs h.grown;
      };
    }

pub stays_same : (setup : Setup) (old new : Replica) → IsReplica setup old.me old → IsStore setup.spec setup.replicas new.store → new ≡ record old { store = new.store; table = new.table; needs = new.needs } → logs_in new.store ≡ known_to old → cut_in new.store ≡ cut_in old.store → HasAll setup (known_to old) old.me (own_log old) new.table → StaysSame setup old new
stays_same setup old new own store kept logs cut all = subst (StaysSame setup old) (sym kept) (same_ready setup old new.store new.table new.needs own store logs cut all)

-- ---- what a batch asks of the replica that does it

-- it is of replica r, and what it needs was found in its state
pub record IsLone (r : Replica) (items : List LogItem) (item : LogItem) (inst : Inst) : Type 0 where
  pub past : item.deps ≡ cut_in r.store
  pub alone : act_among r.me items ≡ Some inst

-- the batch, cut where its own items begin
pub record Replays (setup : Setup) (r : Replica) (items front own : List LogItem) : Type 0 where
  pub items_are : items ≡ front ++ own
  pub mine : AllByRecursion (λ i. i.origin ≡ r.me) own
  pub few : length own ≤ 24
  pub few_learned : length front ≤ 16
  pub from : ℕ
  pub can : AreOthers setup r from front
  pub fits : AllByRecursion (λ i. BodyFits setup i.body) items
  pub acts : (item : LogItem) (inst : Inst) → Contains items item → item.origin ≡ r.me → item.body ≡ body.Act inst → IsLone r items item inst
  pub next : IsReadyFor setup r items → (learned : Replica) → IsReplica setup r.me learned → HasLearned setup.spec front r learned → AreNext setup (known_to learned) learned.me learned.needs (standing_of 0 [] [] learned) own × AreEntered setup (known_to learned) learned.needs learned.table own

-- ---- an act

act_lone : (setup : Setup) (r : Replica) (inst : Inst) (items : List LogItem) → items ≡ item_of (view_of r) (body.Act inst) ∷ [] → (item : LogItem) (other : Inst) → Contains items item → item.origin ≡ r.me → item.body ≡ body.Act other → IsLone r items item other
act_lone setup r inst items is item other there mine act =
    let one : LogItem = item_of (view_of r) (body.Act inst) in
    let same : item ≡ one = of_one one item (subst (λ (l : List LogItem). Contains l item) is there) in
    let insts : inst ≡ other = act_is inst other (sym (ap (λ (i : LogItem). i.body) same) ∙ act) in
    record {
      past = ap (λ (i : LogItem). i.deps) same;
      alone = ap (act_among r.me) is ∙ cond-true (r.me == r.me) (Some inst) None (eq-eqb r.me r.me refl) ∙ ap (λ (i : Inst). Some i) insts;
    }
  where
    of_one : (x y : LogItem) → Contains (x ∷ []) y → y ≡ x
    of_one x y (zero, lt, is) = sym is
    of_one x y (suc k, lt, is) = absurd (omega (arith, lt))

    act_is : (a b : Inst) → body.Act a ≡ body.Act b → a ≡ b
    act_is a b h = cc

pub act_next : (setup : Setup) (r : Replica) (inst : Inst) (batch : Batch) (items : List LogItem) → IsReplica setup r.me r → InstFits setup.spec inst → Decides setup inst (view_of r) (decision.Act batch) → items ≡ batch.items → IsReadyFor setup r batch.items
    → AreNext setup (known_to r) r.me r.needs (standing_of 0 [] [] r) items × AreEntered setup (known_to r) r.needs r.table items
act_next setup r inst batch items own fits decides is ready =
    let item : LogItem = item_of (view_of r) (body.Act inst) in
    let there : Contains batch.items item = subst (λ (l : List LogItem). Contains l item) (sym decides.1) (0, omega arith, refl) in
    let next : IsNext setup (known_to r) r.me r.needs (standing_of 0 [] [] r) item = record { is = refl; fits = fits; allowed = record { unbroken = decides.2; met = decides.0 }; along = ready.needs item inst there refl refl } in
    let entered : AreEntered setup (known_to r) r.needs r.table (item ∷ []) = ((ready.entries.acts item inst there (sym own.all.table.of.me) refl, ready.entries.needed), tt) in
    let these : item ∷ [] ≡ items = sym (is ∙ decides.1) in
    (subst (AreNext setup (known_to r) r.me r.needs (standing_of 0 [] [] r)) these (next_one setup r r.needs item next), subst (AreEntered setup (known_to r) r.needs r.table) these entered)

pub act_done : (setup : Setup) (old new : Replica) (inst : Inst) (batch : Batch) (items : List LogItem) → Decides setup inst (view_of old) (decision.Act batch) → items ≡ batch.items → HasLoggedAll setup (map (λ (i : LogItem). i.body) items) old new
    → HasAnswered setup inst old (outcomes.Done (length (own_log old))) new
act_done setup old new inst batch items decides is h =
    let logged : HasLoggedAll setup (body.Act inst ∷ []) old new = subst (λ (l : List LogItem). HasLoggedAll setup (map (λ (i : LogItem). i.body) l) old new) (is ∙ decides.1) h in
    answered_done setup inst old new (length (own_log old)) refl decides.2 (sym decides.0) (record { own = logged.own; stands = logged.stands; knows = logged.knows })

-- a replica that learned nothing
nothing_learned : (setup : Setup) (r learned : Replica) → IsReplica setup r.me r → HasLearned setup.spec [] r learned → (known_to learned ≡ known_to r) × (cut_in learned.store ≡ cut_in r.store)
nothing_learned setup r learned own h =
    let same : known_to learned ≡ known_to r = h.logs r.me tt (omega (arith, own.store.whole, own.view.within)) ∙ with_none r.me (known_to r) in
    (same, h.store.counts ∙ ap (map (λ (l : List LogItem). length l)) same ∙ sym own.store.counts)

nothing_next : (setup : Setup) (r learned : Replica) (items : List LogItem) → IsReplica setup r.me r → HasLearned setup.spec [] r learned → AreNext setup (known_to r) r.me r.needs (standing_of 0 [] [] r) items → AreEntered setup (known_to r) r.needs r.table items
    → AreNext setup (known_to learned) learned.me learned.needs (standing_of 0 [] [] learned) items × AreEntered setup (known_to learned) learned.needs learned.table items
nothing_next setup r learned items own h next entered =
    let same = nothing_learned setup r learned own h in
    let s : Store = learned.store in
    let q : Standing = standing_of 0 [] [] (record r { store = s }) in
    let like : AreNext setup (known_to r) r.me r.needs q items = next_like setup (known_to r) r.me r.needs (standing_of 0 [] [] r) q items (ap (λ (l : Logs). log_at l r.me) (sym same.0)) (sym same.1) next in
    let here : AreNext setup (logs_in s) r.me r.needs q items = subst (λ (l : Logs). AreNext setup l r.me r.needs q items) (sym same.0) like in
    let there : AreEntered setup (logs_in s) r.needs r.table items = subst (λ (l : Logs). AreEntered setup l r.needs r.table items) (sym same.0) entered in
    (subst (λ (x : Replica). AreNext setup (known_to x) x.me x.needs (standing_of 0 [] [] x) items) (sym h.kept) here, subst (λ (x : Replica). AreEntered setup (known_to x) x.needs x.table items) (sym h.kept) there)

-- no items are the next of its own log, too
no_others : (setup : Setup) (r : Replica) → IsReplica setup r.me r → AreOthers setup r r.me []
no_others setup r own = record { place = own.view.within; others = tt; row = tt; fits = tt }

act_replays : (setup : Setup) (r : Replica) (inst : Inst) (batch : Batch) → IsReplica setup r.me r → InstFits setup.spec inst → Decides setup inst (view_of r) (decision.Act batch) → Replays setup r batch.items [] batch.items
act_replays setup r inst batch own fits decides = record {
  items_are = refl;
  mine = subst (AllByRecursion (λ (i : LogItem). i.origin ≡ r.me)) (sym decides.1) (refl, tt);
  few = omega (arith, ap length decides.1);
  few_learned = omega arith;
  from = r.me;
  can = no_others setup r own;
  fits = subst (AllByRecursion (λ (i : LogItem). BodyFits setup i.body)) (sym decides.1) (fits, tt);
  acts = act_lone setup r inst batch.items decides.1;
  next = λ ready learned is h. let both = act_next setup r inst batch batch.items own fits decides refl ready in nothing_next setup r learned batch.items own h both.0 both.1;
}

-- ---- a take

-- the next items of its own log are no acts
none_lone : (setup : Setup) (r : Replica) (items front own : List LogItem) → items ≡ front ++ own → AllByRecursion (λ i. i.origin ≢ r.me) front → AllByRecursion (λ i. IsNoAct i.body) own → (item : LogItem) (inst : Inst) → Contains items item → item.origin ≡ r.me → item.body ≡ body.Act inst → IsLone r items item inst
none_lone setup r items front own is others none item inst there mine act =
    let Other : LogItem → Type 0 = λ i. i.origin ≡ r.me → IsNoAct i.body in
    let all : AllByRecursion Other (front ++ own) = each_append Other front own (each_weaker (λ (i : LogItem). i.origin ≢ r.me) Other (λ i other same. absurd (other same)) front others) (each_weaker (λ (i : LogItem). IsNoAct i.body) Other (λ i no same. no) own none) in
    absurd (each_contained Other items item (subst (AllByRecursion Other) (sym is) all) there mine inst act)
  where
    each_contained : (P : LogItem → Type 0) (xs : List LogItem) (x : LogItem) → AllByRecursion P xs → Contains xs x → P x
    each_contained P [] x all there = absurd (omega (arith, there.1))
    each_contained P (y ∷ xs) x all (zero, lt, is) = subst P is all.0
    each_contained P (y ∷ xs) x all (suc k, lt, is) = each_contained P xs x all.1 (k, omega (arith, lt), is)

items_no_act : (me : ℕ) (bodies : List Body) (p : Standing) → AllByRecursion IsNoAct bodies → AllByRecursion (λ i. IsNoAct i.body) (items_for me bodies p)
items_no_act me [] p none = tt
items_no_act me (b ∷ bodies) p none = (none.0, items_no_act me bodies (logged me b p) none.1)

take_replays : (setup : Setup) (message : Message) (r : Replica) (taken : Taken) (front accepts outs items : List LogItem) → Plans setup message r taken front accepts outs → items ≡ front ++ (accepts ++ outs) → Replays setup r items front (accepts ++ outs)
take_replays setup message r taken front accepts outs items plans is =
    let me : ℕ = r.me in
    let from : ℕ = message.from in
    let known : Logs = known_to r in
    let logs : Logs = with_items from front known in
    let own : IsReplica setup me r = plans.admits.own in
    let others : AreOthers setup r from front = are_others setup message r front plans.admits in
    let start : Standing = start_of message r front in
    let bodies : List Body = accepts_of me front in
    let gives : List Body = gives_of setup message r front in
    let before : Standing = before_of setup message r front in
    let all = λ (needs : List Need). subst (λ (l : List LogItem). AreNext setup logs me needs start (l ++ outs)) (sym plans.accepts_are)
    (next_both setup logs me needs bodies start outs (subst (AreNext setup logs me needs start) plans.accepts_are (plans.accept needs)) (plans.give needs)) in
    let Mine : LogItem → Type 0 = λ i. i.origin ≡ me in
    let NoAct : LogItem → Type 0 = λ i. IsNoAct i.body in
    let fit : AllByRecursion (λ i. BodyFits setup i.body) front = each_weaker (ItemFits setup) (λ (i : LogItem). BodyFits setup i.body) (λ i h. h.body) front others.fits in
    let none : AllByRecursion NoAct (accepts ++ outs) = each_append NoAct accepts outs (subst (AllByRecursion NoAct) (sym plans.accepts_are) (items_no_act me bodies start (accepts_no_act me front)))
    (subst (AllByRecursion NoAct) (sym plans.outs_are) (items_no_act me gives before (gives_no_act setup logs me from message.wants before))) in
    record {
      items_are = is;
      mine = each_append Mine accepts outs (subst (AllByRecursion Mine) (sym plans.accepts_are) (items_origin me bodies start)) (subst (AllByRecursion Mine) (sym plans.outs_are) (items_origin me gives before));
      few = omega (arith, length-append accepts outs, plans.few_accepts, plans.few_outs);
      few_learned = (part_of setup message r front plans.admits).few;
      from = from;
      can = others;
      fits = subst (AllByRecursion (λ (i : LogItem). BodyFits setup i.body)) (sym is) (each_append (λ (i : LogItem). BodyFits setup i.body) front (accepts ++ outs) fit (next_fit setup logs me [] start (accepts ++ outs) (all [])));
      acts = none_lone setup r items front (accepts ++ outs) is others.others none;
      next = λ ready learned is_one h.
          let log : own_log learned ≡ own_log r = ap (log_at (known_to learned)) is_one.me_is ∙ ap (λ (l : Logs). log_at l me) (learned_logs setup r learned from front own others h) ∙ own_stays setup r from front others in
          let known_is : known_to learned ≡ logs = learned_logs setup r learned from front own others h in
          let cut : cut_in learned.store ≡ cut_after (cut_in r.store) front = learned_cut setup message r learned front me plans.admits is_one known_is in
          let there : AreNext setup logs me learned.needs (standing_of 0 [] [] learned) (accepts ++ outs) = next_like setup logs me learned.needs start (standing_of 0 [] [] learned) (accepts ++ outs) (sym log) (sym cut) (all learned.needs) in
          let entered : AreEntered setup logs r.needs r.table (accepts ++ outs) = plans_entered setup message r taken front accepts outs plans (subst (IsReadyFor setup r) is ready) in
          let needs : learned.needs ≡ r.needs = ap (λ (x : Replica). x.needs) h.kept in
          let table : learned.table ≡ r.table = ap (λ (x : Replica). x.table) h.kept in (
            subst (λ i. AreNext setup (known_to learned) i learned.needs (standing_of 0 [] [] learned) (accepts ++ outs)) (sym is_one.me_is) (subst (λ (l : Logs). AreNext setup l me learned.needs (standing_of 0 [] [] learned) (accepts ++ outs)) (sym known_is) there),
            subst (λ (l : Logs). AreEntered setup l learned.needs learned.table (accepts ++ outs)) (sym known_is) (subst (λ (n : List Need). AreEntered setup logs n learned.table (accepts ++ outs)) (sym needs) (subst (λ (t : Table). AreEntered setup logs r.needs t (accepts ++ outs)) (sym table) entered)),
          );
    }

-- nor does an empty batch ask for anything
nothing_replays : (setup : Setup) (r : Replica) (items : List LogItem) → IsReplica setup r.me r → items ≡ [] → Replays setup r items [] []
nothing_replays setup r items own none = record {
  items_are = none;
  mine = tt;
  few = omega arith;
  few_learned = omega arith;
  from = r.me;
  can = no_others setup r own;
  fits = subst (AllByRecursion (λ (i : LogItem). BodyFits setup i.body)) (sym none) tt;
  acts = none_lone setup r items [] [] none tt tt;
  next = λ ready learned is h. (tt, tt);
}

-- a batch that it decided on can be done
pub decided_replays : (setup : Setup) (r : Replica) (batch : Batch) → IsReplica setup r.me r → IsDecided setup (view_of r) batch → (front : List LogItem) × (own : List LogItem) × Replays setup r batch.items front own
decided_replays setup r batch own (inl act) = ([], batch.items, act_replays setup r act.0 batch own act.1 act.2)
decided_replays setup r batch own (inr (message, taken, takes, is)) = elim (heeded_or_nothing setup r message taken takes) [
  | inl (heeded, whole, decided) ↦
      let items : List LogItem = taken.batch.items in
      let front : List LogItem = take taken.applied items in
      let behind : List LogItem = drop taken.applied items in
      let accepts : List LogItem = take taken.accepted behind in
      let outs : List LogItem = drop taken.accepted behind in
      let all : items ≡ front ++ (accepts ++ outs) = joined_back taken.applied items front behind refl refl ∙ ap (λ (l : List LogItem). front ++ l) (joined_back taken.accepted behind accepts outs refl refl) in
      (front, accepts ++ outs, subst (λ (b : Batch). Replays setup r b.items front (accepts ++ outs)) is (take_replays setup heeded r taken front accepts outs items (taken_plans setup heeded r taken own whole decided) all))
  | inr none ↦ ([], [], nothing_replays setup r batch.items own (ap (λ (b : Batch). b.items) (sym is) ∙ none))
]

-- ---- room for it

-- its items are of replicas, and fit
pub decided_origins : (setup : Setup) (r : Replica) (batch : Batch) → IsReplica setup r.me r → IsDecided setup (view_of r) batch → AllByRecursion (λ item. item.origin < setup.replicas) batch.items
decided_origins setup r batch own decided =
    let halves = decided_replays setup r batch own decided in
    let Here : LogItem → Type 0 = λ i. i.origin < setup.replicas in
    subst (AllByRecursion Here) (sym halves.2.items_are)
    (each_append Here halves.0 halves.1 (each_weaker (ItemFits setup) Here (λ i h. h.placed.origin) halves.0 halves.2.can.fits) (each_weaker (λ (i : LogItem). i.origin ≡ r.me) Here (λ i same. let place = own.view.within in omega (arith, same, place)) halves.1 halves.2.mine))

pub decided_fits : (setup : Setup) (r : Replica) (batch : Batch) → IsReplica setup r.me r → IsDecided setup (view_of r) batch → AllByRecursion (λ item. BodyFits setup item.body) batch.items
decided_fits setup r batch own decided = (decided_replays setup r batch own decided).2.fits

-- the needs of its act are those that were found
pub decided_needs : (setup : Setup) (r new : Replica) (batch : Batch) → IsReplica setup r.me r → IsDecided setup (view_of r) batch → view_of new ≡ view_of r → ((inst : Inst) → act_among r.me batch.items ≡ Some inst → new.needs ≡ needs setup (truths_here setup (view_of r)) inst)
    → (item : LogItem) (inst : Inst) → Contains batch.items item → item.origin ≡ new.me → item.body ≡ body.Act inst → new.needs ≡ needs setup (truths_in setup.spec (known_to new) item.deps) inst
decided_needs setup r new batch own decided same found item inst there mine act =
    let lone = (decided_replays setup r batch own decided).2.acts item inst there (mine ∙ ap (λ (v : View). v.me) same) act in
    found inst lone.alone ∙ ap (λ (k : List ℕ). needs setup (truths_in setup.spec (known_to r) k) inst) (sym lone.past) ∙ ap (λ (l : Logs). needs setup (truths_in setup.spec l item.deps) inst) (sym (ap (λ (v : View). v.known) same))

-- so room was made for it
pub ready_for : (setup : Setup) (old : Replica) (batch : Batch) (s : Store) (t : Table) (n these : List Need) (items : List LogItem) → IsReplica setup old.me old → IsDecided setup (view_of old) batch → view_of (record old { store = s; table = t; needs = n }) ≡ view_of old → items ≡ batch.items → HasRoomFor s items
    → AllByRecursion (NeedFits setup) n → ((inst : Inst) → act_among old.me items ≡ Some inst → n ≡ needs setup (truths_here setup (view_of old)) inst) → these ≡ n → HasEntriesFor setup items these t → IsReadyFor setup (record old { store = s; table = t; needs = n }) batch.items
ready_for setup old batch s t n these items own decided same is room fit found these_are entries = record {
  room = subst (HasRoomFor s) is room;
  entries = subst (λ (l : List LogItem). HasEntriesFor setup l n t) is (subst (λ (l : List Need). HasEntriesFor setup items l t) these_are entries);
  fits = fit;
  needs = decided_needs setup old (record old { store = s; table = t; needs = n }) batch own decided same (λ inst alone. found inst (ap (act_among old.me) is ∙ alone));
}

-- ---- where the own items begin

pub split_count : (me : ℕ) (front own items : List LogItem) (n : ℕ) → items ≡ front ++ own → AllByRecursion (λ i. i.origin ≢ me) front → AllByRecursion (λ i. i.origin ≡ me) own
    → All (λ i. i.origin ≢ me) (take n items) → ((x : LogItem) → slice_get items n ≡ Some x → x.origin ≡ me) → n ≤ length items → n ≡ length front
split_count me front own items n is others mine before here within =
    counted front own n others mine (subst (λ (l : List LogItem). All (λ (i : LogItem). i.origin ≢ me) (take n l)) is before) (λ x there. here x (ap (λ (l : List LogItem). slice_get l n) is ∙ there)) (omega (arith, within, ap length is))
  where
    counted : (front own : List LogItem) (n : ℕ) → AllByRecursion (λ i. i.origin ≢ me) front → AllByRecursion (λ i. i.origin ≡ me) own → All (λ i. i.origin ≢ me) (take n (front ++ own)) → ((x : LogItem) → slice_get (front ++ own) n ≡ Some x → x.origin ≡ me)
        → n ≤ length (front ++ own) → n ≡ length front
    counted [] own zero others mine before here within = refl
    counted [] [] (suc n) others mine before here within = absurd (omega (arith, within))
    counted [] (y ∷ own) (suc n) others mine before here within = absurd (before 0 y (omega arith) mine.0)
    counted (x ∷ front) own zero others mine before here within = absurd (others.0 (here x refl))
    counted (x ∷ front) own (suc n) others mine before here within =
        let rest = counted front own n others.1 mine (λ k d lt. before (suc k) d (omega (arith, lt))) here (omega (arith, within)) in
        omega (arith, rest)

-- it is short
pub decided_short : (setup : Setup) (r : Replica) (batch : Batch) → IsReplica setup r.me r → IsDecided setup (view_of r) batch → length batch.items ≤ 40
decided_short setup r batch own decided =
    let halves = decided_replays setup r batch own decided in
    omega (arith, ap length halves.2.items_are, length-append halves.0 halves.1, halves.2.few, halves.2.few_learned)

-- ---- how long logs are

-- no log has grown by more than all items
pub with_all_long : (items : List LogItem) (logs : Logs) (j : ℕ) → length (log_at (with_all items logs) j) ≤ length (log_at logs j) + length items
with_all_long [] logs j = omega arith
with_all_long (x ∷ items) logs j =
    let next : List LogItem = log_at logs x.origin ++ x ∷ [] in
    let rest = with_all_long items (slice_set logs x.origin next) j in
    let one = set_long logs x.origin next (length (log_at logs x.origin) + 1) j (omega (arith, length-append (log_at logs x.origin) (x ∷ []))) refl in
    omega (arith, rest, one)
  where
    set_long : (logs : Logs) (o : ℕ) (log : List LogItem) (n j : ℕ) → length log ≤ n → n ≡ length (log_at logs o) + 1 → length (log_at (slice_set logs o log) j) ≤ length (log_at logs j) + 1
    set_long [] o log n j long is = omega arith
    set_long (l ∷ logs) zero log n zero long is = omega (arith, long, is)
    set_long (l ∷ logs) zero log n (suc j) long is = omega arith
    set_long (l ∷ logs) (suc o) log n zero long is = omega arith
    set_long (l ∷ logs) (suc o) log n (suc j) long is = set_long logs o log n j long is

pub none_long : (n j : ℕ) → length (log_at (replicate n []) j) ≤ 0
none_long zero j = omega arith
none_long (suc n) zero = omega arith
none_long (suc n) (suc j) = none_long n j

pub logs_short : (n : ℕ) (logs : Logs) → ((j : ℕ) → length (log_at logs j) ≤ n) → AllByRecursion (λ log. length log ≤ n) logs
logs_short n [] h = tt
logs_short n (log ∷ logs) h = (h 0, logs_short n logs (λ j. h (suc j)))

-- ---- what a replica is once it has replayed a batch

-- its own log is as it was once it has applied the items of others
pub replayed_log : (setup : Setup) (items front own : List LogItem) (old learned : Replica) → IsReplica setup old.me old → Replays setup old items front own → IsReplica setup old.me learned → HasLearned setup.spec front old learned → own_log learned ≡ own_log old
replayed_log setup items front own old learned is h there learns =
    ap (log_at (known_to learned)) there.me_is ∙ ap (λ (l : Logs). log_at l old.me) (learned_logs setup old learned h.from front is h.can learns) ∙ own_stays setup old h.from front h.can

pub has_replayed : (setup : Setup) (items front own : List LogItem) (old learned new : Replica) → IsReplica setup old.me old → Replays setup old items front own → IsReadyFor setup old items → IsReplica setup old.me learned → HasLearned setup.spec front old learned → HasLoggedAll setup (map (λ (i : LogItem). i.body) own) learned new → HasReplayed setup items old new
has_replayed setup items front own old learned new is h ready there learns logged =
    let next = (h.next ready learned there learns).0 in
    let bodies : List Body = map (λ (i : LogItem). i.body) own in
    let p : Standing = standing_of 0 [] [] learned in
    let mine : learned.me ≡ old.me = there.me_is in
    let known = logged_known setup learned.needs own learned new (subst (λ i. IsReplica setup i learned) (sym mine) there) next logged in
    let longer = longer_by setup bodies learned new logged in
    let keeps = logged_keeps learned.me bodies p in
    let log : own_log learned ≡ own_log old = replayed_log setup items front own old learned is h there learns in
    record {
      own = subst (λ i. IsReplica setup i new) mine logged.own;
      knows = known ∙ ap (with_all own) (learned_known setup old learned h.from front is h.can learns) ∙ sym (with_all_append front own (known_to old)) ∙ ap (λ (l : List LogItem). with_all l (known_to old)) (sym h.items_are);
      wants = ap (λ (q : Standing). q.wants) (logged.stands 0 [] []) ∙ keeps.0 ∙ ap (λ (r : Replica). r.wants) learns.kept;
      told = ap (λ (q : Standing). q.told) (logged.stands 0 [] []) ∙ keeps.1 ∙ ap (λ (r : Replica). r.told) learns.kept;
      grown = omega (arith, longer, length-map own (λ (i : LogItem). i.body), ap length log, h.few);
    }

-- the batch, cut in code where the first own item stands
pub replays_here : (setup : Setup) (r : Replica) (batch : Batch) (items front own : List LogItem) (n : ℕ) → IsReplica setup r.me r → IsDecided setup (view_of r) batch → items ≡ batch.items → front ≡ take n items → own ≡ drop n items
    → All (λ i. i.origin ≢ r.me) (take n items) → ((x : LogItem) → slice_get items n ≡ Some x → x.origin ≡ r.me) → n ≤ length items → Replays setup r batch.items front own
replays_here setup r batch items front own n is decided same front_is own_is before here within =
    let halves = decided_replays setup r batch is decided in
    let f : List LogItem = halves.0 in
    let o : List LogItem = halves.1 in
    let h : Replays setup r batch.items f o = halves.2 in
    let all : items ≡ f ++ o = same ∙ h.items_are in
    let count : n ≡ length f = split_count r.me f o items n all h.can.others h.mine before here within in
    let front_same : f ≡ front = sym (front_is ∙ ap (take n) all ∙ front_of f o n count) in
    let own_same : o ≡ own = sym (own_is ∙ ap (drop n) all ∙ back_of f o n count) in
    subst (λ (l : List LogItem). Replays setup r batch.items front l) own_same (subst (λ (l : List LogItem). Replays setup r batch.items l o) front_same h)

-- with room made it decides the same
pub decided_stays : (setup : Setup) (old new : Replica) (batch : Batch) → StaysSame setup old new → IsDecided setup (view_of old) batch → IsDecided setup (view_of new) batch
decided_stays setup old new batch same decided = subst (λ (v : View). IsDecided setup v batch) (sym same.view) decided

pub replayed_stays : (setup : Setup) (items : List LogItem) (old mid new : Replica) → StaysSame setup old mid → HasReplayed setup items mid new → HasReplayed setup items old new
replayed_stays setup items old mid new same h =
    let me : mid.me ≡ old.me = ap (λ (v : View). v.me) same.view in
    let knows : known_to mid ≡ known_to old = ap (λ (v : View). v.known) same.view in
    record {
      own = subst (λ i. IsReplica setup i new) me h.own;
      knows = h.knows ∙ ap (with_all items) knows;
      wants = h.wants ∙ same.wants;
      told = h.told ∙ same.told;
      grown = omega (arith, h.grown, ap length (ap (log_at (known_to mid)) me ∙ ap (λ (l : Logs). log_at l old.me) knows));
    }

-- one batch more
pub all_more : (batches : List Batch) (k : ℕ) (x : Batch) (logs : Logs) → k < length batches → x ≡ get_or batches k x → with_all x.items (with_all (flat_map (λ b. b.items) (take k batches)) logs) ≡ with_all (flat_map (λ b. b.items) (take (k + 1) batches)) logs
all_more batches k x logs lt is =
    let f : Batch → List LogItem = λ b. b.items in
    sym (with_all_append (flat_map f (take k batches)) x.items logs)
    ∙ ap (λ (l : List LogItem). with_all l logs) (sym (ap (flat_map f) (take_more batches k x lt is) ∙ flat_map-append f (take k batches) (x ∷ []) ∙ ap (λ (l : List LogItem). flat_map f (take k batches) ++ l) (flat_map-cons f x [] ∙ append-nil x.items)))

-- a replica sees all that it knows
pub view_is : (setup : Setup) (me : ℕ) (r : Replica) → IsReplica setup me r → view_of r ≡ seeing me (known_to r)
view_is setup me r own =
    ap (λ i. let v : View = record { me = i; known = known_to r; cut = cut_in r.store } in v) own.me_is ∙ ap (λ (k : List ℕ). let v : View = record { me = me; known = known_to r; cut = k } in v) own.store.counts

-- so it decides on the next of the batches that it has yet to replay
pub decided_next : (setup : Setup) (me : ℕ) (r : Replica) (batches : List Batch) (k : ℕ) (x : Batch) → IsReplica setup me r → k < length batches → x ≡ get_or batches k x → AreDecided setup me (known_to r) (drop k batches)
    → IsDecided setup (view_of r) x × AreDecided setup me (with_all x.items (known_to r)) (drop (k + 1) batches)
decided_next setup me r batches k x own lt is rest =
    let all = subst (AreDecided setup me (known_to r)) (drop_at_item batches k x lt is) rest in
    (subst (λ (v : View). IsDecided setup v x) (sym (view_is setup me r own)) all.0, all.1)

-- ---- one batch more is committed

decided_push : (setup : Setup) (me : ℕ) (logs : Logs) (batches : List Batch) (batch : Batch) → AreDecided setup me logs batches → IsDecided setup (seeing me (with_all (flat_map (λ b. b.items) batches) logs)) batch → AreDecided setup me logs (batches ++ batch ∷ [])
decided_push setup me logs [] batch decided last = (last, tt)
decided_push setup me logs (x ∷ batches) batch decided last =
    let items : Batch → List LogItem = λ b. b.items in
    let same : with_all (flat_map items (x ∷ batches)) logs ≡ with_all (flat_map items batches) (with_all x.items logs) = ap (λ (l : List LogItem). with_all l logs) (flat_map-cons items x batches) ∙ with_all_append x.items (flat_map items batches) logs in
    (decided.0, decided_push setup me (with_all x.items logs) batches batch decided.1 (subst (λ (l : Logs). IsDecided setup (seeing me l) batch) same last))

pub commits_more : CommitsMore
commits_more setup batches batch old new h decided own knows =
    let items : Batch → List LogItem = λ b. b.items in
    let n : ℕ = setup.replicas in
    let all : flat_map items (batches ++ batch ∷ []) ≡ flat_map items batches ++ batch.items =
    flat_map-append items batches (batch ∷ []) ∙ ap (λ (l : List LogItem). flat_map items batches ++ l) (flat_map-cons items batch [] ∙ append-nil batch.items) in
    let here : IsDecided setup (seeing old.me (logs_after n batches)) batch = subst (λ (v : View). IsDecided setup v batch) (view_is setup old.me old h.own ∙ ap (seeing old.me) h.knows) decided in
    record {
      own = subst (λ i. IsReplica setup i new) (sym own.me_is) own;
      decided = subst (λ i. AreCommitted setup i (batches ++ batch ∷ [])) (sym own.me_is) (decided_push setup old.me (no_logs n) batches batch h.decided here);
      knows = knows ∙ ap (with_all batch.items) h.knows ∙ sym (with_all_append (flat_map items batches) batch.items (no_logs n)) ∙ ap (λ (l : List LogItem). with_all l (no_logs n)) (sym all);
    }

-- what follows where a call succeeded
pub on_ok_then : {T E P Q : Type 0} (r : Result T E) → OnOk r P → (P → Q) → OnOk r Q
on_ok_then (Ok x) h f = f h
on_ok_then (Err e) h f = tt
