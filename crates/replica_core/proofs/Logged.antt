-- A replica that logs its next item, or applies the next items of another log.
use Rattle.std.proofs.Common.{◌≡◌, ◌≢◌, ℕ, zero, suc, ◌+◌, ◌<◌, List, [], ◌∷◌, ◌++◌, length, map, refl, sym, ap, subst, ◌∙◌, arith}
use Rattle.std.specs.Prelude.{slice_index, slice_set}
use Rattle.std.specs.List.{AllByRecursion}
use Rattle.std.proofs.lemmas.List.{get_or-set_same, get_or-set_other, length-map, length_push, map-set}
use Rattle.spec_model.specs.declared.plan.Setup.{Setup}
use Rattle.spec_model.specs.declared.spec.Spec.{Spec}
use Rattle.spec_model.specs.declared.log.Body.{Body}
use Rattle.spec_model.specs.declared.log.LogItem.{LogItem}
use Rattle.run_model.specs.Logs.{LiesWithin, Logs, log_at}
use Rattle.run_model.specs.Worlds.{Standing}
use Rattle.run_model.specs.Fitting.{AreInRow, BodyFits, IsPlaced, ItemFits}
use Rattle.run_model.proofs.Lists.{each_append, each_weaker}
use Rattle.run_model.proofs.Own.{own_append}
use Rattle.causal_store.specs.Stores.{IsStore, cut_in, logs_in}
use Rattle.causal_store.specs.declared.store.Store.{Store}
use Rattle.causal_store.proofs.Stored.{each_log, each_set}
use Rattle.rights_table.specs.declared.table.Table.{Table}
use Rattle.rights_table.specs.Whole.{HasAll, TablesLearn}
use Rattle.message_laws.specs.Heeded.{with_items}
use Rattle.message_laws.specs.Views.{IsKnown, IsView, item_of}
use Rattle.replica_core.specs.Next.{AreOthers}
use Rattle.replica_core.specs.Replicas.{CanLearn, HasLearned, HasLogged, HasRoom, IsReplica, known_to, own_log, standing_of, view_of}
use Rattle.replica_core.specs.declared.replica.Replica.{Replica}
use Rattle.replica_core.proofs.Grown.{GrowsTo, IsSeen, all_learned, grows_long, grows_with, known_more, own_seen}
use Rattle.replica_core.proofs.Items.{with_none}

-- ---- what is seen of a store

-- the count of a log in a cut of whole logs
pub count_at : (logs : Logs) (i : ℕ) → slice_index (map (λ (log : List LogItem). length log) logs) i ≡ length (log_at logs i)
count_at [] i = refl
count_at (log ∷ logs) zero = refl
count_at (log ∷ logs) (suc i) = count_at logs i

-- of each log the cut of a store counts the items
pub cut_counts : (spec : Spec) (replicas : ℕ) (s : Store) (i : ℕ) → IsStore spec replicas s → slice_index (cut_in s) i ≡ length (log_at (logs_in s) i)
cut_counts spec replicas s i store = ap (λ (c : List ℕ). slice_index c i) store.counts ∙ count_at (logs_in s) i

pub cut_long : (spec : Spec) (replicas : ℕ) (s : Store) → IsStore spec replicas s → length (cut_in s) ≡ replicas
cut_long spec replicas s store = ap length store.counts ∙ length-map (logs_in s) (λ (l : List LogItem). length l) ∙ store.whole

-- the next item of a replica fits the store
pub item_placed : (spec : Spec) (r : Replica) (b : Body) (item : LogItem) → IsStore spec (length (known_to r)) r.store → r.me < length (known_to r) → item ≡ item_of (view_of r) b → HasRoom 1 r → IsPlaced (length (known_to r)) item
item_placed spec r b item store place is room = subst (IsPlaced (length (known_to r))) (sym is) (record { origin = place; small = omega (arith, room); past = cut_long spec (length (known_to r)) r.store store })

-- a store whose logs have grown, and have this log of replica me, gives a view
pub record GivesView (setup : Setup) (me : ℕ) (a : Logs) (s : Store) (own : List LogItem) : Type 0 where
  pub within : me < setup.replicas
  pub store : IsStore setup.spec setup.replicas s
  pub grown : GrowsTo a (logs_in s)
  pub there : log_at (logs_in s) me ≡ own
  pub fits : AllByRecursion (AllByRecursion (ItemFits setup)) (logs_in s)
  pub row : AreInRow me 0 own
  pub seen : AllByRecursion (IsSeen a me) own

pub gives_view : (setup : Setup) (me : ℕ) (a : Logs) (s : Store) (own : List LogItem) → GivesView setup me a s own → IsView setup (record { me = me; known = logs_in s; cut = cut_in s })
gives_view setup me a s own h =
    let now : Logs = logs_in s in
    record {
      within = h.within;
      whole = h.store.whole;
      cut = cut_long setup.spec setup.replicas s h.store;
      counts = λ j. cut_counts setup.spec setup.replicas s j h.store;
      fits = h.fits;
      own = subst (AreInRow me 0) (sym h.there) h.row;
      accepted = subst (AllByRecursion (λ (i : LogItem). IsKnown now me i.body)) (sym h.there) (each_weaker (IsSeen a me) (λ (i : LogItem). IsKnown now me i.body) (λ i seen. known_more me a now i.body h.grown seen.known) own h.seen);
      pasts = subst (AllByRecursion (λ (i : LogItem). LiesWithin i.deps (cut_in s))) (sym h.there)
          (each_weaker (IsSeen a me) (λ (i : LogItem). LiesWithin i.deps (cut_in s)) (λ i seen j. let past = seen.past j in let more = grows_long a now j h.grown in let count = cut_counts setup.spec setup.replicas s j h.store in omega (arith, past, more, count)) own h.seen);
    }

-- ---- an item of its own

-- a replica that logged an item, and did to its table what that does
pub record LogsOne (setup : Setup) (b : Body) (old : Replica) (s : Store) (t : Table) : Type 0 where
  pub learn : TablesLearn
  pub own : IsReplica setup old.me old
  pub logs : logs_in s ≡ slice_set (known_to old) old.me (own_log old ++ item_of (view_of old) b ∷ [])
  pub store : IsStore setup.spec (length (known_to old)) s
  pub known : IsKnown (known_to old) old.me b
  pub fits : BodyFits setup b
  pub room : HasRoom 1 old
  pub all : HasAll setup (known_to old) old.me (own_log old ++ item_of (view_of old) b ∷ []) t

-- is that replica once it has logged the item
pub logs_one : (setup : Setup) (b : Body) (old : Replica) (s : Store) (t : Table) → LogsOne setup b old s t → HasLogged setup b old (record old { store = s; table = t })
logs_one setup b old s t h =
    let me : ℕ = old.me in
    let known : Logs = known_to old in
    let now : Logs = logs_in s in
    let own : List LogItem = own_log old in
    let item : LogItem = item_of (view_of old) b in
    let whole : length known ≡ setup.replicas = h.own.store.whole in
    let lt : me < length known = omega (arith, whole, h.own.view.within) in
    let there : log_at now me ≡ own ++ item ∷ [] = ap (λ (l : Logs). log_at l me) h.logs ∙ get_or-set_same known me (own ++ item ∷ []) [] lt in
    let grown : GrowsTo known now = subst (GrowsTo known) (sym h.logs) (grows_with me (item ∷ []) known) in
    let seen : AllByRecursion (IsSeen known me) (own ++ item ∷ []) = each_append (IsSeen known me) own (item ∷ []) (own_seen setup (view_of old) h.own.view) (record { past = λ i. let count = h.own.view.counts i in omega (arith, count); known = h.known }, tt) in
    let placed : slice_index item.deps me ≡ length own = h.own.view.counts me in
    let fits : ItemFits setup item = record { placed = record { origin = h.own.view.within; small = omega (arith, h.room); past = h.own.view.cut }; body = h.fits } in
    let store : IsStore setup.spec setup.replicas s = subst (λ n. IsStore setup.spec n s) whole h.store in
    let cut_is : cut_in s ≡ slice_set (cut_in old.store) me (length own + 1) =
    store.counts ∙ ap (map (λ (l : List LogItem). length l)) h.logs ∙ map-set (λ (l : List LogItem). length l) known me (own ++ item ∷ [])
    ∙ ap (slice_set (map (λ (l : List LogItem). length l) known) me) (length_push own item) ∙ ap (λ (c : List ℕ). slice_set c me (length own + 1)) (sym h.own.store.counts) in
    record {
      own = record {
        me_is = refl;
        setup_fits = h.own.setup_fits;
        store = store;
        view = gives_view setup me known s (own ++ item ∷ []) (record {
          within = h.own.view.within;
          store = store;
          grown = grown;
          there = there;
          fits = subst (AllByRecursion (AllByRecursion (ItemFits setup))) (sym h.logs)
              (each_set (AllByRecursion (ItemFits setup)) known me (own ++ item ∷ []) h.own.view.fits (each_append (ItemFits setup) own (item ∷ []) (each_log (ItemFits setup) known me h.own.view.fits) (fits, tt)));
          row = own_append me 0 own (item ∷ []) (length own) (omega arith) h.own.view.own (refl, refl, placed, tt);
          seen = seen;
        });
        all = subst (λ (l : List LogItem). HasAll setup now me l t) (sym there) (all_learned h.learn setup known now me (own ++ item ∷ []) t grown seen h.all);
        wants = h.own.wants;
        few_wants = h.own.few_wants;
        told = h.own.told;
        told_each = h.own.told_each;
      };
      stands = λ stamp sendings kept.
          ap (λ (l : List LogItem). let p : Standing = record (standing_of stamp sendings kept old) { log = l; cut = cut_in s } in p) there
          ∙ ap (λ (c : List ℕ). let p : Standing = record (standing_of stamp sendings kept old) { log = own ++ item ∷ []; cut = c } in p) cut_is;
      knows = h.logs ∙ ap (slice_set known me) (sym there);
    }

-- ---- items of another log

-- the own log stays
pub own_stays : (setup : Setup) (r : Replica) (from : ℕ) (items : List LogItem) → AreOthers setup r from items → log_at (with_items from items (known_to r)) r.me ≡ own_log r
own_stays setup r from items h = of_items items h.others h.row
  where
    of_items : (items : List LogItem) → AllByRecursion (λ i. i.origin ≢ r.me) items → AreInRow from (length (log_at (known_to r) from)) items → log_at (with_items from items (known_to r)) r.me ≡ own_log r
    of_items [] others row = ap (λ (l : Logs). log_at l r.me) (with_none from (known_to r))
    of_items (x ∷ items) others row = get_or-set_other (known_to r) from r.me (log_at (known_to r) from ++ x ∷ items) [] (λ same. others.0 (row.0 ∙ sym same))

pub others_can : (setup : Setup) (r : Replica) (from : ℕ) (items : List LogItem) → IsReplica setup r.me r → AreOthers setup r from items → CanLearn setup.spec r items
others_can setup r from items own h = record {
  from = from;
  store = subst (λ n. IsStore setup.spec n r.store) (sym own.store.whole) own.store;
  place = omega (arith, h.place, own.store.whole);
  row = h.row;
  fits = subst (λ n. AllByRecursion (IsPlaced n) items) (sym own.store.whole) (each_weaker (ItemFits setup) (IsPlaced setup.replicas) (λ i fits. fits.placed) items h.fits);
}

-- the logs that it then knows
pub learned_logs : (setup : Setup) (old new : Replica) (from : ℕ) (items : List LogItem) → IsReplica setup old.me old → AreOthers setup old from items → HasLearned setup.spec items old new → known_to new ≡ with_items from items (known_to old)
learned_logs setup old new from items own h learned = learned.logs from h.row (omega (arith, h.place, own.store.whole))

pub learned_own : TablesLearn → (setup : Setup) (old new : Replica) (from : ℕ) (items : List LogItem) → IsReplica setup old.me old → AreOthers setup old from items → HasLearned setup.spec items old new → IsReplica setup old.me new
learned_own learn setup old new from items own h learned =
    let me : ℕ = old.me in
    let s : Store = new.store in
    let known : Logs = known_to old in
    let logs : logs_in s ≡ with_items from items known = learned_logs setup old new from items own h learned in
    let there : log_at (logs_in s) me ≡ own_log old = ap (λ (l : Logs). log_at l me) logs ∙ own_stays setup old from items h in
    let grown : GrowsTo known (logs_in s) = subst (GrowsTo known) (sym logs) (grows_with from items known) in
    let seen = own_seen setup (view_of old) own.view in
    let store : IsStore setup.spec setup.replicas s = subst (λ n. IsStore setup.spec n s) own.store.whole learned.store in
    subst (IsReplica setup me) (sym learned.kept) (record {
      me_is = refl;
      setup_fits = own.setup_fits;
      store = store;
      view = gives_view setup me known s (own_log old) (record {
        within = own.view.within;
        store = store;
        grown = grown;
        there = there;
        fits = subst (AllByRecursion (AllByRecursion (ItemFits setup))) (sym logs)
            (each_set (AllByRecursion (ItemFits setup)) known from (log_at known from ++ items) own.view.fits (each_append (ItemFits setup) (log_at known from) items (each_log (ItemFits setup) known from own.view.fits) h.fits));
        row = own.view.own;
        seen = seen;
      });
      all = subst (λ (l : List LogItem). HasAll setup (logs_in s) me l old.table) (sym there) (all_learned learn setup known (logs_in s) me (own_log old) old.table grown seen own.all);
      wants = own.wants;
      few_wants = own.few_wants;
      told = own.told;
      told_each = own.told_each;
    })
