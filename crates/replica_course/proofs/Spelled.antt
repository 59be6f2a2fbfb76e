-- What is decided on has a spelling.
use Rattle.std.proofs.Common.{◌≡◌, ◌≢◌, inl, inr, ℕ, zero, suc, ◌+◌, ◌<◌, ◌≤◌, ◌^◌, List, [], ◌∷◌, ◌++◌, length, refl, sym, ap, subst, ◌∙◌, arith, length-append, length-set}
use Rattle.std.specs.Prelude.{slice_index, slice_set}
use Rattle.std.specs.List.{AllByRecursion}
use Rattle.std.proofs.lemmas.List.{get_or-set_other, get_or-set_same, length_push}
use Rattle.spec_model.specs.declared.plan.Setup.{Setup}
use Rattle.spec_model.specs.declared.log.Body.{Body}
use Rattle.spec_model.specs.declared.log.Body.TheVariants as body
use Rattle.spec_model.specs.declared.log.LogItem.{LogItem}
use Rattle.run_model.specs.declared.batch.Batch.{Batch}
use Rattle.run_model.specs.declared.message.Message.{Message}
use Rattle.run_model.specs.Fitting.{AreInRow, BodyFits, ItemFits}
use Rattle.run_model.specs.Logs.{Logs, cut_after, log_at, with_item}
use Rattle.run_model.specs.Steps.{AreReady, accepts_of}
use Rattle.run_model.specs.Worlds.{Standing, logged, logged_all}
use Rattle.run_model.proofs.Lists.{each_append}
use Rattle.message_laws.specs.Heeded.{with_items}
use Rattle.message_laws.specs.Views.{IsView, View, own_items, standing_in}
use Rattle.message_laws.proofs.Lists.{each_parts}
use Rattle.message_laws.proofs.Logged.{gives_for}
use Rattle.message_drafts.specs.Taking.{IsTaken}
use Rattle.message_drafts.specs.declared.taken.Taken.{Taken}
use Rattle.op_records.specs.Logged.{IsSmall}
use Rattle.op_records.proofs.Logged.{fit_spelled}
use Rattle.replica_core.specs.Decisions.{IsDecided, IsHeeded}
use Rattle.replica_core.specs.Recovered.{no_logs}
use Rattle.replica_core.specs.Replicas.{IsReplica, view_of}
use Rattle.replica_core.specs.declared.replica.Replica.{Replica}
use Rattle.replica_core.proofs.Applied.{cut_applied, part_of}
use Rattle.replica_core.proofs.Growing.{decided_few, logs_long, started, taken_own}
use Rattle.replica_core.proofs.Items.{items_for, items_long, logged_items}
use Rattle.replica_core.proofs.Replayed.{decided_fits, none_long}
use Rattle.replica_core.proofs.Silent.{heeded_or_nothing}
use Rattle.replica_course.specs.Laws.{DecidedIsSpelled}

-- ---- counts below 2 ^ 32

abbrev Small : List ℕ → Type 0
Small cut = (j : ℕ) → slice_index cut j < 2 ^ 32

small_each : (cut : List ℕ) → Small cut → AllByRecursion (λ n. n < 2 ^ 32) cut
small_each [] small = tt
small_each (n ∷ cut) small = (small 0, small_each cut (λ j. small (suc j)))

small_set : (cut : List ℕ) (i n : ℕ) → n < 2 ^ 32 → Small cut → Small (slice_set cut i n)
small_set [] i n lt small j = small j
small_set (m ∷ cut) zero n lt small zero = lt
small_set (m ∷ cut) zero n lt small (suc j) = small (suc j)
small_set (m ∷ cut) (suc i) n lt small zero = small 0
small_set (m ∷ cut) (suc i) n lt small (suc j) = small_set cut i n lt (λ k. small (suc k)) j

-- ---- what is applied

ready_small : (setup : Setup) (from at : ℕ) (cut : List ℕ) (items : List LogItem) → Small cut → AreReady cut items → AllByRecursion (ItemFits setup) items → AreInRow from at items → AllByRecursion (IsSmall setup) items × Small (cut_after cut items)
ready_small setup from at cut [] small ready fits row = (tt, small)
ready_small setup from at cut (x ∷ items) small ready fits row =
    let index = fits.0.placed.small in
    let rest = ready_small setup from (at + 1) (with_item cut x) items (small_set cut x.origin (x.index + 1) index small) ready.1 fits.1 row.3 in
    let one : IsSmall setup x = record {
      fits = fits.0;
      past = small_each x.deps (λ j. let here = ready.0 j in let bound = small j in omega (arith, here, bound));
      before = ap (slice_index x.deps) row.0 ∙ row.2 ∙ sym row.1;
    } in
    ((one, rest.0), rest.1)

-- ---- what is logged

-- replica me stands so that its cut counts its own log, and is small
record Steady (n me : ℕ) (p : Standing) : Type 0 where
  long : length p.cut ≡ n
  small : Small p.cut
  counts : slice_index p.cut me ≡ length p.log

steady_logged : (n me : ℕ) (b : Body) (p : Standing) → me < n → length p.log + 1 < 2 ^ 32 → Steady n me p → Steady n me (logged me b p)
steady_logged n me b p lt room h =
    let item : LogItem = record { origin = me; index = length p.log; deps = p.cut; body = b } in
    record {
      long = length-set p.cut me (length p.log + 1) ∙ h.long;
      small = small_set p.cut me (length p.log + 1) room h.small;
      counts = get_or-set_same p.cut me (length p.log + 1) 0 (omega (arith, lt, h.long)) ∙ sym (length_push p.log item);
    }

-- the items of bodies that fit
logged_small : (setup : Setup) (me : ℕ) (bodies : List Body) (p : Standing) → me < setup.replicas → length p.log + length bodies < 2 ^ 32 → Steady setup.replicas me p → AllByRecursion (λ i. BodyFits setup i.body) (items_for me bodies p)
    → AllByRecursion (IsSmall setup) (items_for me bodies p) × Steady setup.replicas me (logged_all me bodies p)
logged_small setup me [] p lt room h fits = (tt, h)
logged_small setup me (b ∷ bodies) p lt room h fits =
    let item : LogItem = record { origin = me; index = length p.log; deps = p.cut; body = b } in
    let rest = logged_small setup me bodies (logged me b p) lt (omega (arith, room, length_push p.log item)) (steady_logged setup.replicas me b p lt (omega (arith, room)) h) fits.1 in
    let one : IsSmall setup item = record { fits = record { placed = record { origin = lt; small = omega (arith, room); past = h.long }; body = fits.0 }; past = small_each p.cut h.small; before = h.counts } in
    ((one, rest.0), rest.1)

-- ---- a take

-- it has seen all that it knows, and no log is long
record IsShortly (setup : Setup) (v : View) : Type 0 where
  view : IsView setup v
  short : (j : ℕ) → length (log_at v.known j) ≤ 4194304

short_small : (setup : Setup) (v : View) → IsShortly setup v → Small v.cut
short_small setup v h j = let short = h.short j in let counts = h.view.counts j in omega (arith, short, counts)

steady_view : (setup : Setup) (v : View) → IsShortly setup v → Steady setup.replicas v.me (standing_in v)
steady_view setup v h = record { long = h.view.cut; small = short_small setup v h; counts = h.view.counts v.me }

take_small : (setup : Setup) (r : Replica) (message : Message) (taken : Taken) → IsReplica setup r.me r → IsShortly setup (view_of r) → IsHeeded setup r message → IsTaken setup message (view_of r) taken → AllByRecursion (λ i. BodyFits setup i.body) taken.batch.items → length taken.batch.items ≤ 40
    → AllByRecursion (IsSmall setup) taken.batch.items
take_small setup r message taken own short heeded h fits few =
    let v : View = view_of r in
    let me : ℕ = v.me in
    let n : ℕ = setup.replicas in
    let t = h.takes in
    let Fit : LogItem → Type 0 = λ i. BodyFits setup i.body in
    let applied : List LogItem = h.applied in
    let part = part_of setup message r applied (record { own = own; heeded = heeded; admitted = t.admitted }) in
    let row : AreInRow message.from (slice_index v.cut message.from) applied = part.row in
    let learned = ready_small setup message.from (slice_index v.cut message.from) v.cut applied (short_small setup v short) t.admitted.ready part.fits row in
    let start : Standing = started message applied (standing_in v) in
    let cut : start.cut ≡ slice_set v.cut message.from (slice_index v.cut message.from + length applied) =
    cut_applied message.from (slice_index v.cut message.from) v.cut applied row refl (omega (arith, heeded.fits.sender, short.view.cut)) in
    let steady : Steady n me start = record {
      long = ap length cut ∙ length-set v.cut message.from (slice_index v.cut message.from + length applied) ∙ short.view.cut;
      small = learned.1;
      counts = ap (λ (c : List ℕ). slice_index c me) cut ∙ get_or-set_other v.cut message.from me (slice_index v.cut message.from + length applied) 0 (λ same. heeded.fits.other (sym same)) ∙ short.view.counts me;
    } in
    let bodies : List Body = accepts_of me applied in
    let before : Standing = t.before_answers in
    let gives : List Body = gives_for setup (with_items message.from applied v.known) me message.from message.wants before in
    let accepts : List LogItem = items_for me bodies start in
    let outs : List LogItem = items_for me gives before in
    let items : taken.batch.items ≡ applied ++ (accepts ++ outs) = h.batch ∙ ap (λ (l : List LogItem). applied ++ l) (taken_own setup v message taken h) in
    let own_fits : AllByRecursion Fit (accepts ++ outs) = (each_parts Fit applied (accepts ++ outs) (subst (AllByRecursion Fit) items fits)).1 in
    let long : length accepts + length outs ≤ 40 = omega (arith, few, ap length items, length-append applied (accepts ++ outs), length-append accepts outs) in
    let log : length (own_items v) ≤ 4194304 = short.short me in
    let one = logged_small setup me bodies start short.view.within (omega (arith, log, long, items_long me bodies start)) steady (each_parts Fit accepts outs own_fits).0 in
    let before_log : before.log ≡ own_items v ++ accepts = ap (λ (p : Standing). p.log) t.before_is ∙ logged_items me bodies start in
    let then_steady : Steady n me before = subst (Steady n me) (sym t.before_is) (record { long = one.1.long; small = one.1.small; counts = one.1.counts }) in
    let two = logged_small setup me gives before short.view.within (omega (arith, log, long, items_long me gives before, ap length before_log, length-append (own_items v) accepts)) then_steady (each_parts Fit accepts outs own_fits).1 in
    subst (AllByRecursion (IsSmall setup)) (sym items) (each_append (IsSmall setup) applied (accepts ++ outs) learned.0 (each_append (IsSmall setup) accepts outs one.0 two.0))

-- ---- whatever is decided on

decided_small : (setup : Setup) (r : Replica) (batch : Batch) → IsReplica setup r.me r → IsShortly setup (view_of r) → IsDecided setup (view_of r) batch → AllByRecursion (λ i. BodyFits setup i.body) batch.items → length batch.items ≤ 40 → AllByRecursion (IsSmall setup) batch.items
decided_small setup r batch own short (inl (inst, fit, decides)) fits few =
    let v : View = view_of r in
    let Fit : LogItem → Type 0 = λ i. BodyFits setup i.body in
    let log : length (own_items v) ≤ 4194304 = short.short v.me in
    subst (AllByRecursion (IsSmall setup)) (sym decides.1)
    (logged_small setup v.me (body.Act inst ∷ []) (standing_in v) short.view.within (omega (arith, log)) (steady_view setup v short) (subst (AllByRecursion Fit) decides.1 fits)).0
decided_small setup r batch own short (inr (message, taken, takes, is)) fits few = elim (heeded_or_nothing setup r message taken takes) [
  | inl (heeded, whole, decided) ↦
      let items : taken.batch.items ≡ batch.items = ap (λ (b : Batch). b.items) is in
      let Fit : LogItem → Type 0 = λ i. BodyFits setup i.body in
      subst (AllByRecursion (IsSmall setup)) items (take_small setup r heeded taken own short whole decided (subst (AllByRecursion Fit) (sym items) fits) (omega (arith, few, ap length items)))
  | inr none ↦ subst (AllByRecursion (IsSmall setup)) (sym none ∙ ap (λ (b : Batch). b.items) is) tt
]

some_long : {X : Type 0} (xs : List X) → xs ≢ [] → 1 ≤ length xs
some_long [] some = absurd (some refl)
some_long (x ∷ xs) some = omega arith

pub decided_is_spelled : DecidedIsSpelled
decided_is_spelled setup batches r batch few few_batches h decided some =
    let fits = decided_fits setup r batch h.own decided in
    let long = decided_few setup (view_of r) batch decided in
    let short : IsShortly setup (view_of r) = record {
      view = h.own.view;
      short = λ j.
          let all = logs_long setup r.me (no_logs setup.replicas) batches j h.decided in
          let none = none_long setup.replicas j in
          omega (arith, all, none, few_batches, ap (λ (l : Logs). length (log_at l j)) h.knows);
    } in
    fit_spelled setup batch.items h.own.setup_fits few (some_long batch.items some) long (decided_small setup r batch h.own short decided fits long)
