-- What a replica grows by once it decides on a batch.
use Rattle.std.proofs.Common.{◌≡◌, ◌≢◌, ◌⊎◌, inl, inr, ℕ, suc, ◌+◌, ◌-◌, ◌*◌, ◌<◌, ◌≤◌, List, [], ◌∷◌, ◌++◌, length, map, drop, refl, sym, ap, subst, ◌∙◌, arith, cond, length-append, length-set, eq-eqb}
use Rattle.std.specs.Prelude.{nat_lt, slice_index, slice_index_or, slice_set, not, ◌==◌}
use Rattle.std.specs.List.{flat_map}
use Rattle.std.proofs.lemmas.List.{append-nil, append_assoc, append_cancel_left, get_or-set_other, get_or-set_same, length-map, length_push, map-set}
use Rattle.std.proofs.lemmas.List.Concat.{flat_map-cons}
use Rattle.std.proofs.lemmas.List.Elements.{filter-append}
use Rattle.spec_model.specs.declared.plan.Setup.{Setup}
use Rattle.spec_model.specs.declared.log.Body.{Body}
use Rattle.spec_model.specs.declared.log.Body.TheVariants as body
use Rattle.spec_model.specs.declared.log.LogItem.{LogItem}
use Rattle.run_model.specs.declared.batch.Batch.{Batch}
use Rattle.run_model.specs.declared.message.Message.{Message}
use Rattle.run_model.specs.Fitting.{AreInRow, MessageFits}
use Rattle.run_model.specs.Logs.{Logs, cut_after, log_at, with_all, with_item}
use Rattle.run_model.specs.Steps.{AreAdmitted, accepts_of}
use Rattle.run_model.specs.Worlds.{Standing, joined, logged, others_of, own_of}
use Rattle.run_model.proofs.Batched.{cut_twice, row_others, same_cuts}
use Rattle.run_model.proofs.Own.{own_drop, own_front, unseen_own}
use Rattle.message_laws.specs.Heeded.{with_items}
use Rattle.message_laws.specs.Views.{IsView, View, item_of, own_items, seeing, standing_in}
use Rattle.message_laws.proofs.Lists.{filter_short}
use Rattle.message_laws.proofs.Logged.{accepts_few, answered_gives, gives_few, gives_for}
use Rattle.message_drafts.specs.Taking.{IsTaken}
use Rattle.message_drafts.specs.declared.taken.Taken.{Taken}
use Rattle.replica_core.specs.Decisions.{IsDecided}
use Rattle.replica_core.specs.Laws.{DecidedGrow, GrowsBy}
use Rattle.replica_core.specs.Recovered.{AreDecided, no_logs}
use Rattle.replica_core.proofs.Applied.{row_goes_on}
use Rattle.replica_core.proofs.Items.{items_for, items_long, logged_items, with_all_append}
use Rattle.replica_core.proofs.Logged.{count_at}
use Rattle.replica_core.proofs.Replayed.{none_long, with_all_long}
use Rattle.replica_core.proofs.Silent.{taken_or_nothing}

-- ---- places

-- items that stand one after the other in one log, from this place on
abbrev StandAt : ℕ → ℕ → List LogItem → Type 0
StandAt origin at [] = Unit {0}
StandAt origin at (x ∷ items) = (x.origin ≡ origin) × (x.index ≡ at) × StandAt origin (at + 1) items

stand_row : (from at : ℕ) (items : List LogItem) → AreInRow from at items → StandAt from at items
stand_row from at [] row = tt
stand_row from at (x ∷ items) row = (row.0, row.1, stand_row from (at + 1) items row.3)

stand_both : (me at : ℕ) (xs ys : List LogItem) (n : ℕ) → n ≡ at + length xs → StandAt me at xs → StandAt me n ys → StandAt me at (xs ++ ys)
stand_both me at [] ys n is first then' = let same : n ≡ at = omega (arith, is) in subst (λ k. StandAt me k ys) same then'
stand_both me at (x ∷ xs) ys n is first then' = (first.0, first.1, stand_both me (at + 1) xs ys n (omega (arith, is)) first.2 then')

-- so do those that are logged
stand_logged : (me : ℕ) (bodies : List Body) (p : Standing) → StandAt me (length p.log) (items_for me bodies p)
stand_logged me [] p = tt
stand_logged me (b ∷ bodies) p =
    let item : LogItem = record { origin = me; index = length p.log; deps = p.cut; body = b } in
    let next : Standing = logged me b p in
    (refl, refl, subst (λ n. StandAt me n (items_for me bodies next)) (length_push p.log item) (stand_logged me bodies next))

-- ---- the parts of a batch

-- the next items of one other log, if there are any, and then items of its own
record Halves (setup : Setup) (v : View) (items : List LogItem) : Type 0 where
  front : List LogItem
  own : List LogItem
  is : items ≡ front ++ own
  from : ℕ
  other : from ≢ v.me
  place : (front ≡ []) ⊎ (from < setup.replicas)
  row : AreInRow from (slice_index v.cut from) front
  few_front : length front ≤ 16
  here : StandAt v.me (length (own_items v)) own
  few : length own ≤ 24

-- how it stands once it has heard and applied
abbrev pub started : Message → List LogItem → Standing → Standing
started message applied p = record p { told = slice_set p.told message.from (joined (slice_index_or p.told message.from []) message.cut); cut = cut_after p.cut applied }

-- what is admitted of a row goes on where the cut ends
pub applied_row : (message : Message) (cut : List ℕ) (applied : List LogItem) (first : ℕ) → AreInRow message.from first message.items → AreAdmitted cut message.items applied → AreInRow message.from (slice_index cut message.from) applied
applied_row message cut applied first row admitted =
    let from : ℕ = message.from in
    let d : ℕ = slice_index cut from - first in
    let left : drop d message.items ≡ applied ++ admitted.rest = sym (unseen_own from (slice_index cut from) first cut message.items row refl) ∙ admitted.prefix in
    row_goes_on from (first + d) cut message.items applied (own_front from (first + d) applied admitted.rest (subst (AreInRow from (first + d)) left (own_drop from first d message.items (first + d) refl row))) admitted

-- it is at most all of it
applied_few : (cut : List ℕ) (items applied : List LogItem) → AreAdmitted cut items applied → length applied ≤ length items
applied_few cut items applied admitted = omega (arith, filter_short (λ (i : LogItem). not (nat_lt i.index (slice_index cut i.origin))) items, ap length admitted.prefix, length-append applied admitted.rest)

-- what it logs of its own: what it accepts, and then what it gives
pub taken_own : (setup : Setup) (v : View) (message : Message) (taken : Taken) (h : IsTaken setup message v taken)
    → h.own ≡ items_for v.me (accepts_of v.me h.applied) (started message h.applied (standing_in v)) ++ items_for v.me (gives_for setup (with_items message.from h.applied v.known) v.me message.from message.wants h.takes.before_answers) h.takes.before_answers
taken_own setup v message taken h =
    let me : ℕ = v.me in
    let t = h.takes in
    let logs : Logs = with_items message.from h.applied v.known in
    let before : Standing = t.before_answers in
    let bodies : List Body = accepts_of me h.applied in
    let start : Standing = started message h.applied (standing_in v) in
    let accepts : List LogItem = items_for me bodies start in
    let gives : List Body = gives_for setup logs me message.from message.wants before in
    let outs : List LogItem = items_for me gives before in
    let before_log : before.log ≡ own_items v ++ accepts = ap (λ (p : Standing). p.log) t.before_is ∙ logged_items me bodies start in
    let after_log : h.after.log ≡ before.log ++ outs = ap (λ (p : Standing). p.log) (t.becomes ∙ answered_gives setup logs me message.from message.wants before) ∙ logged_items me gives before in
    append_cancel_left (own_items v) h.own (accepts ++ outs) (sym h.longer ∙ after_log ∙ ap (λ (l : List LogItem). l ++ outs) before_log ∙ append_assoc (own_items v) accepts outs)

taken_halves : (setup : Setup) (v : View) (message : Message) (taken : Taken) → MessageFits setup v.me message → IsTaken setup message v taken → Halves setup v taken.batch.items
taken_halves setup v message taken fits h =
    let me : ℕ = v.me in
    let from : ℕ = message.from in
    let t = h.takes in
    let before : Standing = t.before_answers in
    let bodies : List Body = accepts_of me h.applied in
    let logs : Logs = with_items from h.applied v.known in
    let gives : List Body = gives_for setup logs me from message.wants before in
    let start : Standing = started message h.applied (standing_in v) in
    let accepts : List LogItem = items_for me bodies start in
    let outs : List LogItem = items_for me gives before in
    let before_log : before.log ≡ own_items v ++ accepts = ap (λ (p : Standing). p.log) t.before_is ∙ logged_items me bodies start in
    let short = accepts_few me h.applied in
    let given_short = gives_few setup logs me from message.wants before in
    let few_applied = applied_few v.cut message.items h.applied t.admitted in
    record {
      front = h.applied;
      own = accepts ++ outs;
      is = h.batch ∙ ap (λ (l : List LogItem). h.applied ++ l) (taken_own setup v message taken h);
      from = from;
      other = fits.other;
      place = inr fits.sender;
      row = applied_row message v.cut h.applied fits.first fits.row t.admitted;
      few_front = omega (arith, few_applied, fits.few_items);
      here = stand_both me (length (own_items v)) accepts outs (length before.log) (omega (arith, ap length before_log, length-append (own_items v) accepts)) (stand_logged me bodies start) (stand_logged me gives before);
      few = omega (arith, length-append accepts outs, items_long me bodies start, items_long me gives before, short, given_short, fits.few_wants, fits.few_items, few_applied);
    }

-- items of its own alone
own_halves : (setup : Setup) (v : View) (items : List LogItem) → StandAt v.me (length (own_items v)) items → length items ≤ 24 → Halves setup v items
own_halves setup v items here few = record {
  front = [];
  own = items;
  is = refl;
  from = suc v.me;
  other = λ same. omega (arith, same);
  place = inl refl;
  row = tt;
  few_front = omega arith;
  here = here;
  few = few;
}

decided_halves : (setup : Setup) (v : View) (batch : Batch) → IsDecided setup v batch → Halves setup v batch.items
decided_halves setup v batch (inl (inst, fits, decides)) =
    let item : LogItem = item_of v (body.Act inst) in
    subst (Halves setup v) (sym decides.1) (own_halves setup v (item ∷ []) (refl, refl, tt) (omega arith))
decided_halves setup v batch (inr (message, taken, takes, is)) = subst (λ (b : Batch). Halves setup v b.items) is (elim (taken_or_nothing setup v message taken takes) [
  | inl (heeded, fits, may, decided) ↦ taken_halves setup v heeded taken fits decided
  | inr none ↦ subst (Halves setup v) (sym none) (own_halves setup v [] tt (omega arith))
])

-- those of its own, among its own
own_all : (me at : ℕ) (items : List LogItem) → StandAt me at items → (own_of me items ≡ items) × (others_of me items ≡ [])
own_all me at [] stand = (refl, refl)
own_all me at (x ∷ items) stand =
    let mine = eq-eqb x.origin me stand.0 in
    let rest = own_all me (at + 1) items stand.2 in (
      ap (λ b. cond b (x ∷ own_of me items) (own_of me items)) mine ∙ ap (λ (l : List LogItem). x ∷ l) rest.0,
      ap (λ b. cond (not b) (x ∷ others_of me items) (others_of me items)) mine ∙ rest.1,
    )

-- so the parts are those of others and its own
parts_are : (setup : Setup) (v : View) (items : List LogItem) (h : Halves setup v items) → (others_of v.me items ≡ h.front) × (own_of v.me items ≡ h.own)
parts_are setup v items h =
    let me : ℕ = v.me in
    let theirs = row_others me h.from (slice_index v.cut h.from) h.front (λ same. h.other (sym same)) h.row in
    let mine = own_all me (length (own_items v)) h.own h.here in (
      ap (others_of me) h.is ∙ filter-append (λ (i : LogItem). not (i.origin == me)) h.front h.own ∙ ap (λ (l : List LogItem). l ++ others_of me h.own) theirs.1 ∙ ap (λ (l : List LogItem). h.front ++ l) mine.1 ∙ append-nil h.front,
      ap (own_of me) h.is ∙ filter-append (λ (i : LogItem). i.origin == me) h.front h.own ∙ ap (λ (l : List LogItem). l ++ own_of me h.own) theirs.0 ∙ mine.0,
    )

-- ---- the cut

abbrev counts_of : Logs → List ℕ
counts_of logs = map (λ (log : List LogItem). length log) logs

-- what counts all items counts the next one too
counted_one : (x : LogItem) (logs : Logs) → x.index ≡ length (log_at logs x.origin) → with_item (counts_of logs) x ≡ counts_of (with_all (x ∷ []) logs)
counted_one x logs at =
    let log : List LogItem = log_at logs x.origin in
    ap (slice_set (counts_of logs) x.origin) (let more : x.index + 1 ≡ length (log ++ x ∷ []) = omega (arith, at, length_push log x) in more) ∙ sym (map-set (λ (l : List LogItem). length l) logs x.origin (log ++ x ∷ []))

counted_after : (from at : ℕ) (items : List LogItem) (logs : Logs) → StandAt from at items → at ≡ length (log_at logs from) → from < length logs → cut_after (counts_of logs) items ≡ counts_of (with_all items logs)
counted_after from at [] logs stand is lt = refl
counted_after from at (x ∷ items) logs stand is lt =
    let log : List LogItem = log_at logs x.origin in
    let next : Logs = slice_set logs x.origin (log ++ x ∷ []) in
    let same : log ≡ log_at logs from = ap (log_at logs) stand.0 in
    let there : log_at next from ≡ log ++ x ∷ [] = ap (λ o. log_at (slice_set logs o (log ++ x ∷ [])) from) stand.0 ∙ get_or-set_same logs from (log ++ x ∷ []) [] lt in
    ap (λ (c : List ℕ). cut_after c items) (counted_one x logs (omega (arith, stand.1, is, ap length same)))
    ∙ counted_after from (at + 1) items next stand.2 (omega (arith, ap length there, length_push log x, is, ap length same)) (omega (arith, lt, length-set logs x.origin (log ++ x ∷ [])))

-- items of others leave the own log
others_stay : (me from at : ℕ) (items : List LogItem) (logs : Logs) → from ≢ me → AreInRow from at items → log_at (with_all items logs) me ≡ log_at logs me
others_stay me from at [] logs ne row = refl
others_stay me from at (x ∷ items) logs ne row =
    let log : List LogItem = log_at logs x.origin ++ x ∷ [] in
    others_stay me from (at + 1) items (slice_set logs x.origin log) ne row.3 ∙ get_or-set_other logs x.origin me log [] (λ same. ne (sym row.0 ∙ sym same))

all_long : (items : List LogItem) (logs : Logs) → length (with_all items logs) ≡ length logs
all_long [] logs = refl
all_long (x ∷ items) logs = all_long items (slice_set logs x.origin (log_at logs x.origin ++ x ∷ [])) ∙ length-set logs x.origin (log_at logs x.origin ++ x ∷ [])

grows_by : (setup : Setup) (v : View) (items : List LogItem) → IsView setup v → Halves setup v items → GrowsBy v items
grows_by setup v items view h =
    let me : ℕ = v.me in
    let known : Logs = v.known in
    let mid : Logs = with_all h.front known in
    let parts = parts_are setup v items h in
    let count : slice_index v.cut h.from ≡ length (log_at known h.from) = view.counts h.from in
    let row : AreInRow h.from (length (log_at known h.from)) h.front = subst (λ n. AreInRow h.from n h.front) count h.row in
    let now : v.cut ≡ counts_of known = same_cuts v.cut (counts_of known) (view.cut ∙ sym view.whole ∙ sym (length-map known (λ (l : List LogItem). length l))) (λ j. view.counts j ∙ sym (count_at known j)) in
    let first : cut_after (counts_of known) h.front ≡ counts_of mid = elim h.place [
      | inl none ↦ subst (λ (l : List LogItem). cut_after (counts_of known) l ≡ counts_of (with_all l known)) (sym none) refl
      | inr lt ↦ counted_after h.from (length (log_at known h.from)) h.front known (stand_row h.from (length (log_at known h.from)) h.front row) refl (omega (arith, lt, view.whole))
    ] in
    let then' : cut_after (counts_of mid) h.own ≡ counts_of (with_all h.own mid) =
    counted_after me (length (own_items v)) h.own mid h.here (ap length (sym (others_stay me h.from (length (log_at known h.from)) h.front known h.other row))) (omega (arith, view.within, view.whole, all_long h.front known)) in
    record {
      parted = h.is ∙ ap (λ (l : List LogItem). l ++ h.own) (sym parts.0) ∙ ap (λ (l : List LogItem). others_of me items ++ l) (sym parts.1);
      from = h.from;
      other = h.other;
      row = subst (AreInRow h.from (length (log_at known h.from))) (sym parts.0) row;
      few = omega (arith, ap length parts.1, h.few);
      cut = ap (λ (c : List ℕ). cut_after c items) now ∙ ap (cut_after (counts_of known)) h.is ∙ cut_twice (counts_of known) h.front h.own ∙ ap (λ (c : List ℕ). cut_after c h.own) first ∙ then'
          ∙ ap counts_of (sym (with_all_append h.front h.own known)) ∙ ap (λ (l : List LogItem). counts_of (with_all l known)) (sym h.is);
    }

-- ---- how long the own log gets

-- no log grows by more than these items
own_long : (setup : Setup) (v : View) (items : List LogItem) (logs : Logs) → Halves setup v items → length (log_at (with_all items logs) v.me) ≤ length (log_at logs v.me) + 24
own_long setup v items logs h =
    let more = with_all_long h.own (with_all h.front logs) v.me in
    let is : with_all items logs ≡ with_all h.own (with_all h.front logs) = ap (λ (l : List LogItem). with_all l logs) h.is ∙ with_all_append h.front h.own logs in
    let stays = others_stay v.me h.from (slice_index v.cut h.from) h.front logs h.other h.row in
    omega (arith, more, ap (λ (l : Logs). length (log_at l v.me)) is, ap length stays, h.few)

all_short : (setup : Setup) (me : ℕ) (logs : Logs) (batches : List Batch) → AreDecided setup me logs batches → length (log_at (with_all (flat_map (λ b. b.items) batches) logs) me) ≤ length (log_at logs me) + 24 * length batches
all_short setup me logs [] decided = omega arith
all_short setup me logs (batch ∷ batches) decided =
    let items : Batch → List LogItem = λ b. b.items in
    let mid : Logs = with_all batch.items logs in
    let is : with_all (flat_map items (batch ∷ batches)) logs ≡ with_all (flat_map items batches) mid = ap (λ (l : List LogItem). with_all l logs) (flat_map-cons items batch batches) ∙ with_all_append batch.items (flat_map items batches) logs in
    let one = own_long setup (seeing me logs) batch.items logs (decided_halves setup (seeing me logs) batch decided.0) in
    let rest = all_short setup me mid batches decided.1 in
    omega (arith, one, rest, ap (λ (l : Logs). length (log_at l me)) is)

pub decided_grow : DecidedGrow
decided_grow = record {
  grows = λ setup v batch view decided. grows_by setup v batch.items view (decided_halves setup v batch decided);
  own = λ setup me batches committed. let all = all_short setup me (no_logs setup.replicas) batches committed in let none = none_long setup.replicas me in omega (arith, all, none);
}

-- ---- how long all logs get

-- at most 16 items are applied, and 24 logged
pub decided_few : (setup : Setup) (v : View) (batch : Batch) → IsDecided setup v batch → length batch.items ≤ 40
decided_few setup v batch decided = let h = decided_halves setup v batch decided in omega (arith, ap length h.is, length-append h.front h.own, h.few_front, h.few)

pub logs_long : (setup : Setup) (me : ℕ) (logs : Logs) (batches : List Batch) (j : ℕ) → AreDecided setup me logs batches → length (log_at (with_all (flat_map (λ b. b.items) batches) logs) j) ≤ length (log_at logs j) + 40 * length batches
logs_long setup me logs [] j decided = omega arith
logs_long setup me logs (batch ∷ batches) j decided =
    let items : Batch → List LogItem = λ b. b.items in
    let mid : Logs = with_all batch.items logs in
    let is : with_all (flat_map items (batch ∷ batches)) logs ≡ with_all (flat_map items batches) mid = ap (λ (l : List LogItem). with_all l logs) (flat_map-cons items batch batches) ∙ with_all_append batch.items (flat_map items batches) logs in
    let few = decided_few setup (seeing me logs) batch decided.0 in
    let one = with_all_long batch.items logs j in
    let rest = logs_long setup me mid batches j decided.1 in
    omega (arith, few, one, rest, ap (λ (l : Logs). length (log_at l j)) is)
