-- A batch that is pending: items of another log that are next, and items by which the own log grows.
use Rattle.std.proofs.Common.{◌≡◌, ◌≢◌, inl, inr, ℕ, suc, ◌+◌, ◌≤◌, not, cond, List, [], ◌∷◌, ◌++◌, length, drop, refl, sym, ap, subst, ◌∙◌, arith, length-append, eq-eqb, ne_eqb}
use Rattle.std.specs.Prelude.{slice_index, Some, None, ◌==◌}
use Rattle.std.proofs.lemmas.List.{append-nil, drop_at}
use Rattle.std.proofs.lemmas.List.Elements.{filter-append}
use Rattle.std.proofs.lemmas.Bool.{cases_eq}
use Rattle.spec_model.specs.declared.log.LogItem.{LogItem}
use Rattle.run_model.specs.declared.batch.Batch.{Batch}
use Rattle.run_model.specs.Logs.{Logs, log_at, with_item, cut_after}
use Rattle.run_model.specs.Worlds.{Standing, Running, Up, Down, own_of, others_of, batch_of}
use Rattle.run_model.proofs.WorldLogs.{Extends}
use Rattle.run_model.proofs.Own.{own_behind, cut_after_own}
use Rattle.run_model.specs.Fitting.{AreInRow}
use Rattle.run_model.proofs.Growth.{IsStanding, HasGrown, standing_later}
use Rattle.run_model.proofs.Taken.{IsTaken, taken_later, taken_grown}

-- a batch of the next items of another log and of items by which the own log grows
pub record CanGrow (logs : Logs) (me : ℕ) (log : List LogItem) (cut : List ℕ) (batch : List LogItem) : Type 0 where
  pub items : List LogItem
  pub taken : IsTaken logs me cut items
  pub draft : Standing
  pub grown : HasGrown me log (cut_after cut items) draft
  pub is : batch ≡ items ++ drop (length log) draft.log

-- what may be pending of a replica with this log and cut is such a batch
abbrev pub IsPending : Logs → ℕ → List LogItem → List ℕ → Running → Type 0
IsPending logs me log cut Up = Unit {0}
IsPending logs me log cut (Down None) = Unit {0}
IsPending logs me log cut (Down (Some batch)) = CanGrow logs me log cut batch.items

-- the batch of these items has just them
pub batch_items : (items : List LogItem) (batch : Batch) → batch_of items ≡ batch ∷ [] → batch.items ≡ items
batch_items [] batch h = absurd cc
batch_items (item ∷ items) batch h =
    let whole : Batch = record { items = item ∷ items } in
    let same : whole ≡ batch = cc in
    sym (ap (λ (b : Batch). b.items) same)

-- items of the own log in a row, among a batch
pub row_own : (me at : ℕ) (xs : List LogItem) → AreInRow me at xs → (own_of me xs ≡ xs) × (others_of me xs ≡ [])
row_own me at [] row = (refl, refl)
row_own me at (x ∷ xs) row =
    let mine = eq-eqb x.origin me row.0 in
    let rest = row_own me (at + 1) xs row.3 in (
      ap (λ b. cond b (x ∷ own_of me xs) (own_of me xs)) mine ∙ ap (λ (l : List LogItem). x ∷ l) rest.0,
      ap (λ b. cond (not b) (x ∷ others_of me xs) (others_of me xs)) mine ∙ rest.1,
    )

-- and of another log
pub row_others : (me from at : ℕ) (xs : List LogItem) → me ≢ from → AreInRow from at xs → (own_of me xs ≡ []) × (others_of me xs ≡ xs)
row_others me from at [] ne row = (refl, refl)
row_others me from at (x ∷ xs) ne row =
    let theirs = ne_eqb x.origin me (λ same. ne (sym same ∙ row.0)) in
    let rest = row_others me from (at + 1) xs ne row.3 in (
      ap (λ b. cond b (x ∷ own_of me xs) (own_of me xs)) theirs ∙ rest.0,
      ap (λ b. cond (not b) (x ∷ others_of me xs) (others_of me xs)) theirs ∙ ap (λ (l : List LogItem). x ∷ l) rest.1,
    )

pub taken_others : (logs : Logs) (me : ℕ) (cut : List ℕ) (items : List LogItem) → IsTaken logs me cut items → (own_of me items ≡ []) × (others_of me items ≡ items)
taken_others logs me cut items (inl none) = subst (λ (l : List LogItem). (own_of me l ≡ []) × (others_of me l ≡ l)) (sym none) (refl, refl)
taken_others logs me cut items (inr next) = row_others me next.0 (slice_index cut next.0) items next.1.other next.1.own

-- items one after the other
pub cut_twice : (cut : List ℕ) (xs ys : List LogItem) → cut_after cut (xs ++ ys) ≡ cut_after (cut_after cut xs) ys
cut_twice cut [] ys = refl
cut_twice cut (x ∷ xs) ys = cut_twice (with_item cut x) xs ys

-- cuts that count alike are one
pub same_cuts : (a b : List ℕ) → length a ≡ length b → ((j : ℕ) → slice_index a j ≡ slice_index b j) → a ≡ b
same_cuts [] [] long same = refl
same_cuts [] (y ∷ b) long same = absurd (omega (arith, long))
same_cuts (x ∷ a) [] long same = absurd (omega (arith, long))
same_cuts (x ∷ a) (y ∷ b) long same = ap (λ n. n ∷ a) (same 0) ∙ ap (λ (l : List ℕ). y ∷ l) (same_cuts a b (omega (arith, long)) (λ j. same (suc j)))

-- log and cut with the batch are those that were drafted, and its items of others those that were admitted
pub record IsDrafted (me : ℕ) (log : List LogItem) (cut : List ℕ) (batch items : List LogItem) (draft : Standing) : Type 0 where
  pub others : others_of me batch ≡ items
  pub log_is : log ++ own_of me batch ≡ draft.log
  pub cut_is : cut_after cut batch ≡ draft.cut

pub can_grow : (logs : Logs) (me : ℕ) (log : List LogItem) (cut : List ℕ) (batch : List LogItem) → IsStanding me log cut → ((j : ℕ) → slice_index cut j ≤ length (log_at logs j))
    → (h : CanGrow logs me log cut batch) → IsDrafted me log cut batch h.items h.draft
can_grow logs me log cut batch stands within h =
    let items : List LogItem = h.items in
    let more : List LogItem = h.grown.more in
    let now : List ℕ = cut_after cut items in
    let later = (taken_later logs me cut items h.taken within).0 in
    let mine = standing_later me log cut items stands later in
    let row : AreInRow me (length log) more = own_behind me 0 log more (length log) (omega arith) (subst (λ (l : List LogItem). AreInRow me 0 l) h.grown.is h.grown.stands.own) in
    let is : batch ≡ items ++ more = h.is ∙ ap (λ (l : List LogItem). items ++ drop (length log) l) h.grown.is ∙ ap (λ (l : List LogItem). items ++ l) (drop_at log more (length log) refl) in
    let theirs = taken_others logs me cut items h.taken in
    let own = row_own me (length log) more row in
    let counts = cut_after_own me now more (length log) row mine.place mine.whole in
    let grows : length h.draft.log ≡ length log + length more = ap length h.grown.is ∙ length-append log more in
    record {
      others = ap (others_of me) is ∙ filter-append (λ (i : LogItem). not (i.origin == me)) items more ∙ ap (λ (l : List LogItem). l ++ others_of me more) theirs.1 ∙ ap (λ (l : List LogItem). items ++ l) own.1 ∙ append-nil items;
      log_is = ap (λ (l : List LogItem). log ++ own_of me l) is ∙ ap (λ (l : List LogItem). log ++ l) (filter-append (λ (i : LogItem). i.origin == me) items more) ∙ ap (λ (l : List LogItem). log ++ (l ++ own_of me more)) theirs.0
          ∙ ap (λ (l : List LogItem). log ++ l) own.0 ∙ sym h.grown.is;
      cut_is = ap (cut_after cut) is ∙ cut_twice cut items more ∙ same_cuts (cut_after now more) h.draft.cut (counts.long ∙ sym h.grown.wide) (λ j. elim (cases_eq j me) [
        | inl same ↦ subst (λ k. slice_index (cut_after now more) k ≡ slice_index h.draft.cut k) (sym same) (omega (arith, counts.there, mine.whole, h.grown.stands.whole, grows))
        | inr other ↦ counts.others j other ∙ sym (h.grown.others j other)
      ]);
    }

-- what is pending can still be kept
pub pending_later : (a b : Logs) (me : ℕ) (log : List LogItem) (cut : List ℕ) (running : Running) → Extends a b → IsPending a me log cut running → IsPending b me log cut running
pending_later a b me log cut Up h waits = tt
pending_later a b me log cut (Down None) h waits = tt
pending_later a b me log cut (Down (Some batch)) h waits = record { items = waits.items; taken = taken_grown a b me cut waits.items h waits.taken; draft = waits.draft; grown = waits.grown; is = waits.is }
