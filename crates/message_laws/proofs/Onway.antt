-- What a replica of a run knows once it has applied what is on its way to it.
use Rattle.std.proofs.Common.{◌≡◌, ◌≢◌, inr, ℕ, ◌+◌, ◌<◌, ◌≤◌, List, [], ◌∷◌, ◌++◌, length, refl, sym, ap, subst, ◌∙◌, arith}
use Rattle.std.specs.Prelude.{slice_get, slice_index, Some}
use Rattle.std.specs.List.{AllByRecursion}
use Rattle.std.proofs.lemmas.List.{append-nil}
use Rattle.std.proofs.lemmas.Option.{slice_get_within}
use Rattle.spec_model.specs.declared.log.Body.TheVariants as body
use Rattle.spec_model.specs.declared.log.LogItem.{LogItem}
use Rattle.run_model.specs.Fitting.{AreInRow}
use Rattle.run_model.specs.Locals.{Knows}
use Rattle.run_model.specs.Logs.{LiesWithin, Logs, cut_after, item_at, log_at, with_item}
use Rattle.run_model.specs.Steps.{AreReady, accepts_of, unseen}
use Rattle.run_model.specs.Worlds.{Standing, logged_all}
use Rattle.run_model.proofs.Alike.{AllAlike, IsAlike, logged_all_agree}
use Rattle.run_model.proofs.Answers.{IsPart}
use Rattle.run_model.proofs.Growth.{IsSeen, IsStanding, counts_within, seen_later, within_later}
use Rattle.run_model.proofs.Known.{all_alike, learns_taken, with_row}
use Rattle.run_model.proofs.Lists.{each_weaker, get_drop, get_front, get_take}
use Rattle.run_model.proofs.Own.{admitted_next, cut_after_own, own_at, own_drop, own_front}
use Rattle.run_model.proofs.Taken.{IsNext}
use Rattle.message_laws.specs.Heeded.{with_items}
use Rattle.message_laws.proofs.Lists.{each_place}
use Rattle.message_laws.proofs.Logged.{accepts_each}

-- a front of what is ready is ready
pub front_ready : (cut : List ℕ) (xs ys : List LogItem) → AreReady cut (xs ++ ys) → AreReady cut xs
front_ready cut [] ys h = tt
front_ready cut (x ∷ xs) ys h = (h.0, front_ready (with_item cut x) xs ys h.1)

-- a sender's log, and a replica that has seen a front of it
pub record IsSender (logs : Logs) (me from : ℕ) (cut : List ℕ) : Type 0 where
  pub other : me ≢ from
  pub place : from < length cut
  pub fits : slice_index cut from ≤ length (log_at logs from)
  pub row : AreInRow from 0 (log_at logs from)

-- of a part of that log what wasn't seen, if it is ready, is next
pub next_of : (logs : Logs) (me from : ℕ) (cut : List ℕ) (part : List LogItem) → IsSender logs me from cut → IsPart (log_at logs from) part → AreReady cut (unseen cut part) → IsNext logs me from cut (unseen cut part)
next_of logs me from cut part s is ready =
    let c : ℕ = slice_index cut from in
    let log : List LogItem = log_at logs from in
    let applied : List LogItem = unseen cut part in
    let next = admitted_next from c cut log is.front part is.behind applied [] s.row is.is refl (sym (append-nil applied)) ready in
    let rest = own_drop from 0 c log c (omega arith) s.row in
    record {
      other = s.other;
      place = s.place;
      fits = s.fits;
      own = own_front from c applied next.0 (subst (λ (l : List LogItem). AreInRow from c l) next.1 rest);
      ready = ready;
      more = next.0;
      next = next.1;
    }

-- an item of the sender that wasn't seen
pub record IsNew (logs : Logs) (from : ℕ) (cut : List ℕ) (x : LogItem) : Type 0 where
  pub origin : x.origin ≡ from
  pub there : item_at logs from x.index ≡ Some x
  pub fresh : slice_index cut from ≤ x.index

pub record IsApplied (logs : Logs) (from : ℕ) (cut : List ℕ) (count : ℕ) (x : LogItem) : Type 0 where
  pub new : IsNew logs from cut x
  pub counted : x.index < slice_index cut from + count

-- so is each that is next
pub each_new : (logs : Logs) (me from : ℕ) (cut : List ℕ) (applied : List LogItem) → IsNext logs me from cut applied → AllByRecursion (IsApplied logs from cut (length applied)) applied
each_new logs me from cut applied h =
    let c : ℕ = slice_index cut from in
    each_place (IsApplied logs from cut (length applied)) applied (λ k x is.
    let at = own_at from c applied k x h.own is in
    let there : item_at logs from (c + k) ≡ Some x = sym (get_drop c (log_at logs from) k) ∙ ap (λ (l : List LogItem). slice_get l k) h.next ∙ get_front applied h.more k x is in
    record {
      new = record { origin = at.0; there = ap (item_at logs from) at.1 ∙ there; fresh = omega (arith, at.1) };
      counted = omega (arith, at.1, slice_get_within applied k x is);
    })

-- by what is known then a replica's Accepts and all that it logged before are as by all logs
pub known_alike : (logs : Logs) (me from : ℕ) (known : Logs) (applied : List LogItem) (p q : Standing) → IsStanding me p.log p.cut → Knows logs p.cut known → length known ≡ length p.cut → IsNext logs me from p.cut applied → q.log ≡ p.log
    → AllAlike (with_items from applied known) logs (logged_all me (accepts_of me applied) q).log
known_alike logs me from known applied p q stands knows long next same =
    let cut : List ℕ = cut_after p.cut applied in
    let learned : Logs = with_items from applied known in
    let knows' : Knows logs cut learned =
    subst (Knows logs cut) (with_row from (slice_index p.cut from) applied known next.own (omega (arith, next.place, long))) (learns_taken logs me p.cut applied known (inr (from, next)) long knows) in
    let counts = cut_after_own from p.cut applied (slice_index p.cut from) next.own next.place refl in
    let above = counts_within from p.cut cut (length applied) counts in
    let old : AllAlike learned logs p.log =
    all_alike logs cut learned p.log knows'
    (each_weaker (λ (i : LogItem). IsSeen p.cut i.body) (λ (i : LogItem). IsSeen cut i.body) (λ i seen. seen_later i.body p.cut cut above seen) p.log stands.seen)
    (each_weaker (λ (i : LogItem). LiesWithin i.deps p.cut) (λ (i : LogItem). LiesWithin i.deps cut) (λ i within. within_later i.deps p.cut cut above within) p.log stands.pasts) in
    let one = λ (x : LogItem) (h : IsApplied logs from p.cut (length applied) x).
    let less : x.index < slice_index cut from = omega (arith, counts.there, h.counted) in
    let here : item_at learned from x.index ≡ item_at logs from x.index = ap (λ (l : List LogItem). slice_get l x.index) (knows' from) ∙ get_take (slice_index cut from) (log_at logs from) x.index less in
    subst (λ i. item_at learned i x.index ≡ item_at logs i x.index) (sym h.new.origin) here in
    let accepts = accepts_each (IsAlike learned logs) me applied
    (each_weaker (IsApplied logs from p.cut (length applied)) (λ (x : LogItem). IsAlike learned logs (body.Accept x.origin x.index)) one applied (each_new logs me from p.cut applied next)) in
    logged_all_agree learned logs me (accepts_of me applied) q accepts (subst (AllAlike learned logs) (sym same) old)
