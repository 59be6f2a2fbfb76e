-- What a replica of a run holds once it has accepted what comes before an item that gives to it: with that no more than there are.
use Rattle.std.proofs.Common.{◌≡◌, ℕ, ◌+◌, ◌<◌, ◌≤◌, Bool, false, not, nat_lt, ◌==◌, List, [], ◌∷◌, ◌++◌, length, take, refl, sym, ap, ◌∙◌, arith, eq-eqb}
use Rattle.std.specs.Prelude.{slice_index, Some, sum_by}
use Rattle.std.proofs.lemmas.Bool.{cond-true}
use Rattle.std.proofs.lemmas.List.{take_all}
use Rattle.std.proofs.lemmas.List.Elements.{filter-append}
use Rattle.std.proofs.lemmas.List.Sums.{sum_by_push}
use Rattle.spec_model.specs.declared.plan.Setup.{Setup}
use Rattle.spec_model.specs.declared.right.Piece.{Piece}
use Rattle.spec_model.specs.declared.right.Right.{Right}
use Rattle.spec_model.specs.declared.log.Body.TheVariants as body
use Rattle.spec_model.specs.declared.log.LogItem.{LogItem}
use Rattle.spec_model.specs.Universe.{below}
use Rattle.run_model.specs.Fitting.{ItemFits}
use Rattle.run_model.specs.Locals.{Knows}
use Rattle.run_model.specs.Logs.{Logs, cut_after, item_at, items_in, log_at, own_in}
use Rattle.run_model.specs.Rights.{flight_of, out_of, same_right}
use Rattle.run_model.specs.Steps.{accepts_of, unseen}
use Rattle.run_model.specs.Worlds.{Standing, logged_all}
use Rattle.run_model.proofs.Answers.{IsPart}
use Rattle.run_model.proofs.Growth.{IsStanding}
use Rattle.run_model.proofs.Lists.{each_weaker}
use Rattle.run_model.proofs.Premises.{AreHeld}
use Rattle.run_model.proofs.Taken.{IsNext}
use Rattle.message_laws.specs.Views.{View, standing_in}
use Rattle.message_laws.proofs.Accepting.{AddsAtMost, AreThere, count_after}
use Rattle.message_laws.proofs.Flight.{HasSeen, count_at, full_cut, gives_to, part_in_flight}
use Rattle.message_laws.proofs.Limits.{AreSmall}
use Rattle.message_laws.proofs.Lists.{term_small}
use Rattle.message_laws.proofs.Onway.{IsApplied, IsNew, each_new}
use Rattle.message_laws.proofs.Rights.{right_self}

-- ---- a replica

-- replica me among these logs, how it stands, and what it knows
pub record IsHere (setup : Setup) (logs : Logs) (me : ℕ) (p : Standing) (known : Logs) : Type 0 where
  pub small : AreSmall setup logs
  pub held : AreHeld setup logs
  pub stands : IsStanding me p.log p.cut
  pub seen : HasSeen logs me p.cut
  pub own : log_at logs me ≡ p.log
  pub among : me < length logs
  pub knows : Knows logs p.cut known
  pub long : length known ≡ length p.cut

-- its own log is what it knows of it
pub own_known : (setup : Setup) (logs : Logs) (me : ℕ) (p : Standing) (known : Logs) → IsHere setup logs me p known → log_at known me ≡ p.log
own_known setup logs me p known h = h.knows me ∙ ap (take (slice_index p.cut me)) h.own ∙ take_all (slice_index p.cut me) p.log (omega (arith, h.stands.whole))

-- and what it holds in the cut of all items
pub own_whole : (setup : Setup) (logs : Logs) (me : ℕ) (p : Standing) (known : Logs) → IsHere setup logs me p known → own_in (full_cut logs) logs me ≡ p.log
own_whole setup logs me p known h = take_all (slice_index (full_cut logs) me) (log_at logs me) (omega (arith, count_at logs me)) ∙ h.own

-- ---- an item

-- what was applied before, and the next item, which gives a piece to it
pub record IsGiven (setup : Setup) (logs : Logs) (me from : ℕ) (p : Standing) (before : List LogItem) (item : LogItem) (r : Right) (pc : Piece) : Type 0 where
  pub part : IsPart (log_at logs from) (before ++ item ∷ [])
  pub next : IsNext logs me from p.cut (unseen p.cut before)
  pub fresh : nat_lt item.index (slice_index p.cut item.origin) ≡ false
  pub new : IsNew logs from p.cut item
  pub fits : ItemFits setup item
  pub gives : item.body ≡ body.Out me r pc

-- an Out to it gives its piece
gives_piece : (me to : ℕ) (counted : Piece → ℕ) (r : Right) (pc : Piece) → to ≡ me → gives_to me counted r (body.Out to r pc) ≡ counted pc
gives_piece me to counted r pc mine = cond-true (to == me) (out_of counted r (body.Out to r pc)) 0 (eq-eqb to me mine) ∙ cond-true (same_right r r) (counted pc) 0 (right_self r)

-- what was applied is there
pub applied_there : (logs : Logs) (me from : ℕ) (cut : List ℕ) (applied : List LogItem) → IsNext logs me from cut applied → AreThere logs applied
applied_there logs me from cut applied next =
    each_weaker (IsApplied logs from cut (length applied)) (λ (x : LogItem). item_at logs x.origin x.index ≡ Some x) (λ x new. ap (λ i. item_at logs i x.index) new.new.origin ∙ new.new.there) applied (each_new logs me from cut applied next)

-- its own log once it has accepted what was applied
abbrev pub own_after : ℕ → Logs → Standing → List LogItem → List LogItem
own_after me known p applied =
    let v : View = record { me = me; known = known; cut = p.cut } in
    (logged_all me (accepts_of me applied) (record (standing_in v) { cut = cut_after p.cut applied })).log

-- what it holds then, and the piece that it is given, are no more than all that is held and in flight, by what is counted of a piece
pub holds_given : (setup : Setup) (logs : Logs) (me from : ℕ) (p : Standing) (known : Logs) (before : List LogItem) (item : LogItem) (r : Right) (pc : Piece) (counted : Piece → ℕ) (have : ℕ → List LogItem → ℕ) (most : ℕ)
    → IsHere setup logs me p known → IsGiven setup logs me from p before item r pc → AddsAtMost logs me counted r (have me)
    → sum_by (λ k. have k (own_in (full_cut logs) logs k)) (below (length logs)) + flight_of (out_of counted r) (items_in (full_cut logs) logs) ≤ most
    → have me (own_after me known p (unseen p.cut before)) + counted pc ≤ most
holds_given setup logs me from p known before item r pc counted have most h g adds few =
    let v : View = record { me = me; known = known; cut = p.cut } in
    let applied : List LogItem = unseen p.cut before in
    let q : Standing = record (standing_in v) { cut = cut_after p.cut applied } in
    let gives = λ (i : LogItem). gives_to me counted r i.body in
    let count = count_after logs me counted r (have me) adds q applied (applied_there logs me from p.cut applied g.next) in
    let mine : have me q.log ≡ have me (own_in (full_cut logs) logs me) = ap (have me) (own_known setup logs me p known h ∙ sym (own_whole setup logs me p known h)) in
    let term = term_small (λ (k : ℕ). have k (own_in (full_cut logs) logs k)) (length logs) me h.among in
    let flight = part_in_flight logs me from p.cut counted r (before ++ item ∷ []) h.seen g.part in
    let fresh : LogItem → Bool = λ x. not (nat_lt x.index (slice_index p.cut x.origin)) in
    let split : unseen p.cut (before ++ item ∷ []) ≡ applied ++ item ∷ [] = filter-append fresh before (item ∷ []) ∙ ap (λ (l : List LogItem). applied ++ l) (cond-true (fresh item) (item ∷ []) [] (ap not g.fresh)) in
    let piece_is : gives item ≡ counted pc = ap (gives_to me counted r) g.gives ∙ gives_piece me me counted r pc refl in
    omega (arith, count, mine, term, flight, few, ap (sum_by gives) split, sum_by_push gives applied item, piece_is)
