-- What was given to a replica and it hasn't seen is in flight.
use Rattle.std.proofs.Common.{◌≡◌, inl, inr, ℕ, zero, suc, ◌+◌, ◌<◌, ◌≤◌, Bool, true, false, cond, if◌then◌else◌, ◌==◌, nat_eq, List, [], ◌∷◌, ◌++◌, length, map, take, refl, sym, ap, subst, ◌∙◌, arith, eqb-true}
use Rattle.std.specs.Prelude.{slice_get, slice_index, Some, not, nat_lt, sum_by}
use Rattle.std.proofs.lemmas.Bool.{cases_Bool, cond-true, cond-false, ltb-false}
use Rattle.std.proofs.lemmas.Option.{same_Some, slice_get_within}
use Rattle.std.proofs.lemmas.List.{length-map, take_all}
use Rattle.std.proofs.lemmas.List.Sums.{sum_by-append}
use Rattle.spec_model.specs.declared.right.Right.{Right}
use Rattle.spec_model.specs.declared.right.Piece.{Piece}
use Rattle.spec_model.specs.declared.log.Body.{Body}
use Rattle.spec_model.specs.declared.log.Body.TheVariants as body
use Rattle.spec_model.specs.declared.log.LogItem.{LogItem}
use Rattle.run_model.specs.Balance.{AcceptsOwn}
use Rattle.run_model.specs.Logs.{accepts, is_accepted, AreLogs, IsConsistent, IsIn, Logs, item_at, items_in, log_at}
use Rattle.run_model.specs.Rights.{flight_of, out_of}
use Rattle.run_model.specs.Steps.{unseen}
use Rattle.run_model.proofs.Answers.{IsPart}
use Rattle.run_model.proofs.Counting.{any_there, sum_filter}
use Rattle.run_model.proofs.InFlight.{accepts_true}
use Rattle.run_model.proofs.Lists.{get_behind, get_front}
use Rattle.run_model.proofs.Places.{place_in}
use Rattle.message_laws.proofs.Lists.{sum_upto}

-- ---- the cut of all items

-- the count of a log in the cut of all items
pub count_at : (logs : Logs) (i : ℕ) → slice_index (map (λ (log : List LogItem). length log) logs) i ≡ length (log_at logs i)
count_at [] i = refl
count_at (log ∷ logs) zero = refl
count_at (log ∷ logs) (suc i) = count_at logs i

-- counts of all items, in which each log lies
abbrev pub full_cut : Logs → List ℕ
full_cut logs = map (λ (l : List LogItem). length l) logs

log_within : (w : LogItem → ℕ) (logs : Logs) (i : ℕ) → sum_by w (log_at logs i) ≤ sum_by w (items_in (full_cut logs) logs)
log_within w [] i = omega arith
log_within w (log ∷ logs) zero =
    let rest : List LogItem = items_in (full_cut logs) logs in
    omega (arith, ap (sum_by w) (take_all (length log) log (omega arith)), sum_by-append w (take (length log) log) rest)
log_within w (log ∷ logs) (suc i) =
    let rest : List LogItem = items_in (full_cut logs) logs in
    omega (arith, log_within w logs i, sum_by-append w (take (length log) log) rest)

pub all_consistent : (logs : Logs) → AreLogs logs → IsConsistent logs (full_cut logs)
all_consistent logs are = record {
  whole = length-map logs (λ (l : List LogItem). length l);
  within = λ i. omega (arith, count_at logs i);
  pasts = λ i k item in_cut at j. omega (arith, count_at logs j, (are.past i k item at).within j);
}

-- ---- what is on its way

-- what a body gives of a right to replica me, by what is counted of a piece
abbrev pub gives_to : ℕ → (Piece → ℕ) → Right → Body → ℕ
gives_to me counted r (body.Act inst) = 0
gives_to me counted r (body.Out to given piece) = if to == me then out_of counted r (body.Out to given piece) else 0
gives_to me counted r (body.Accept from at) = 0

-- replica me has seen all of its own log, and nothing without its past
pub record HasSeen (logs : Logs) (me : ℕ) (cut : List ℕ) : Type 0 where
  pub are : AreLogs logs
  pub own : AcceptsOwn logs
  pub consistent : IsConsistent logs cut
  pub mine : slice_index cut me ≡ length (log_at logs me)

out_to : (to other : ℕ) (r s : Right) (p q : Piece) → body.Out to r p ≡ body.Out other s q → to ≡ other
out_to to other r s p q h = cc

-- what was given to it and it hasn't seen isn't accepted
pub not_accepted : (logs : Logs) (me from at : ℕ) (cut cut' : List ℕ) (x : LogItem) (r : Right) (piece : Piece) → HasSeen logs me cut → item_at logs from at ≡ Some x → slice_index cut from ≤ at → x.body ≡ body.Out me r piece → is_accepted (items_in cut' logs) x ≡ false
not_accepted logs me from at cut cut' x r piece h here new is = elim (cases_Bool (is_accepted (items_in cut' logs) x)) [
  | inr none ↦ none
  | inl some ↦
      let t = any_there (λ (y : LogItem). accepts x.origin x.index y.body) (items_in cut' logs) some in
      let y : LogItem = t.1 in
      let place = place_in cut' logs t.0 y t.2 in
      let accept : y.body ≡ body.Accept x.origin x.index = accepts_true x.origin x.index y.body t.3 in
      let given = h.own place.0 place.1 x.origin x.index y place.2 accept in
      let named = h.are.named from at x here in
      let there : item_at logs x.origin x.index ≡ Some x = ap (λ i. item_at logs i x.index) named.0 ∙ ap (item_at logs from) named.1 ∙ here in
      let same : given.0 ≡ x = same_Some given.0 x (sym given.3 ∙ there) in
      let mine : place.0 ≡ me = out_to place.0 me given.1 r given.2 piece (sym given.4 ∙ ap (λ (i : LogItem). i.body) same ∙ is) in
      let within : place.1 < length (log_at logs place.0) = slice_get_within (log_at logs place.0) place.1 y place.2 in
      let seen : IsIn cut place.0 place.1 = subst (λ i. slice_index cut i ≡ length (log_at logs i) → place.1 < length (log_at logs i) → place.1 < slice_index cut i) (sym mine) (λ e lt. omega (arith, e, lt)) (subst (λ i. slice_index cut i ≡ length (log_at logs i)) (sym mine) h.mine) within in
      let past = h.consistent.pasts place.0 place.1 y seen place.2 from in
      let before : x.index < slice_index y.deps x.origin = given.5 in
      let before' : x.index < slice_index y.deps from = subst (λ i. x.index < slice_index y.deps i) named.0 before in
      absurd (omega (arith, past, before', named.1, new))
]

-- an item that it hasn't seen gives to it no more than is in flight of it
gives_in_flight : (logs : Logs) (me from at : ℕ) (cut cut' : List ℕ) (counted : Piece → ℕ) (r : Right) (x : LogItem) → HasSeen logs me cut → item_at logs from at ≡ Some x
    → cond (not (nat_lt x.index (slice_index cut x.origin))) (gives_to me counted r x.body) 0 ≤ cond (not (is_accepted (items_in cut' logs) x)) (out_of counted r x.body) 0
gives_in_flight logs me from at cut cut' counted r x h here = by_body x.body refl
  where
    fresh : Bool
    fresh = not (nat_lt x.index (slice_index cut x.origin))

    none : (b : Bool) (n m : ℕ) → n ≡ 0 → cond b n 0 ≤ m
    none true n m is = omega (arith, is)
    none false n m is = omega arith

    behind : fresh ≡ true → slice_index cut from ≤ at
    behind new =
        let named = h.are.named from at x here in
        let le : slice_index cut x.origin ≤ x.index = ltb-false x.index (slice_index cut x.origin) (not_less (nat_lt x.index (slice_index cut x.origin)) new) in
        omega (arith, le, named.1, ap (slice_index cut) named.0)
      where
        not_less : (b : Bool) → not b ≡ true → b ≡ false
        not_less true e = absurd cc
        not_less false e = refl

    by_body : (b : Body) → x.body ≡ b → cond fresh (gives_to me counted r x.body) 0 ≤ cond (not (is_accepted (items_in cut' logs) x)) (out_of counted r x.body) 0
    by_body (body.Act inst) is = none fresh (gives_to me counted r x.body) _ (ap (gives_to me counted r) is)
    by_body (body.Accept origin index) is = none fresh (gives_to me counted r x.body) _ (ap (gives_to me counted r) is)
    by_body (body.Out to s piece) is = elim (cases_Bool (nat_eq to me)) [
      | inr other ↦ none fresh (gives_to me counted r x.body) _ (ap (gives_to me counted r) is ∙ cond-false (nat_eq to me) (out_of counted r (body.Out to s piece)) 0 other)
      | inl same ↦ elim (cases_Bool fresh) [
        | inr seen ↦ omega (arith, cond-false fresh (gives_to me counted r x.body) 0 seen)
        | inl new ↦
            let free = not_accepted logs me from at cut cut' x s piece h here (behind new) (is ∙ ap (λ n. body.Out n s piece) (eqb-true to me same)) in
            let gives : gives_to me counted r x.body ≡ out_of counted r x.body = ap (gives_to me counted r) is ∙ cond-true (nat_eq to me) (out_of counted r (body.Out to s piece)) 0 same ∙ sym (ap (out_of counted r) is) in
            omega (arith, cond-true fresh (gives_to me counted r x.body) 0 new, gives, cond-true (not (is_accepted (items_in cut' logs) x)) (out_of counted r x.body) 0 (ap not free))
      ]
    ]

-- nor do several that stand in a row in a log
pub part_in_flight : (logs : Logs) (me from : ℕ) (cut : List ℕ) (counted : Piece → ℕ) (r : Right) (part : List LogItem) → HasSeen logs me cut → IsPart (log_at logs from) part
    → sum_by (λ i. gives_to me counted r i.body) (unseen cut part) ≤ flight_of (out_of counted r) (items_in (full_cut logs) logs)
part_in_flight logs me from cut counted r part h is =
    let all : List ℕ = full_cut logs in
    let items : List LogItem = items_in all logs in
    let fresh : LogItem → Bool = λ x. not (nat_lt x.index (slice_index cut x.origin)) in
    let free : LogItem → Bool = λ x. not (is_accepted items x) in
    let v : LogItem → ℕ = λ x. cond (fresh x) (gives_to me counted r x.body) 0 in
    let w : LogItem → ℕ = λ x. cond (free x) (out_of counted r x.body) 0 in
    let one = sum_filter fresh (λ (x : LogItem). gives_to me counted r x.body) part in
    let two = sum_upto v w part (λ k x there.
    gives_in_flight logs me from (length is.front + k) cut all counted r x h
    (ap (λ (l : List LogItem). slice_get l (length is.front + k)) is.is ∙ get_behind is.front (part ++ is.behind) k ∙ get_front part is.behind k x there)) in
    let three = sum_by-append w is.front (part ++ is.behind) in
    let four = sum_by-append w part is.behind in
    let five = log_within w logs from in
    let six = sum_filter free (λ (x : LogItem). out_of counted r x.body) items in
    omega (arith, one, two, three, four, five, six, ap (sum_by w) is.is)
