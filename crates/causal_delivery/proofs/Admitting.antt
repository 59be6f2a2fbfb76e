-- Which items of a row were seen, and which of the others are ready.
use Rattle.std.proofs.Common.{◌≡◌, inl, inr, ℕ, zero, suc, ◌+◌, ◌-◌, ◌<◌, ◌≤◌, min, Bool, true, false, cond, List, [], ◌∷◌, not, length, get_or, take, drop, refl, sym, ap, subst, ◌∙◌, arith, length-set, length-drop}
use Rattle.std.specs.Prelude.{slice_index, slice_get, slice_set, nat_lt, Some}
use Rattle.std.specs.Option.{unwrap_or}
use Rattle.std.specs.List.{AllByRecursion}
use Rattle.std.proofs.lemmas.List.{drop_all, get_or-set_same, get_or-set_other, take-append-drop}
use Rattle.std.proofs.lemmas.Bool.{cases_eq, cases_lt, cond-true}
use Rattle.std.proofs.lemmas.Option.{get_or_from_slice_get, slice_get_within}
use Rattle.spec_model.specs.declared.log.LogItem.{LogItem}
use Rattle.run_model.specs.Logs.{LiesWithin, cut_after, with_item}
use Rattle.run_model.specs.Steps.{AreAdmitted, AreReady, IsStuck, unseen}
use Rattle.run_model.specs.Fitting.{AreInRow}
use Rattle.run_model.proofs.Own.{unseen_own, own_drop}
use Rattle.causal_delivery.specs.Rows.{AreOfOne, CountsReady, IsSeenBut}

-- the number at a place, or 0 behind the list
pub index_or : (xs : List ℕ) (i : ℕ) → unwrap_or (slice_get xs i) 0 ≡ slice_index xs i
index_or [] i = refl
index_or (x ∷ xs) zero = refl
index_or (x ∷ xs) (suc i) = index_or xs i

-- a number or the length, whichever is less, drops the same
pub drop_min : {X : Type 0} (n : ℕ) (xs : List X) → drop (min n (length xs)) xs ≡ drop n xs
drop_min n xs =
    elim (cases_lt n (length xs)) [
      | inl lt ↦ ap (λ k. drop k xs) (omega arith)
      | inr le ↦ ap (λ k. drop k xs) (let m : min n (length xs) ≡ length xs = omega arith in m) ∙ drop_all (length xs) xs (omega arith) ∙ sym (drop_all n xs le)
    ]

-- and takes the same
pub take_min : {X : Type 0} (n : ℕ) (xs : List X) → take (min n (length xs)) xs ≡ take n xs
take_min zero xs = ap (λ k. take k xs) (let none : min 0 (length xs) ≡ 0 = omega arith in none)
take_min {X} (suc n) [] = ap (λ k. take {A = X} k []) (let none : min (suc n) (length {A = X} []) ≡ 0 = omega arith in none)
take_min {X} (suc n) (x ∷ xs) =
    let one : min (suc n) (length (x ∷ xs)) ≡ suc (min n (length xs)) = omega arith in
    ap (λ k. take k (x ∷ xs)) one ∙ ap (λ (ys : List X). x ∷ ys) (take_min n xs)

-- the first item of a row
first_of_row : (replicas : ℕ) (items : List LogItem) (x : LogItem) → 0 < length items → x ≡ get_or items 0 x → (h : AreOfOne replicas items) → (x.origin ≡ h.origin) × (x.index ≡ h.first)
first_of_row replicas [] x some is h = absurd (omega (arith, some))
first_of_row replicas (y ∷ items) x some is h = (ap (λ (i : LogItem). i.origin) is ∙ h.row.0, ap (λ (i : LogItem). i.index) is ∙ h.row.1)

-- of a row so many were seen as the cut counts past its first item
pub seen_of_row : (cut : List ℕ) (items : List LogItem) (x : LogItem) (seen n : ℕ) → AreOfOne (length cut) items → 0 < length items → x ≡ get_or items 0 x → seen ≡ slice_index cut x.origin - x.index → n ≡ min seen (length items) → unseen cut items ≡ drop n items
seen_of_row cut items x seen n h some is count least =
    let first = first_of_row (length cut) items x some is h in
    let own = unseen_own h.origin (slice_index cut h.origin) h.first cut items h.row refl in
    let d : slice_index cut h.origin - h.first ≡ seen = ap (λ o. slice_index cut o - h.first) (sym first.0) ∙ ap (λ i. slice_index cut x.origin - i) (sym first.1) ∙ sym count in
    own ∙ ap (λ k. drop k items) d ∙ sym (drop_min seen items) ∙ ap (λ k. drop k items) (sym least)

-- ---- ready items

-- a past that was seen but for its own log lies in a cut that counts as much of that log
within_but : (past cut : List ℕ) (own : ℕ) → IsSeenBut past cut own → slice_index past own ≤ slice_index cut own → LiesWithin past cut
within_but past cut own h le i = elim (cases_eq i own) [ inl same ↦ subst (λ k. slice_index past k ≤ slice_index cut k) (sym same) le | inr other ↦ h i other ]

-- one item of its own log more changes no other place
but_later : (past cut : List ℕ) (own n : ℕ) → IsSeenBut past cut own → IsSeenBut past (slice_set cut own n) own
but_later past cut own n h i other = let same = get_or-set_other cut own i n 0 other in let was = h i other in omega (arith, same, was)

but_earlier : (past cut : List ℕ) (own n : ℕ) → IsSeenBut past (slice_set cut own n) own → IsSeenBut past cut own
but_earlier past cut own n h i other = let same = get_or-set_other cut own i n 0 other in let was = h i other in omega (arith, same, was)

-- what is counted of a row that begins where the cut ends is admitted of it
counts_admitted : (origin : ℕ) (cut : List ℕ) (items : List LogItem) (n : ℕ) → AreInRow origin (slice_index cut origin) items → origin < length cut → CountsReady cut items n
    → AreReady cut (take n items) × IsStuck (cut_after cut (take n items)) (drop n items)
counts_admitted origin cut [] zero row place h = (tt, tt)
counts_admitted origin cut (x ∷ items) zero row place h =
    (tt, λ within. h.stuck x refl (λ i other. within i))
counts_admitted origin cut [] (suc n) row place h = absurd (omega (arith, h.within))
counts_admitted origin cut (x ∷ items) (suc n) row place h =
    let next : List ℕ = with_item cut x in
    let made : next ≡ slice_set cut origin (slice_index cut origin + 1) = ap (λ o. slice_set cut o (x.index + 1)) row.0 ∙ ap (λ k. slice_set cut origin (k + 1)) row.1 in
    let here : slice_index next origin ≡ slice_index cut origin + 1 = ap (λ (c : List ℕ). slice_index c origin) made ∙ get_or-set_same cut origin (slice_index cut origin + 1) 0 place in
    let seen : IsSeenBut x.deps cut origin = subst (IsSeenBut x.deps cut) row.0 h.seen.0 in
    let rest : AreInRow origin (slice_index next origin) items = subst (λ k. AreInRow origin k items) (sym here) row.3 in
    let later = rest_ready origin (slice_index cut origin + 1) cut items n row.3 (record { within = omega (arith, h.within); seen = h.seen.1; stuck = h.stuck }) in
    let further = counts_admitted origin next items n rest (omega (arith, ap length made, length-set cut origin (slice_index cut origin + 1), place)) (subst (λ (c : List ℕ). CountsReady c items n) (sym made) later) in
    ((within_but x.deps cut origin seen (omega (arith, row.2)), further.0), further.1)
  where
    rest_ready : (origin at : ℕ) (cut : List ℕ) (items : List LogItem) (n : ℕ) → AreInRow origin at items → CountsReady cut items n → CountsReady (slice_set cut origin at) items n
    rest_ready origin at cut items n row h = record {
      within = h.within;
      seen = each_later origin at at cut items n row h.seen;
      stuck = λ item is but. h.stuck item is (subst (IsSeenBut item.deps cut) (sym (origin_at origin at items n item row is)) (but_earlier item.deps cut origin at (subst (IsSeenBut item.deps (slice_set cut origin at)) (origin_at origin at items n item row is) but)));
    }
      where
        origin_at : (origin at : ℕ) (items : List LogItem) (n : ℕ) (item : LogItem) → AreInRow origin at items → slice_get items n ≡ Some item → item.origin ≡ origin
        origin_at origin at [] n item row is = absurd cc
        origin_at origin at (y ∷ items) zero item row is = let same : y ≡ item = cc in ap (λ (i : LogItem). i.origin) (sym same) ∙ row.0
        origin_at origin at (y ∷ items) (suc n) item row is = origin_at origin (at + 1) items n item row.3 is

        each_later : (origin at first : ℕ) (cut : List ℕ) (items : List LogItem) (n : ℕ) → AreInRow origin first items → AllByRecursion (λ item. IsSeenBut item.deps cut item.origin) (take n items)
            → AllByRecursion (λ item. IsSeenBut item.deps (slice_set cut origin at) item.origin) (take n items)
        each_later origin at first cut items zero row h = tt
        each_later origin at first cut [] (suc n) row h = tt
        each_later origin at first cut (y ∷ items) (suc n) row h =
            (subst (IsSeenBut y.deps (slice_set cut origin at)) (sym row.0) (but_later y.deps cut origin at (subst (IsSeenBut y.deps cut) row.0 h.0)), each_later origin at (first + 1) cut items n row.3 h.1)

-- where nothing of a row was seen, it begins where the cut ends or later
row_begins : (cut : List ℕ) (x : LogItem) (items : List LogItem) (origin first : ℕ) → AreInRow origin first (x ∷ items) → unseen cut (x ∷ items) ≡ x ∷ items → slice_index cut origin ≤ first
row_begins cut x items origin first row none =
    let own = unseen_own origin (slice_index cut origin) first cut (x ∷ items) row refl in
    let long = ap length (sym own ∙ none) in
    omega (arith, long, length-drop (slice_index cut origin - first) (x ∷ items))

-- what is counted of a row is admitted, where it begins where the cut ends
pub admitted_ready : (cut : List ℕ) (items : List LogItem) (x : LogItem) (n : ℕ) → AreOfOne (length cut) items → unseen cut items ≡ items → 0 < length items → x ≡ get_or items 0 x → x.index ≤ slice_index cut x.origin → CountsReady cut items n
    → AreAdmitted cut items (take n items)
admitted_ready cut [] x n h none some is le counts = absurd (omega (arith, some))
admitted_ready cut (y ∷ items) x n h none some is le counts =
    let origin : x.origin ≡ h.origin = ap (λ (i : LogItem). i.origin) is ∙ h.row.0 in
    let index : x.index ≡ h.first = ap (λ (i : LogItem). i.index) is ∙ h.row.1 in
    let least = row_begins cut y items h.origin h.first h.row none in
    let there : slice_index cut x.origin ≡ slice_index cut h.origin = ap (slice_index cut) origin in
    let begins : h.first ≡ slice_index cut h.origin = omega (arith, least, le, there, index) in
    let row = subst (λ k. AreInRow h.origin k (y ∷ items)) begins h.row in
    let both = counts_admitted h.origin cut (y ∷ items) n row h.place counts in
    record { rest = drop n (y ∷ items); prefix = none ∙ sym (take-append-drop n (y ∷ items)); ready = both.0; longest = both.1 }

-- nothing is admitted of a row that begins behind the cut
pub admitted_none : (cut : List ℕ) (items : List LogItem) (x : LogItem) → AreOfOne (length cut) items → unseen cut items ≡ items → 0 < length items → x ≡ get_or items 0 x → slice_index cut x.origin < x.index → AreAdmitted cut items (take 0 items)
admitted_none cut [] x h none some is lt = absurd (omega (arith, some))
admitted_none cut (y ∷ items) x h none some is lt =
    let origin : x.origin ≡ h.origin = ap (λ (i : LogItem). i.origin) is ∙ h.row.0 in
    let index : x.index ≡ h.first = ap (λ (i : LogItem). i.index) is ∙ h.row.1 in
    let there : slice_index cut x.origin ≡ slice_index cut h.origin = ap (slice_index cut) origin in
    record {
      rest = y ∷ items;
      prefix = none;
      ready = tt;
      longest = λ within. let own = within h.origin in omega (arith, own, h.row.2, index, there, lt);
    }

-- and of no items
pub admitted_empty : (cut : List ℕ) (items : List LogItem) → length items ≡ 0 → AreAdmitted cut items (take 0 items)
admitted_empty cut [] none = record { rest = []; prefix = refl; ready = tt; longest = tt }
admitted_empty cut (x ∷ items) none = absurd (omega (arith, none))

-- ---- skipping and then applying

-- what isn't seen of the unseen is all of it
pub unseen_twice : (cut : List ℕ) (items : List LogItem) (n : ℕ) → unseen cut items ≡ drop n items → unseen cut (drop n items) ≡ drop n items
unseen_twice cut items n is = ap (unseen cut) (sym is) ∙ filter_twice cut items ∙ is
  where
    filter_twice : (cut : List ℕ) (items : List LogItem) → unseen cut (unseen cut items) ≡ unseen cut items
    filter_twice cut [] = refl
    filter_twice cut (x ∷ items) =
        by_test (not (nat_lt x.index (slice_index cut x.origin))) refl (filter_twice cut items)
      where
        by_test : (b : Bool) → not (nat_lt x.index (slice_index cut x.origin)) ≡ b → unseen cut (unseen cut items) ≡ unseen cut items → unseen cut (cond b (x ∷ unseen cut items) (unseen cut items)) ≡ cond b (x ∷ unseen cut items) (unseen cut items)
        by_test true is rest = cond-true _ (x ∷ unseen cut (unseen cut items)) (unseen cut (unseen cut items)) is ∙ ap (λ (ys : List LogItem). x ∷ ys) rest
        by_test false is rest = rest

-- what is left of a row
pub rest_of_one : (replicas n : ℕ) (items : List LogItem) → AreOfOne replicas items → AreOfOne replicas (drop n items)
rest_of_one replicas n items h = record {
  origin = h.origin;
  first = h.first + n;
  place = h.place;
  row = own_drop h.origin h.first n items (h.first + n) refl h.row;
  pasts = each_drop n items h.pasts;
}
  where
    each_drop : (n : ℕ) (items : List LogItem) → AllByRecursion (λ item. length item.deps ≡ replicas) items → AllByRecursion (λ item. length item.deps ≡ replicas) (drop n items)
    each_drop zero items all = all
    each_drop (suc n) [] all = tt
    each_drop (suc n) (x ∷ items) all = each_drop n items all.1

-- of all items what is admitted of the unseen ones is admitted
pub admitted_of_all : (cut : List ℕ) (items applied : List LogItem) (n : ℕ) → unseen cut items ≡ drop n items → AreAdmitted cut (drop n items) applied → AreAdmitted cut items applied
admitted_of_all cut items applied n is h = record { rest = h.rest; prefix = is ∙ sym (unseen_twice cut items n is) ∙ h.prefix; ready = h.ready; longest = h.longest }

-- the next items, in a window
pub window_is : (known : ℕ) (own rest window items : List LogItem) (start size : ℕ) → start ≡ min known (length own) → rest ≡ drop start own → size ≡ min 16 (length rest) → window ≡ take size rest → items ≡ window → items ≡ take 16 (drop known own)
window_is known own rest window items start size s r z w i =
    i ∙ w ∙ ap (λ k. take k rest) z ∙ take_min 16 rest ∙ ap (take 16) (r ∙ ap (λ k. drop k own) s ∙ drop_min known own)

-- of one more item
pub seen_more : (P : LogItem → Type 0) (n : ℕ) (items : List LogItem) (x : LogItem) → n < length items → x ≡ get_or items n x → AllByRecursion P (take n items) → P x → AllByRecursion P (take (n + 1) items)
seen_more P n [] x lt is all holds = absurd (omega (arith, lt))
seen_more P zero (y ∷ items) x lt is all holds = (subst P is holds, tt)
seen_more P (suc n) (y ∷ items) x lt is all holds =
    let one : suc n + 1 ≡ suc (n + 1) = omega arith in
    subst (λ k. AllByRecursion P (take k (y ∷ items))) (sym one) (all.0, seen_more P n items x (omega (arith, lt)) is all.1 holds)

-- so many are ready, and the next one isn't
pub counts_here : (cut : List ℕ) (items : List LogItem) (n : ℕ) (x : LogItem) → n < length items → x ≡ get_or items n x → AllByRecursion (λ item. IsSeenBut item.deps cut item.origin) (take n items) → (IsSeenBut x.deps cut x.origin → ⊥) → CountsReady cut items n
counts_here cut items n x lt is seen isnt = record {
  within = omega (arith, lt);
  seen = seen;
  stuck = λ item at but. isnt (subst (λ (i : LogItem). IsSeenBut i.deps cut i.origin) (sym (is ∙ get_or_from_slice_get items n item x at)) but);
}

-- all are ready
pub counts_all : (cut : List ℕ) (items : List LogItem) (n : ℕ) → n ≡ length items → AllByRecursion (λ item. IsSeenBut item.deps cut item.origin) (take n items) → CountsReady cut items n
counts_all cut items n all seen = record {
  within = omega (arith, all);
  seen = seen;
  stuck = λ item at but. let lt = slice_get_within items n item at in absurd (omega (arith, lt, all));
}
