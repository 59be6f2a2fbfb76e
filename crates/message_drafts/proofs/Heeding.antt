-- What is heeded of the items that are looked at: those in front, up to the first that can't be accepted.
use Rattle.std.proofs.Common.{◌≡◌, ◌⊎◌, inl, inr, ℕ, zero, suc, ◌+◌, ◌-◌, ◌<◌, ◌≤◌, true, false, List, [], ◌∷◌, ◌++◌, length, take, drop, refl, sym, ap, subst, ◌∙◌, arith, length-take, ltb-false}
use Rattle.std.specs.Prelude.{slice_get, slice_index, Some, not, nat_lt}
use Rattle.std.specs.List.{AllByRecursion}
use Rattle.std.proofs.lemmas.Bool.{cases_Bool, cases_lt, le-ltb}
use Rattle.std.proofs.lemmas.Option.{slice_get_within}
use Rattle.std.proofs.lemmas.List.{append-nil, append_assoc, take-append-drop, take_all}
use Rattle.spec_model.specs.declared.plan.Setup.{Setup}
use Rattle.spec_model.specs.declared.log.LogItem.{LogItem}
use Rattle.run_model.specs.Fitting.{AreInRow, ItemFits}
use Rattle.run_model.specs.Steps.{AreAdmitted, AreReady, IsStuck, unseen}
use Rattle.run_model.specs.Logs.{cut_after, with_item}
use Rattle.run_model.proofs.Lists.{each_at, each_filter, each_take, get_append, get_drop, get_front, get_last, get_take}
use Rattle.run_model.proofs.Own.{own_at, own_drop, own_front, unseen_own}
use Rattle.message_laws.specs.Heeded.{AreHeeded, CanAccept, JoinsAfter, MayApply}
use Rattle.message_laws.specs.Views.{View}
use Rattle.message_drafts.specs.Drafts.{CanJoin}
use Rattle.message_drafts.specs.Fronts.{AreReadyOf}
use Rattle.message_drafts.proofs.Places.{drop_from, drop_take, take_at, take_front, take_less}

-- ---- rows

-- the items in front of a row are a row
pub row_taken : (from at n : ℕ) (items : List LogItem) → AreInRow from at items → AreInRow from at (take n items)
row_taken from at zero items row = tt
row_taken from at (suc n) [] row = tt
row_taken from at (suc n) (x ∷ items) row = (row.0, row.1, row.2, row_taken from (at + 1) n items row.3)

-- where a first item was not seen, and its past was, its row goes on where the cut ends
row_goes_on : (from at : ℕ) (cut : List ℕ) (items applied : List LogItem) → AreInRow from at applied → AreAdmitted cut items applied → AreInRow from (slice_index cut from) applied
row_goes_on from at cut items [] row admitted = tt
row_goes_on from at cut items (x ∷ applied) row admitted =
    let new : not (nat_lt x.index (slice_index cut x.origin)) ≡ true =
    (subst (AllByRecursion (λ (i : LogItem). Unit {0} × (not (nat_lt i.index (slice_index cut i.origin)) ≡ true))) admitted.prefix (each_filter (λ (i : LogItem). Unit {0}) (λ (i : LogItem). not (nat_lt i.index (slice_index cut i.origin))) items (any items))).0.1 in
    let here : slice_index cut x.origin ≡ slice_index cut from = ap (slice_index cut) row.0 in
    let behind : slice_index cut x.origin ≤ x.index = not_less x.index (slice_index cut x.origin) new in
    let seen : slice_index x.deps from ≤ slice_index cut from = admitted.ready.0 from in
    let same : at ≡ slice_index cut from = omega (arith, here, behind, seen, row.1, row.2) in
    subst (λ n. AreInRow from n (x ∷ applied)) same row
  where
    any : (items : List LogItem) → AllByRecursion (λ (i : LogItem). Unit {0}) items
    any [] = tt
    any (i ∷ items) = (tt, any items)

    not_less : (a b : ℕ) → not (nat_lt a b) ≡ true → b ≤ a
    not_less a b h = elim (cases_Bool (nat_lt a b)) [
      | inl less ↦ absurd (let wrong : false ≡ true = sym (ap not less) ∙ h in cc)
      | inr not_so ↦ ltb-false a b not_so
    ]

-- what is ready of a front is the next of the sender's log
pub ready_row : (setup : Setup) (cut : List ℕ) (from : ℕ) (items ready : List LogItem) → AreReadyOf setup cut from items ready → AreInRow from (slice_index cut from) ready
ready_row setup cut from items ready h =
    let f = h.is_front in
    let c : ℕ = slice_index cut from in
    let d : ℕ = c - f.first in
    let back : ready ++ h.admitted.rest ≡ drop d h.front = sym h.admitted.prefix ∙ unseen_own from c f.first cut h.front f.row refl in
    let row : AreInRow from (f.first + d) (ready ++ h.admitted.rest) = subst (AreInRow from (f.first + d)) (sym back) (own_drop from f.first d h.front (f.first + d) refl f.row) in
    row_goes_on from (f.first + d) cut h.front ready (own_front from (f.first + d) ready h.admitted.rest row) h.admitted

each_dropped : {X : Type 0} (P : X → Type 0) (n : ℕ) (xs : List X) → AllByRecursion P xs → AllByRecursion P (drop n xs)
each_dropped P zero xs all = all
each_dropped P (suc n) [] all = tt
each_dropped P (suc n) (x ∷ xs) all = each_dropped P n xs all.1

each_front : {X : Type 0} (P : X → Type 0) (xs ys : List X) → AllByRecursion P (xs ++ ys) → AllByRecursion P xs
each_front P [] ys all = tt
each_front P (x ∷ xs) ys all = (all.0, each_front P xs ys all.1)

-- and fits
pub ready_fits : (setup : Setup) (cut : List ℕ) (from : ℕ) (items ready : List LogItem) → AreReadyOf setup cut from items ready → AllByRecursion (ItemFits setup) ready
ready_fits setup cut from items ready h =
    let f = h.is_front in
    let d : ℕ = slice_index cut from - f.first in
    let back : drop d h.front ≡ ready ++ h.admitted.rest = sym (unseen_own from (slice_index cut from) f.first cut h.front f.row refl) ∙ h.admitted.prefix in
    each_front (ItemFits setup) ready h.admitted.rest (subst (AllByRecursion (ItemFits setup)) back (each_dropped (ItemFits setup) d h.front f.fits))

-- ---- ready items

-- the front of ready items is ready, and those behind are once it was applied
pub ready_front : (cut : List ℕ) (xs ys : List LogItem) → AreReady cut (xs ++ ys) → AreReady cut xs
ready_front cut [] ys h = tt
ready_front cut (x ∷ xs) ys h = (h.0, ready_front (with_item cut x) xs ys h.1)

ready_behind : (cut : List ℕ) (xs ys : List LogItem) → AreReady cut (xs ++ ys) → AreReady (cut_after cut xs) ys
ready_behind cut [] ys h = h
ready_behind cut (x ∷ xs) ys h = ready_behind (with_item cut x) xs ys h.1

-- nothing is ready behind an item that is stuck
none_ready : (cut : List ℕ) (rest : List LogItem) (i : ℕ) (item : LogItem) → slice_get rest i ≡ Some item → AreReady cut (take (i + 1) rest) → IsStuck cut rest → ⊥
none_ready cut [] i item there ready stuck = absurd cc
none_ready cut (y ∷ rest) i item there ready stuck =
    let one : i + 1 ≡ suc i = omega arith in
    let all : AreReady cut (y ∷ take i rest) = subst (λ k. AreReady cut (take k (y ∷ rest))) one ready in
    stuck all.0

take_behind : (xs ys : List LogItem) (j i : ℕ) → j ≡ length xs + i → take j (xs ++ ys) ≡ xs ++ take i ys
take_behind [] ys j i is = ap (λ k. take k ys) (let same : j ≡ i = omega (arith, is) in same)
take_behind (x ∷ xs) ys zero i is = absurd (omega (arith, is))
take_behind (x ∷ xs) ys (suc j) i is = ap (λ (l : List LogItem). x ∷ l) (take_behind xs ys j i (omega (arith, is)))

-- so no item behind those that are admitted can be applied
stuck_behind : (cut : List ℕ) (front ready : List LogItem) (j i : ℕ) (item : LogItem) → (h : AreAdmitted cut front ready) → slice_get h.rest i ≡ Some item → slice_get (ready ++ h.rest) j ≡ Some item → j ≡ length ready + i
    → AreReady cut (take j (ready ++ h.rest) ++ item ∷ []) → ⊥
stuck_behind cut front ready j i item h there here at all =
    let next : take (j + 1) (ready ++ h.rest) ≡ take j (ready ++ h.rest) ++ item ∷ [] = take_at (ready ++ h.rest) j item here in
    let parts : take (j + 1) (ready ++ h.rest) ≡ ready ++ take (i + 1) h.rest = take_behind ready h.rest (j + 1) (i + 1) (omega (arith, at)) in
    none_ready (cut_after cut ready) h.rest i item there (ready_behind cut ready (take (i + 1) h.rest) (subst (AreReady cut) (sym next ∙ parts) all)) h.longest

-- ---- what can be accepted

-- which of the first items of a front weren't seen
unseen_front : (cut : List ℕ) (from first : ℕ) (front ready : List LogItem) (k j : ℕ) → AreInRow from first front → (h : AreAdmitted cut front ready) → j ≡ k - (slice_index cut from - first) → unseen cut (take k front) ≡ take j (ready ++ h.rest)
unseen_front cut from first front ready k j row h at =
    let c : ℕ = slice_index cut from in
    let d : ℕ = c - first in
    let back : drop d front ≡ ready ++ h.rest = sym (unseen_own from c first cut front row refl) ∙ h.prefix in
    unseen_own from c first cut (take k front) (row_taken from first k front row) refl ∙ drop_take front d k ∙ ap (take (k - d)) back ∙ ap (λ n. take n (ready ++ h.rest)) (sym at)

-- the item behind those that were seen
item_behind : (cut : List ℕ) (from first : ℕ) (front ready : List LogItem) (k j : ℕ) → AreInRow from first front → (h : AreAdmitted cut front ready) → k ≡ (slice_index cut from - first) + j → slice_get (ready ++ h.rest) j ≡ slice_get front k
item_behind cut from first front ready k j row h at =
    let c : ℕ = slice_index cut from in
    let d : ℕ = c - first in
    let back : drop d front ≡ ready ++ h.rest = sym (unseen_own from c first cut front row refl) ∙ h.prefix in
    ap (λ (l : List LogItem). slice_get l j) (sym back) ∙ get_drop d front j ∙ ap (slice_get front) (sym at)

-- each item of a front can be accepted, where so many of those that are ready can: all of them, or those before it
can_accept_at : (setup : Setup) (v : View) (from first : ℕ) (front ready : List LogItem) (n k : ℕ) (item : LogItem) → AreInRow from first front → AreAdmitted v.cut front ready → CanJoin setup v from ready n
    → (k < (slice_index v.cut from - first) + n) ⊎ (n ≡ length ready) → slice_get front k ≡ Some item → CanAccept setup v from (take k front) item
can_accept_at setup v from first front ready n k item row h can so there new all =
    let c : ℕ = slice_index v.cut from in
    let d : ℕ = c - first in
    let place = own_at from first front k item row there in
    let counted : slice_index v.cut item.origin ≡ c = ap (slice_index v.cut) place.0 in
    let later : slice_index v.cut item.origin ≤ item.index = ltb-false item.index (slice_index v.cut item.origin) new in
    let j : ℕ = k - d in
    let at : k ≡ d + j = omega (arith, counted, later, place.1) in
    let here : slice_get (ready ++ h.rest) j ≡ Some item = item_behind v.cut from first front ready k j row h at ∙ there in
    let before : unseen v.cut (take k front) ≡ take j (ready ++ h.rest) = unseen_front v.cut from first front ready k j row h refl in
    elim (get_append ready h.rest j item here) [
      | inl in_ready ↦
          let within = slice_get_within ready j item in_ready in
          let same : take j (ready ++ h.rest) ≡ take j ready = take_front ready h.rest j (omega (arith, within)) in
          let less : j < n = elim so [ inl few ↦ omega (arith, few, at) | inr whole ↦ omega (arith, within, whole) ] in
          subst (λ (l : List LogItem). JoinsAfter setup v from l item.body) (sym (before ∙ same)) (can.each j item less in_ready)
      | inr behind ↦ absurd (stuck_behind v.cut front ready j behind.0 item h behind.1 here behind.2 (subst (λ (l : List LogItem). AreReady v.cut (l ++ item ∷ [])) before all))
    ]

-- ---- what is heeded

-- items that are heeded, so many of which are applied
pub record HeedsSome (setup : Setup) (v : View) (from : ℕ) (items applied : List LogItem) : Type 0 where
  pub heeded : List LogItem
  pub are : AreHeeded setup v from items heeded
  pub admitted : AreAdmitted v.cut heeded applied

-- all in front are heeded where all that are ready can be accepted
heeds_front : (setup : Setup) (v : View) (from n : ℕ) (items ready : List LogItem) → AreReadyOf setup v.cut from items ready → CanJoin setup v from ready n → n ≡ length ready → HeedsSome setup v from items (take n ready)
heeds_front setup v from n items ready h can whole =
    let f = h.is_front in record {
      heeded = h.front;
      are = record {
        rest = f.rest;
        front = f.whole;
        may = record { first = f.first; row = f.row; fits = f.fits; accepted = λ k item there. can_accept_at setup v from f.first h.front ready n k item f.row h.admitted can (inr whole) there };
        longest = λ item behind is may. f.longest item behind may.first is may.row (each_at (ItemFits setup) (h.front ++ item ∷ []) (length h.front) item may.fits (get_last h.front item (length h.front) refl));
      };
      admitted = subst (AreAdmitted v.cut h.front) (sym (take_all n ready (omega (arith, whole)))) h.admitted;
    }

first_is : (x y : LogItem) (xs ys : List LogItem) → x ∷ xs ≡ y ∷ ys → x ≡ y
first_is x y xs ys h = cc

-- else those up to the first that can't
heeds_less : (setup : Setup) (v : View) (from n : ℕ) (items ready : List LogItem) (x : LogItem) → AreReadyOf setup v.cut from items ready → CanJoin setup v from ready n → slice_get ready n ≡ Some x → (JoinsAfter setup v from (take n ready) x.body → ⊥)
    → HeedsSome setup v from items (take n ready)
heeds_less setup v from n items ready x h can there stuck =
    let f = h.is_front in
    let a = h.admitted in
    let front : List LogItem = h.front in
    let c : ℕ = slice_index v.cut from in
    let d : ℕ = c - f.first in
    let m : ℕ = d + n in
    let heeded : List LogItem = take m front in
    let at : slice_get front m ≡ Some x = sym (item_behind v.cut from f.first front ready m n f.row a refl) ∙ get_front ready a.rest n x there in
    let within = slice_get_within front m x at in
    let long : length heeded ≡ m = omega (arith, length-take m front, within) in
    let in_ready = slice_get_within ready n x there in
    let before : unseen v.cut heeded ≡ take n ready = unseen_front v.cut from f.first front ready m n f.row a (omega arith) ∙ take_front ready a.rest n (omega (arith, in_ready)) in
    let next : AreReady v.cut (take n ready ++ x ∷ []) = subst (AreReady v.cut) (take_at ready n x there) (ready_front v.cut (take (n + 1) ready) (drop (n + 1) ready) (subst (AreReady v.cut) (sym (take-append-drop (n + 1) ready)) a.ready)) in
    let place = own_at from f.first front m x f.row at in
    let counted : slice_index v.cut x.origin ≡ c = ap (slice_index v.cut) place.0 in
    let new : nat_lt x.index (slice_index v.cut x.origin) ≡ false = le-ltb x.index (slice_index v.cut x.origin) (omega (arith, counted, place.1)) in
    record {
      heeded = heeded;
      are = record {
        rest = drop m front ++ f.rest;
        front = f.whole ∙ ap (λ (l : List LogItem). l ++ f.rest) (sym (take-append-drop m front)) ∙ append_assoc heeded (drop m front) f.rest;
        may = record {
          first = f.first;
          row = row_taken from f.first m front f.row;
          fits = each_take (ItemFits setup) m front f.fits;
          accepted = λ k item here.
              let lt : k < m = (let some = slice_get_within heeded k item here in omega (arith, some, long)) in
              subst (λ (l : List LogItem). CanAccept setup v from l item) (sym (take_less front k m (omega (arith, lt))))
              (can_accept_at setup v from f.first front ready n k item f.row a can (inl lt) (sym (get_take m front k lt) ∙ here));
        };
        longest = λ item behind is may.
            let same : x ≡ item = first_is x item (drop (m + 1) front ++ f.rest) behind (ap (λ (l : List LogItem). l ++ f.rest) (sym (drop_from front m x at)) ∙ is) in
            let may' : MayApply setup v from (heeded ++ x ∷ []) = subst (λ (i : LogItem). MayApply setup v from (heeded ++ i ∷ [])) (sym same) may in
            let up_to : take m (heeded ++ x ∷ []) ≡ heeded = take_front heeded (x ∷ []) m (omega (arith, long)) ∙ take_less front m m (omega arith) in
            let accepts : CanAccept setup v from heeded x = subst (λ (l : List LogItem). CanAccept setup v from l x) up_to (may'.accepted m x (get_last heeded x m (sym long))) in
            stuck (subst (λ (l : List LogItem). JoinsAfter setup v from l x.body) before (accepts new (subst (λ (l : List LogItem). AreReady v.cut (l ++ x ∷ [])) (sym before) next)));
      };
      admitted = record {
        rest = [];
        prefix = before ∙ sym (append-nil (take n ready));
        ready = ready_front v.cut (take n ready) (x ∷ []) next;
        longest = tt;
      };
    }

some_at : (xs : List LogItem) (n : ℕ) → n < length xs → (x : LogItem) × (slice_get xs n ≡ Some x)
some_at [] n lt = absurd (omega (arith, lt))
some_at (x ∷ xs) zero lt = (x, refl)
some_at (x ∷ xs) (suc n) lt = some_at xs n (omega (arith, lt))

-- so where so many can be accepted, and the next can't be, that is what is heeded
pub heeds_some : (setup : Setup) (v : View) (from n : ℕ) (items ready : List LogItem) → AreReadyOf setup v.cut from items ready → CanJoin setup v from ready n
    → ((x : LogItem) → slice_get ready n ≡ Some x → JoinsAfter setup v from (take n ready) x.body → ⊥) → HeedsSome setup v from items (take n ready)
heeds_some setup v from n items ready h can stuck = elim (cases_lt n (length ready)) [
  | inl less ↦ let next = some_at ready n less in heeds_less setup v from n items ready next.0 h can next.1 (stuck next.0 next.1)
  | inr all ↦ heeds_front setup v from n items ready h can (omega (arith, all, can.within))
]
