-- The room of a store's logs.
use Rattle.std.proofs.Common.{◌≡◌, ◌≢◌, inl, inr, ℕ, zero, suc, ◌+◌, ◌-◌, ◌<◌, ◌≤◌, Bool, true, false, cond, List, [], ◌∷◌, ◌++◌, length, filter, map, get_or, refl, sym, ap, subst, ◌∙◌, arith, eq-eqb, ne_eqb}
use Rattle.std.specs.Prelude.{slice_get, slice_set, Option, Some, vec_capacity, ◌==◌}
use Rattle.std.specs.Global.{Vec}
use Rattle.std.specs.Option.{option_map_or}
use Rattle.std.specs.List.{AllByRecursion}
use Rattle.std.proofs.lemmas.List.{length_push, map-set}
use Rattle.std.proofs.lemmas.Bool.{cases_eq, cond-true, cond-false}
use Rattle.spec_model.specs.declared.log.LogItem.{LogItem}
use Rattle.std.proofs.lemmas.Option.{same_Some, slice_get_within}
use Rattle.run_model.specs.Logs.{Logs, log_at}
use Rattle.run_model.proofs.Lists.{get_set_same}

-- the same log has the same items, as a part of the store's logs
pub log_of : (logs : List (Vec LogItem)) (i : ℕ) (log : Vec LogItem) → slice_get logs i ≡ Some log → log_at (map (λ l. l.items) logs) i ≡ log.items
log_of [] i log is = absurd cc
log_of (x ∷ logs) zero log is = ap (λ (l : Vec LogItem). l.items) (same_Some x log is)
log_of (x ∷ logs) (suc i) log is = log_of logs i log is

-- where each of at most so many items has room for so many in its log, there is room for all
pub room_for_all : (room : ℕ → ℕ) (items : List LogItem) (n origin : ℕ) → AllByRecursion (λ item. n ≤ room item.origin) items → length items ≤ n → length (filter (λ (i : LogItem). i.origin == origin) items) ≤ room origin
room_for_all room [] n origin all few = omega arith
room_for_all room (x ∷ items) n origin all few =
    elim (cases_eq x.origin origin) [
      | inl same ↦
          let here : n ≤ room origin = subst (λ i. n ≤ room i) same all.0 in
          let short = filtered_short (λ (i : LogItem). i.origin == origin) (x ∷ items) in
          omega (arith, here, short, few)
      | inr other ↦
          let rest = room_for_all room items n origin all.1 (omega (arith, few)) in
          let is = cond-false (x.origin == origin) (x ∷ filter (λ (i : LogItem). i.origin == origin) items) (filter (λ (i : LogItem). i.origin == origin) items) (ne_eqb x.origin origin other) in
          omega (arith, rest, ap length is)
    ]
  where
    filtered_short : (p : LogItem → Bool) (xs : List LogItem) → length (filter p xs) ≤ length xs
    filtered_short p [] = omega arith
    filtered_short p (y ∷ xs) = let rest = filtered_short p xs in by_test (p y) rest
      where
        by_test : (b : Bool) → length (filter p xs) ≤ length xs → length (cond b (y ∷ filter p xs) (filter p xs)) ≤ length (y ∷ xs)
        by_test true rest = omega (arith, rest)
        by_test false rest = omega (arith, rest)

get_other : {X : Type 0} (xs : List X) (i j : ℕ) (x : X) → j ≢ i → slice_get (slice_set xs i x) j ≡ slice_get xs j
get_other [] i j x ne = refl
get_other (y ∷ xs) zero zero x ne = absurd (ne refl)
get_other (y ∷ xs) zero (suc j) x ne = refl
get_other (y ∷ xs) (suc i) zero x ne = refl
get_other (y ∷ xs) (suc i) (suc j) x ne = get_other xs i j x (λ same. ne (ap suc same))

-- the room of a log
abbrev pub room_of : Option (Vec LogItem) → ℕ
room_of o = option_map_or (λ (l : Vec LogItem). vec_capacity l - length l.items) o 0

-- once an item was put at the end of its log there is room for the others
pub room_left : (logs : List (Vec LogItem)) (item : LogItem) (log more : Vec LogItem) (items : List LogItem) → slice_get logs item.origin ≡ Some log → more.items ≡ log.items ++ item ∷ [] → vec_capacity log ≤ vec_capacity more
    → ((origin : ℕ) → length (filter (λ (i : LogItem). i.origin == origin) (item ∷ items)) ≤ room_of (slice_get logs origin)) → (origin : ℕ) → length (filter (λ (i : LogItem). i.origin == origin) items) ≤ room_of (slice_get (slice_set logs item.origin more) origin)
room_left logs item log more items there pushed grown room origin =
    let rest : List LogItem = filter (λ (i : LogItem). i.origin == origin) items in
    let was = room origin in
    elim (cases_eq origin item.origin) [
      | inl same ↦
          let first : length (filter (λ (i : LogItem). i.origin == origin) (item ∷ items)) ≡ suc (length rest) = ap length (cond-true (item.origin == origin) (item ∷ rest) rest (eq-eqb item.origin origin (sym same))) in
          let before : room_of (slice_get logs origin) ≡ vec_capacity log - length log.items = ap (λ i. room_of (slice_get logs i)) same ∙ ap room_of there in
          let after : room_of (slice_get (slice_set logs item.origin more) origin) ≡ vec_capacity more - length more.items = ap (λ i. room_of (slice_get (slice_set logs item.origin more) i)) same ∙ ap room_of (get_set_same logs item.origin more (slice_get_within logs item.origin log there)) in
          omega (arith, was, first, before, after, grown, ap length pushed, length_push log.items item)
      | inr other ↦
          let first : length (filter (λ (i : LogItem). i.origin == origin) (item ∷ items)) ≡ length rest = ap length (cond-false (item.origin == origin) (item ∷ rest) rest (ne_eqb item.origin origin (λ same. other (sym same)))) in
          let after = ap room_of (get_other logs item.origin origin more other) in
          omega (arith, was, first, after)
    ]

pub log_there : (logs : List (Vec LogItem)) (i : ℕ) (log : Vec LogItem) → i < length logs → log ≡ get_or logs i log → slice_get logs i ≡ Some log
log_there [] i log lt is = absurd (omega (arith, lt))
log_there (x ∷ logs) zero log lt is = ap (λ (l : Vec LogItem). Some l) (sym is)
log_there (x ∷ logs) (suc i) log lt is = log_there logs i log (omega (arith, lt)) is

-- a log with more room has the same items
pub same_items : (logs : List (Vec LogItem)) (i : ℕ) (log more : Vec LogItem) → slice_get logs i ≡ Some log → more.items ≡ log.items → map (λ l. l.items) (slice_set logs i more) ≡ map (λ l. l.items) logs
same_items [] i log more there is = refl
same_items (x ∷ logs) zero log more there is = ap (λ (l : List LogItem). l ∷ map (λ (m : Vec LogItem). m.items) logs) (is ∙ sym (ap (λ (l : Vec LogItem). l.items) (same_Some x log there)))
same_items (x ∷ logs) (suc i) log more there is = ap (λ (ls : Logs). x.items ∷ ls) (same_items logs i log more there is)

pub more_room : (logs : List (Vec LogItem)) (i : ℕ) (log more : Vec LogItem) → slice_get logs i ≡ Some log → more.items ≡ log.items → vec_capacity log ≤ vec_capacity more → (j : ℕ) → room_of (slice_get logs j) ≤ room_of (slice_get (slice_set logs i more) j)
more_room logs i log more there is grown j =
    elim (cases_eq j i) [
      | inl same ↦
          let before : room_of (slice_get logs j) ≡ vec_capacity log - length log.items = ap (λ k. room_of (slice_get logs k)) same ∙ ap room_of there in
          let after : room_of (slice_get (slice_set logs i more) j) ≡ vec_capacity more - length more.items = ap (λ k. room_of (slice_get (slice_set logs i more) k)) same ∙ ap room_of (get_set_same logs i more (slice_get_within logs i log there)) in
          omega (arith, before, after, grown, ap length is)
      | inr other ↦ let after = ap room_of (get_other logs i j more other) in omega (arith, after)
    ]

pub room_made : (logs : List (Vec LogItem)) (i count : ℕ) (log more : Vec LogItem) → slice_get logs i ≡ Some log → length more.items + count ≤ vec_capacity more → count ≤ room_of (slice_get (slice_set logs i more) i)
room_made logs i count log more there room = let after = ap room_of (get_set_same logs i more (slice_get_within logs i log there)) in omega (arith, after, room)

-- a log with an item that has room
pub has_room : (logs : List (Vec LogItem)) (i : ℕ) (log : Vec LogItem) → slice_get logs i ≡ Some log → 0 < room_of (slice_get logs i) → length log.items < vec_capacity log
has_room logs i log there room = let is = ap room_of there in omega (arith, is, room)

-- one more item at the end of a log
pub pushed_on : (logs : List (Vec LogItem)) (i : ℕ) (log more : Vec LogItem) (x : LogItem) → slice_get logs i ≡ Some log → more.items ≡ log.items ++ x ∷ []
    → map (λ l. l.items) (slice_set logs i more) ≡ slice_set (map (λ l. l.items) logs) i (log_at (map (λ l. l.items) logs) i ++ x ∷ [])
pushed_on logs i log more x there is = map-set (λ (l : Vec LogItem). l.items) logs i more ∙ ap (slice_set (map (λ (l : Vec LogItem). l.items) logs) i) (is ∙ ap (λ (l : List LogItem). l ++ x ∷ []) (sym (log_of logs i log there)))

pub first_room : (logs : List (Vec LogItem)) (item : LogItem) (items : List LogItem) → length (filter (λ (i : LogItem). i.origin == item.origin) (item ∷ items)) ≤ room_of (slice_get logs item.origin) → 0 < room_of (slice_get logs item.origin)
first_room logs item items room =
    let rest : List LogItem = filter (λ (i : LogItem). i.origin == item.origin) items in
    let first : length (filter (λ (i : LogItem). i.origin == item.origin) (item ∷ items)) ≡ suc (length rest) = ap length (cond-true (item.origin == item.origin) (item ∷ rest) rest (eq-eqb item.origin item.origin refl)) in
    omega (arith, room, first)
