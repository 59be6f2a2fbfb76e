-- The room of each link.
use Rattle.std.proofs.Common.{◌≡◌, inl, inr, ℕ, zero, suc, ◌+◌, ◌*◌, ◌<◌, ◌≤◌, List, [], ◌∷◌, All, length, get_or, refl, sym, ap, ◌∙◌, arith}
use Rattle.std.specs.Prelude.{◌==◌}
use Rattle.std.specs.List.{AllByRecursion}
use Rattle.std.proofs.Math.Nat.{mul-suc, mul_comm}
use Rattle.std.proofs.lemmas.Bool.{cases_lt, cond_both, eqb-false, eqb-true}
use Rattle.std.proofs.lemmas.List.{get_or-append-add, get_or_append_left, length-append}
use Rattle.std.proofs.lemmas.List.Elements.{All-from_recursion}
use Rattle.std.proofs.lemmas.Nat.{mul-add-lt}
use Rattle.run_model.specs.declared.step.Ask.{Ask}
use Rattle.run_model.proofs.Lists.{each_append}
use Rattle.client_asks.specs.Asking.{courier_asks, sends_in}
use Rattle.client_runs.proofs.Asked.{couriers_few}
use Rattle.client_workers.specs.Rooms.{all_rooms, first_rooms, first_rows, room_for}

-- ---- one room

room_some : (asks : List Ask) (to : ℕ) → 0 < room_for asks to
room_some asks to =
    cond_both (sends_in to asks == 0) 1 (sends_in to asks) (λ room. 0 < room)
    (λ none. omega arith) (λ some. let not_none = eqb-false (sends_in to asks) 0 some in omega (arith, not_none))

room_enough : (asks : List Ask) (to : ℕ) → sends_in to asks ≤ room_for asks to
room_enough asks to =
    cond_both (sends_in to asks == 0) 1 (sends_in to asks) (λ room. sends_in to asks ≤ room)
    (λ none. let is = eqb-true (sends_in to asks) 0 none in omega (arith, is)) (λ some. omega arith)

-- ---- a row

row_long : (n : ℕ) (asks : List Ask) → length (first_rooms asks n) ≡ n
row_long zero asks = refl
row_long (suc to) asks = let before = row_long to asks in length-append (first_rooms asks to) (room_for asks to ∷ []) ∙ omega (arith, before)

row_some : (n : ℕ) (asks : List Ask) → AllByRecursion (λ room. 0 < room) (first_rooms asks n)
row_some zero asks = tt
row_some (suc to) asks = each_append (λ room. 0 < room) (first_rooms asks to) (room_for asks to ∷ []) (row_some to asks) (room_some asks to, tt)

row_at : (n : ℕ) (asks : List Ask) (to : ℕ) → to < n → get_or (first_rooms asks n) to 0 ≡ room_for asks to
row_at zero asks to lt = absurd (omega (arith, lt))
row_at (suc n) asks to lt = elim (cases_lt to n) [
  | inl before ↦
      let within : to < length (first_rooms asks n) = omega (arith, before, row_long n asks) in
      get_or_append_left (first_rooms asks n) (room_for asks n ∷ []) 0 to within ∙ row_at n asks to before
  | inr behind ↦
      let last : n ≡ to = omega (arith, behind, lt) in
      let place : to ≡ length (first_rooms asks n) + 0 = omega (arith, last, row_long n asks) in
      ap (λ k. get_or (first_rooms asks (suc n)) k 0) place ∙ get_or-append-add (first_rooms asks n) (room_for asks n ∷ []) 0 0 ∙ ap (room_for asks) last
]

-- ---- all rows

rows_long : (n replicas turns : ℕ) → length (first_rows replicas turns n) ≡ replicas * n
rows_long zero replicas turns = omega arith
rows_long (suc from) replicas turns =
    let before = rows_long from replicas turns in
    let row = row_long replicas (courier_asks replicas from turns) in
    let more = mul-suc replicas from in
    length-append (first_rows replicas turns from) (first_rooms (courier_asks replicas from turns) replicas) ∙ omega (arith, before, row, more)

rows_some : (n replicas turns : ℕ) → AllByRecursion (λ room. 0 < room) (first_rows replicas turns n)
rows_some zero replicas turns = tt
rows_some (suc from) replicas turns =
    each_append (λ room. 0 < room) (first_rows replicas turns from) (first_rooms (courier_asks replicas from turns) replicas) (rows_some from replicas turns) (row_some replicas (courier_asks replicas from turns))

rows_at : (n replicas turns from to : ℕ) → from < n → to < replicas → get_or (first_rows replicas turns n) (from * replicas + to) 0 ≡ room_for (courier_asks replicas from turns) to
rows_at zero replicas turns from to lt less = absurd (omega (arith, lt))
rows_at (suc n) replicas turns from to lt less = elim (cases_lt from n) [
  | inl before ↦
      let within : from * replicas + to < length (first_rows replicas turns n) = omega (arith, mul-add-lt from replicas to n before less, rows_long n replicas turns) in
      get_or_append_left (first_rows replicas turns n) (first_rooms (courier_asks replicas n turns) replicas) 0 (from * replicas + to) within ∙ rows_at n replicas turns from to before less
  | inr behind ↦
      let last : n ≡ from = omega (arith, behind, lt) in
      let start : from * replicas ≡ n * replicas = ap (λ k. k * replicas) (sym last) in
      let place : from * replicas + to ≡ length (first_rows replicas turns n) + to = omega (arith, start, mul_comm replicas n, rows_long n replicas turns) in
      ap (λ k. get_or (first_rows replicas turns (suc n)) k 0) place
      ∙ get_or-append-add (first_rows replicas turns n) (first_rooms (courier_asks replicas n turns) replicas) to 0
      ∙ row_at replicas (courier_asks replicas n turns) to less
      ∙ ap (λ k. room_for (courier_asks replicas k turns) to) last
]

-- ---- all rooms

pub all_added : (rooms : List ℕ) (from replicas turns : ℕ) → rooms ≡ first_rows replicas turns from → from ≡ replicas → rooms ≡ all_rooms replicas turns
all_added rooms from replicas turns are last = are ∙ ap (λ n. first_rows replicas turns n) last

pub rooms_long : (replicas turns : ℕ) → length (all_rooms replicas turns) ≡ replicas * replicas
rooms_long replicas turns = rows_long replicas replicas turns

pub rooms_some : (replicas turns : ℕ) → All (λ room. 0 < room) (all_rooms replicas turns)
rooms_some replicas turns = All-from_recursion (λ room. 0 < room) (all_rooms replicas turns) (rows_some replicas replicas turns)

pub rooms_enough : (replicas turns from to : ℕ) → from < replicas → to < replicas → sends_in to (courier_asks replicas from turns) ≤ get_or (all_rooms replicas turns) (from * replicas + to) 0
rooms_enough replicas turns from to lt less =
    let enough = room_enough (courier_asks replicas from turns) to in
    let here = rows_at replicas replicas turns from to lt less in
    omega (arith, enough, here)

-- a courier that has few turns asks little
pub asks_few : (replicas me turns : ℕ) (asks : List Ask) → asks ≡ courier_asks replicas me turns → turns ≤ 10000 → length asks ≤ 100000
asks_few replicas me turns asks are few = let long = ap length are in omega (arith, long, couriers_few replicas me turns, few)
