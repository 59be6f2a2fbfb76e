-- How many asks come to a desk, and in which lists.
use Rattle.std.proofs.Common.{◌≡◌, ◌==◌, ◌<◌, ◌≤◌, ◌+◌, ℕ, List, [], ◌∷◌, ◌++◌, Bool, true, false, cond, map, filter, length, take, drop, sum_by, ap, ◌∙◌, refl, subst, arith}
use Rattle.std.proofs.lemmas.Grind.{common_steps}
use Rattle.std.proofs.lemmas.Option.{gets}
use Rattle.std.proofs.lemmas.Bool.Decides.{nat_tests}
use Rattle.std.proofs.lemmas.List.Sums.{sum_by-cons, sum_by-append}
use lib.ListN.{get_or}
use Rattle.desk_workers.specs.declared.worker.Worker.{Worker}
use Rattle.desk_workers.specs.Workers.{lists_at, asks_at}

lists_step : {A : Type 0} (b : Bool) (w : Worker A) (some more all : List (Worker A)) → map (λ (w : Worker A). w.asks) all ≡ map (λ (w : Worker A). w.asks) some ++ map (λ (w : Worker A). w.asks) more
    → map (λ (w : Worker A). w.asks) (cond b (w ∷ all) all) ≡ map (λ (w : Worker A). w.asks) (cond b (w ∷ some) some) ++ map (λ (w : Worker A). w.asks) more
lists_step true w some more all h = ap (λ lists. w.asks ∷ lists) h
lists_step false w some more all h = h

-- the lists of some workers and of others
pub lists_at-append : {A : Type 0} (desk : ℕ) (some more : List (Worker A)) → lists_at desk (some ++ more) ≡ lists_at desk some ++ lists_at desk more
lists_at-append desk [] more = refl
lists_at-append {A = A} desk (w ∷ some) more =
    let keep : Worker A → Bool = λ w. w.desk == desk in
    lists_step (w.desk == desk) w (filter keep some) (filter keep more) (filter keep (some ++ more)) (lists_at-append desk some more)

-- one list, or none
pub sum_one : {A : Type 0} (b : Bool) (w : Worker A) (some : List (Worker A)) → sum_by length (map (λ (w : Worker A). w.asks) (cond b (w ∷ some) some)) ≡ cond b (length w.asks) 0 + sum_by length (map (λ (w : Worker A). w.asks) some)
sum_one true w some = sum_by-cons length w.asks (map (λ w. w.asks) some)
sum_one false w some = omega arith

pub asks_at-cons : {A : Type 0} (desk : ℕ) (w : Worker A) (workers : List (Worker A)) → asks_at desk (w ∷ workers) ≡ cond (w.desk == desk) (length w.asks) 0 + asks_at desk workers
asks_at-cons {A = A} desk w workers = sum_one (w.desk == desk) w (filter (λ (w : Worker A). w.desk == desk) workers)

pub asks_at-append : {A : Type 0} (desk : ℕ) (some more : List (Worker A)) → asks_at desk (some ++ more) ≡ asks_at desk some + asks_at desk more
asks_at-append {A = A} desk some more = ap (λ (lists : List (List A)). sum_by length lists) (lists_at-append desk some more) ∙ sum_by-append length (lists_at desk some) (lists_at desk more)

-- one worker more, of those that there are
pub asks_at_next : {A : Type 0} (desk : ℕ) (some rest workers : List (Worker A)) (w : Worker A) → some ++ w ∷ rest ≡ workers
    → (asks_at desk (some ++ w ∷ []) ≡ asks_at desk some + cond (w.desk == desk) (length w.asks) 0)
    × (asks_at desk some + cond (w.desk == desk) (length w.asks) 0 ≤ asks_at desk workers)
asks_at_next {A = A} desk some rest workers w is =
    let all = ap (λ (ws : List (Worker A)). asks_at desk ws) is in
    let parts = asks_at-append desk some (w ∷ rest) in
    let one = asks_at-append desk some (w ∷ []) in
    let none : asks_at {A = A} desk [] ≡ 0 = refl in
    (omega (arith, one, asks_at-cons desk w [], none), omega (arith, all, parts, asks_at-cons desk w rest))

pub asks_at_step : {A : Type 0} (desk i : ℕ) (workers : List (Worker A)) (w : Worker A) → i < length workers → w ≡ get_or workers i w
    → (asks_at desk (take (i + 1) workers) ≡ asks_at desk (take i workers) + cond (w.desk == desk) (length w.asks) 0)
    × (asks_at desk (take i workers) + cond (w.desk == desk) (length w.asks) 0 ≤ asks_at desk workers)
asks_at_step {A = A} desk i workers w within is =
    let longer : take (i + 1) workers ≡ take i workers ++ w ∷ [] = grind (arith, common_steps, gets) in
    let whole : take (i + 1) workers ++ drop (i + 1) workers ≡ workers = grind (arith, common_steps) in
    let all = ap (λ (ws : List (Worker A)). asks_at desk ws) whole in
    let parts = asks_at-append desk (take (i + 1) workers) (drop (i + 1) workers) in
    let more = ap (λ (ws : List (Worker A)). asks_at desk ws) longer in
    let one = asks_at-append desk (take i workers) (w ∷ []) in
    let none : asks_at {A = A} desk [] ≡ 0 = refl in
    (omega (arith, more, one, asks_at-cons desk w [], none), omega (arith, more, one, asks_at-cons desk w [], none, all, parts))

-- the asks so far and those of this worker are among all
pub asks_at_here : {A : Type 0} (desk i : ℕ) (workers : List (Worker A)) (w : Worker A) → i < length workers → w ≡ get_or workers i w → (w.desk == desk) ≡ true
    → asks_at desk (take i workers) + length w.asks ≤ asks_at desk workers
asks_at_here desk i workers w within is here = subst (λ b. asks_at desk (take i workers) + cond b (length w.asks) 0 ≤ asks_at desk workers) here (asks_at_step desk i workers w within is).1

-- the worker's own desk, and another
pub asks_at_own : {A : Type 0} (some rest workers : List (Worker A)) (w : Worker A) → some ++ w ∷ rest ≡ workers
    → (asks_at w.desk (some ++ w ∷ []) ≡ asks_at w.desk some + length w.asks) × (asks_at w.desk some + length w.asks ≤ asks_at w.desk workers)
asks_at_own some rest workers w is =
    let e : (w.desk == w.desk) ≡ true = grind (arith, nat_tests) in
    subst (λ b. (asks_at w.desk (some ++ w ∷ []) ≡ asks_at w.desk some + cond b (length w.asks) 0) × (asks_at w.desk some + cond b (length w.asks) 0 ≤ asks_at w.desk workers)) e (asks_at_next w.desk some rest workers w is)

pub asks_at_other : {A : Type 0} (k : ℕ) (some : List (Worker A)) (w : Worker A) → (k ≡ w.desk → ⊥) → asks_at k (some ++ w ∷ []) ≡ asks_at k some
asks_at_other k some w apart =
    let e : (w.desk == k) ≡ false = grind (arith, nat_tests) in
    let h = subst (λ b. asks_at k (some ++ w ∷ []) ≡ asks_at k some + cond b (length w.asks) 0) e (asks_at_next k some [] (some ++ w ∷ []) w refl).0 in
    omega (arith, h)

-- a worker without asks adds none
pub asks_at_idle : {A : Type 0} (k : ℕ) (some : List (Worker A)) (w : Worker A) → length w.asks ≡ 0 → asks_at k (some ++ w ∷ []) ≡ asks_at k some
asks_at_idle k some w none = idle (w.desk == k) (asks_at_next k some [] (some ++ w ∷ []) w refl).0 where
  idle : (b : Bool) → asks_at k (some ++ w ∷ []) ≡ asks_at k some + cond b (length w.asks) 0 → asks_at k (some ++ w ∷ []) ≡ asks_at k some
  idle true h = omega (arith, h, none)
  idle false h = omega (arith, h)
