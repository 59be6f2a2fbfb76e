-- The tasks of the workers that have asks.
use Rattle.std.proofs.Common.{◌≡◌, ◌==◌, ◌+◌, ℕ, Bool, true, false, cond, List, [], ◌∷◌, map, filter, length, ap, ◌∙◌, sym, refl, subst, arith}
use Rattle.std.proofs.lemmas.List.Sums.{sum_by-cons}
use Rattle.desk_workers.specs.declared.worker.Worker.{Worker}
use Rattle.desk_workers.specs.Interleaving.{Interleaves}
use Rattle.desk_workers.specs.Places.{busy, if_any, lists_to, asks_to}
use Rattle.desk_workers.specs.Workers.{lists_at, asks_at}
use Rattle.desk_workers.proofs.Loads.{asks_at-cons}
use Rattle.desk_workers.proofs.Merging.{merges_after_none}

module _ {A : Type 0} where
  -- a worker's list, which is put in front where it is of this desk
  pub lists_first : (b : Bool) (w : Worker A) (workers : List (Worker A)) → map (λ (w : Worker A). w.asks) (cond b (w ∷ workers) workers) ≡ cond b (w.asks ∷ map (λ (w : Worker A). w.asks) workers) (map (λ (w : Worker A). w.asks) workers)
  lists_first true w workers = refl
  lists_first false w workers = refl

  by_asks : (at desk : ℕ) (asks : List A) (b : Bool) → (desk == at) ≡ b → (tasks : List (ℕ × List A)) (lists : List (List A)) (line : List A)
      → ((l : List A) → Interleaves (lists_to at tasks) l → Interleaves lists l) → Interleaves (lists_to at (if_any desk asks tasks)) line → Interleaves (cond b (asks ∷ lists) lists) line
  by_asks at desk [] true is tasks lists line again h = (line, again line h, merges_after_none line)
  by_asks at desk [] false is tasks lists line again h = again line h
  by_asks at desk (ask ∷ asks) true is tasks lists line again h =
      let own : Interleaves ((ask ∷ asks) ∷ lists_to at tasks) line =
      subst (λ b. Interleaves (map (λ (t : ℕ × List A). t.1) (cond b ((desk, ask ∷ asks) ∷ filter (λ (t : ℕ × List A). t.0 == at) tasks) (filter (λ (t : ℕ × List A). t.0 == at) tasks))) line) is h in
      (own.0, again own.0 own.1, own.2)
  by_asks at desk (ask ∷ asks) false is tasks lists line again h =
      again line (subst (λ b. Interleaves (map (λ (t : ℕ × List A). t.1) (cond b ((desk, ask ∷ asks) ∷ filter (λ (t : ℕ × List A). t.0 == at) tasks) (filter (λ (t : ℕ × List A). t.0 == at) tasks))) line) is h)

  -- the workers without asks change no interleaving
  pub busy_lists : (at : ℕ) (workers : List (Worker A)) (line : List A) → Interleaves (lists_to at (busy workers)) line → Interleaves (lists_at at workers) line
  busy_lists at [] line h = h
  busy_lists at (w ∷ workers) line h =
      subst (λ lists. Interleaves lists line) (sym (lists_first (w.desk == at) w (filter (λ (w : Worker A). w.desk == at) workers)))
      (by_asks at w.desk w.asks (w.desk == at) refl (busy workers) (lists_at at workers) line (λ l. busy_lists at workers l) h)

  by_count : (at desk : ℕ) (asks : List A) (b : Bool) → (desk == at) ≡ b → (tasks : List (ℕ × List A)) → asks_to at (if_any desk asks tasks) ≡ cond b (length asks) 0 + asks_to at tasks
  by_count at desk [] true is tasks = omega arith
  by_count at desk [] false is tasks = omega arith
  by_count at desk (ask ∷ asks) true is tasks = rw is (sum_by-cons length (ask ∷ asks) (lists_to at tasks))
  by_count at desk (ask ∷ asks) false is tasks = rw is (omega arith)

  pub busy_asks : (at : ℕ) (workers : List (Worker A)) → asks_to at (busy workers) ≡ asks_at at workers
  busy_asks at [] = refl
  busy_asks at (w ∷ workers) =
      by_count at w.desk w.asks (w.desk == at) refl (busy workers) ∙ (ap (λ (n : ℕ). cond (w.desk == at) (length w.asks) 0 + n) (busy_asks at workers) ∙ sym (asks_at-cons at w workers))
