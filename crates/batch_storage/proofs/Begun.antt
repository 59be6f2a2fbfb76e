-- What a start makes of what was kept.
use Rattle.std.proofs.Common.{◌≡◌, ◌⊎◌, inl, inr, ℕ, ◌+◌, ◌*◌, ◌≤◌, List, [], ◌∷◌, ◌++◌, length, take, drop, Option, Some, Result, Ok, Err, sym, ap, subst, ◌∙◌, append_assoc, arith, length-append}
use Rattle.std.proofs.lemmas.List.{append_cancel_left, take-append-drop}
use Rattle.std.specs.Prelude.{IfOk, OnErr, IsSomeAnd}
use Rattle.ind_disk.specs.Disk.{LeavesOnly}
use Rattle.run_model.specs.declared.batch.Batch.{Batch}
use Rattle.rights_journal.specs.Reading.{known_and}
use Rattle.rights_journal.proofs.Moments.{leaves_now}
use Rattle.batch_storage.specs.Found.{IsWith, IsFound}
use Rattle.run_model.specs.Worlds.{Running, Up, Down}
use Rattle.batch_storage.specs.Kept.{KeepsFound, StillKeeps}
use Rattle.batch_storage.specs.Held.{IsStored, IsLeft, IsHeld, held_where}
use Rattle.batch_storage.specs.declared.storage.Found.{Found}
use Rattle.batch_storage.specs.declared.storage.Found.TheVariants as found
use Rattle.batch_storage.specs.declared.held.Held.{Held}
use Rattle.batch_storage.specs.declared.held.Held.TheVariants as held
use Rattle.ind_base.specs.declared.refusal.NoMemory.{NoMemory}

module _ (stands_for : List Batch → List ℕ → Type 0) (kept : List Batch) (pending : Option Batch) (bytes : List ℕ) (left : IsLeft stands_for kept pending bytes) where
  -- the bytes stand for nothing else
  pub one_of : (started : List Batch) → ((xs ys : List Batch) → stands_for xs bytes → stands_for ys bytes → xs ≡ ys) → stands_for started bytes → (started ≡ kept) ⊎ IsWith started kept pending
  one_of started once stands = subst (λ (l : List Batch). (l ≡ kept) ⊎ IsWith l kept pending) (once left.one.0 started left.one.2 stands) left.one.1

  -- nor is anything else left by a start that fails
  pub still_left : {D : Type 0} (moment : D → ℕ) (left_since : D → ℕ → List ℕ → Type 0) (old new : D) (may_leave : List ℕ → Type 0) (fresh : ℕ)
      → ((t : ℕ) (c : List ℕ) → t ≤ moment new → may_leave c → left_since new t c)
      → ((batches : List Batch) → stands_for batches bytes → LeavesOnly moment left_since old new (stands_for batches))
      → ((longest : ℕ) → fresh ≤ longest → length bytes ≤ longest → LeavesOnly moment left_since old new (λ c. length c ≤ longest))
      → fresh ≤ 64 + 7000 → (c : List ℕ) → may_leave c → IsLeft stands_for kept pending c
  still_left moment left_since old new may_leave fresh counts_now stands short room c now = record {
    one = (left.one.0, left.one.1, leaves_now moment left_since old new may_leave (stands_for left.one.0) counts_now (stands left.one.0 left.one.2) c now);
    short = leaves_now moment left_since old new may_leave (λ b. length b ≤ 64 + 7000 * (length kept + 1)) counts_now (short (64 + 7000 * (length kept + 1)) (omega (arith, room)) left.short) c now;
  }

  -- the batches that are found are no fewer
  pub stored : (finished : List Batch → List ℕ → Type 0) (started : List Batch) (new_bytes : List ℕ) → (started ≡ kept) ⊎ IsWith started kept pending → finished started new_bytes
      → length new_bytes ≤ 64 + 7000 * (length kept + 1) → IsStored finished started new_bytes
  stored finished started new_bytes (inl same) fin short = record { whole = fin; short = omega (arith, short, ap length same) }
  stored finished started new_bytes (inr (batch, is, more)) fin short = record { whole = fin; short = omega (arith, short, ap length more, length-append kept (batch ∷ [])) }

-- what stands behind those that are known and the same tells what all of them are
pub all_found : (same : ℕ) (others kept : List Batch) (pending : Option Batch) (f : Found) → IsFound others (drop same kept) pending f → IsFound (known_and same kept others) kept pending f
all_found same others kept pending found.Without is = ap (λ (l : List Batch). take same kept ++ l) is ∙ take-append-drop same kept
all_found same others kept pending found.With (batch, pends, is) =
    (batch, pends, ap (λ (l : List Batch). take same kept ++ l) is ∙ sym (append_assoc (take same kept) (drop same kept) (batch ∷ [])) ∙ ap (λ (l : List Batch). l ++ batch ∷ []) (take-append-drop same kept))
all_found same others kept pending found.Broken is = neither
  where
    neither : (known_and same kept others ≡ kept) ⊎ IsWith (known_and same kept others) kept pending → ⊥
    neither (inl all) = is (inl (append_cancel_left (take same kept) others (drop same kept) (all ∙ sym (take-append-drop same kept))))
    neither (inr (batch, pends, all)) =
        is (inr (batch, pends, append_cancel_left (take same kept) others (drop same kept ++ batch ∷ []) (all ∙ ap (λ (l : List Batch). l ++ batch ∷ []) (sym (take-append-drop same kept)) ∙ append_assoc (take same kept) (drop same kept) (batch ∷ []))))

module _ {J D : Type 0} (disk_of : J → D) (j : J) where
  -- what a start found is kept
  pub found_keeps : (up : List Batch → J → Type 0) (down : List Batch → D → Option Batch → Type 0) (h : Held J D) (started kept : List Batch) (pending : Option Batch) (f : Found)
      → h ≡ held_where disk_of j f → IsFound started kept pending f
      → ((started ≡ kept) ⊎ IsWith started kept pending → up started j)
      → (((started ≡ kept) ⊎ IsWith started kept pending → ⊥) → down kept (disk_of j) pending)
      → KeepsFound (λ batches running. IsHeld (up batches) (down batches) running h) kept pending f
  found_keeps up down h started kept pending found.Broken is other ups downs =
      subst (λ (x : Held J D). KeepsFound (λ batches running. IsHeld (up batches) (down batches) running x) kept pending found.Broken) (sym is) (downs other)
  found_keeps up down h started kept pending found.Without is same ups downs =
      subst (λ (x : Held J D). KeepsFound (λ batches running. IsHeld (up batches) (down batches) running x) kept pending found.Without) (sym is) (subst (λ (l : List Batch). up l j) same (ups (inl same)))
  found_keeps up down h started kept pending found.With is more ups downs =
      subst (λ (x : Held J D). KeepsFound (λ batches running. IsHeld (up batches) (down batches) running x) kept pending found.With) (sym is) (more.0, more.1, subst (λ (l : List Batch). up l j) more.2 (ups (inr more)))

-- a start that found all broken leaves the disk alone
pub if_broken : {J D : Type 0} (r : Result Found NoMemory) (up : List Batch → J → Type 0) (down : List Batch → D → Option Batch → Type 0) (d : D) (kept : List Batch) (pending : Option Batch)
    → IfOk r (λ f. f ≡ found.Broken) → down kept d pending → IfOk r (KeepsFound (λ batches running. IsHeld (up batches) (down batches) running (held.Disk d)) kept pending)
if_broken (Ok f) up down d kept pending is here = subst (KeepsFound (λ batches running. IsHeld (up batches) (down batches) running (held.Disk d)) kept pending) (sym is) here
if_broken (Err e) up down d kept pending is here = tt

pub on_err : {T E P : Type 0} (r : Result T E) → P → OnErr r P
on_err (Ok x) p = tt
on_err (Err e) p = p

-- a refusal that has P has what follows from that
pub err_more : {T E P Q : Type 0} (r : Result T E) → (P → Q) → OnErr r P → OnErr r Q
err_more (Ok x) more p = tt
err_more (Err e) more p = more p

-- of a disk alone, nothing is kept of a replica that is up
pub still_running : {J D : Type 0} (up : List Batch → J → Type 0) (down : List Batch → D → Option Batch → Type 0) (batches : List Batch) (d : D) (h : Held J D) (running : Running)
    → ((next : Option Batch) → down batches d next → IsHeld (λ j. ⊥) (down batches) (Down next) h)
    → IsHeld (up batches) (down batches) running (held.Disk d) → IsHeld (up batches) (down batches) running h
still_running up down batches d h Up kept here = absurd here
still_running up down batches d (held.Journal j) (Down next) kept here = kept next here
still_running up down batches d (held.Disk e) (Down next) kept here = kept next here

-- a disk that is kept through a refusal is kept as the whole storage
pub still_down : {J D : Type 0} (r : Result Found NoMemory) (up : List Batch → J → Type 0) (down : List Batch → D → Option Batch → Type 0) (was : Option (Held J D)) (d : D) (h : Held J D)
    → was ≡ Some (held.Disk d) → OnErr r ((batches : List Batch) (next : Option Batch) → down batches d next → IsHeld (λ j. ⊥) (down batches) (Down next) h)
    → OnErr r (StillKeeps (λ batches running. IsSomeAnd was (IsHeld (up batches) (down batches) running)) (λ batches running. IsSomeAnd (Some h) (IsHeld (up batches) (down batches) running)))
still_down {J} {D} (Ok f) up down was d h is kept = tt
still_down {J} {D} (Err e) up down was d h is kept = λ batches running here. still_running up down batches d h running (kept batches) (subst (λ (o : Option (Held J D)). IsSomeAnd o (IsHeld (up batches) (down batches) running)) is here)
