-- What an append makes of what is kept.
use Rattle.std.proofs.Common.{◌⊎◌, inl, inr, ⊎_elim, ℕ, ◌≤◌, List, [], ◌∷◌, ◌++◌, length, Some, refl}
use Rattle.ind_disk.specs.Disk.{LeavesOnly}
use Rattle.run_model.specs.declared.batch.Batch.{Batch}
use Rattle.rights_journal.specs.Image.{IsWithin}
use Rattle.rights_journal.proofs.Moments.{leaves_now}
use Rattle.batch_storage.specs.Held.{IsLeft}

module _ (batches : List Batch) (batch : Batch) where
  -- what a crash leaves of an append that failed
  pub left : (finished stands_for : List Batch → List ℕ → Type 0) {D : Type 0} (moment : D → ℕ) (left_since : D → ℕ → List ℕ → Type 0) (old new : D) (may_leave : List ℕ → Type 0)
      → ((t : ℕ) (c : List ℕ) → t ≤ moment new → may_leave c → left_since new t c)
      → ((all : List Batch) (c : List ℕ) → finished all c → stands_for all c)
      → LeavesOnly moment left_since old new (λ c. finished batches c ⊎ finished (batches ++ batch ∷ []) c)
      → LeavesOnly moment left_since old new (IsWithin (length batches))
      → (c : List ℕ) → may_leave c → IsLeft stands_for batches (Some batch) c
  left finished stands_for moment left_since old new may_leave counts_now stands run short c now = record {
    one = ⊎_elim (λ fin. (batches, inl refl, stands batches c fin)) (λ fin. (batches ++ batch ∷ [], inr (batch, refl, refl), stands (batches ++ batch ∷ []) c fin))
        (leaves_now moment left_since old new may_leave (λ b. finished batches b ⊎ finished (batches ++ batch ∷ []) b) counts_now run c now);
    short = leaves_now moment left_since old new may_leave (IsWithin (length batches)) counts_now short c now;
  }
