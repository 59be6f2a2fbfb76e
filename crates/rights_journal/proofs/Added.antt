-- A journal while a batch is added to it.
use Rattle.std.proofs.Common.{◌≡◌, ◌≢◌, ◌⊎◌, inl, inr, ℕ, ◌+◌, ◌*◌, ◌≤◌, max, List, [], ◌∷◌, ◌++◌, length, ◌∙◌, ap, arith, append_assoc, length-append}
use Rattle.std.specs.List.{AllByRecursion}
use Rattle.std.proofs.lemmas.Bool.{cases_eq}
use Rattle.rights_journal.specs.Image.{sized, opened, IsFinished, IsBetween, IsWithin}
use Rattle.rights_journal.specs.Appending.{framed, IsBeforeOrAfter}
use Rattle.rights_journal.proofs.Frames.{all_push, opened_push, frames_short}
use Rattle.run_model.specs.declared.batch.Batch.{Batch}
use Rattle.rights_journal.specs.Batches.{IsSpelled, text_of}
use Rattle.rights_journal.proofs.Texts.{short}

module _ (replicas : ℕ) (batches : List Batch) (batch : Batch) (each : AllByRecursion (IsSpelled replicas) batches) (here : IsSpelled replicas batch) where
  -- the frame with its closed gate behind an open gate
  pub opens : (more c : List ℕ) → c ≡ opened replicas batches ++ 1 ∷ (framed replicas batch ++ more) → IsFinished replicas (batches ++ batch ∷ []) c
  opens more c is = record {
    gate = 0;
    rest = more;
    bytes = is ∙ ap (λ (l : List ℕ). opened replicas batches ++ 1 ∷ l) (append_assoc (sized (text_of replicas batch)) (0 ∷ []) more) ∙ opened_push replicas batches batch (0 ∷ more);
    closed = omega arith;
    each = all_push (IsSpelled replicas) batches batch each here;
  }

  pub shuts : (gate : ℕ) (more c : List ℕ) → gate ≢ 1 → c ≡ opened replicas batches ++ gate ∷ more → IsFinished replicas batches c
  shuts gate more c closed is = record { gate = gate; rest = more; bytes = is; closed = closed; each = each }

  -- each image between has the batches, or these and the new one
  pub between : (closed longest : ℕ) (c : List ℕ) → closed ≢ 1 → IsBetween (opened replicas batches) closed (framed replicas batch) longest c → IsBeforeOrAfter replicas batches batch c
  between closed longest c shut b = at_gate b.gate
    where
      at_any : (gate : ℕ) (more : List ℕ) → c ≡ opened replicas batches ++ gate ∷ (framed replicas batch ++ more) → IsBeforeOrAfter replicas batches batch c
      at_any gate more is = elim (cases_eq gate 1) [
        | inl one ↦ inr (opens more c (is ∙ ap (λ (n : ℕ). opened replicas batches ++ n ∷ (framed replicas batch ++ more)) one))
        | inr other ↦ inl (shuts gate (framed replicas batch ++ more) c other is)
      ]

      at_gate : ((more : List ℕ) × (c ≡ opened replicas batches ++ closed ∷ more))
          ⊎ ((gate : ℕ) × (more : List ℕ) × (c ≡ opened replicas batches ++ gate ∷ (framed replicas batch ++ more))) → IsBeforeOrAfter replicas batches batch c
      at_gate (inl (more, is)) = inl (shuts closed more c shut is)
      at_gate (inr (gate, more, is)) = at_any gate more is

  -- and it isn't longer than a journal of so many batches and one lost frame
  pub fits : (gate size : ℕ) → gate ≡ length (opened replicas batches) → size ≤ 64 + 7000 * (length batches + 1)
      → max size (gate + 1 + length (framed replicas batch)) ≤ 64 + 7000 * (length batches + 1)
  fits gate size place within =
      omega (arith, place, within, frames_short replicas batches each, (short replicas batch here).1, length-append (sized (text_of replicas batch)) (0 ∷ []))

  pub stays_within : (gate size : ℕ) (old c : List ℕ) → gate ≡ length (opened replicas batches)
      → length c ≤ max (length old) (gate + 1 + length (framed replicas batch)) → IsWithin (length batches) old → IsWithin (length batches) c
  stays_within gate size old c place long within = omega (arith, long, fits gate (length old) place within)
