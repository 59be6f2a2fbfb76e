-- What a stored frame makes of a journal.
use Rattle.std.proofs.Common.{◌≡◌, ℕ, ◌+◌, ◌*◌, ◌≤◌, max, List, [], ◌∷◌, ◌++◌, length, refl, sym, ◌∙◌, ap, subst, arith, length-append, true, false}
use Rattle.std.specs.Prelude.{Bool, IsTrue}
use Rattle.ind_disk.specs.Disk.{LeavesOnly}
use Rattle.rights_journal.specs.Image.{sized, opened, IsFinished, IsBetween, IsWithin}
use Rattle.rights_journal.specs.Reading.{IsRead}
use Rattle.rights_journal.specs.Appending.{framed, IsBeforeOrAfter}
use Rattle.rights_journal.proofs.Moments.{weaker}
use Rattle.rights_journal.proofs.Frames.{opened_push}
use Rattle.rights_journal.proofs.Once.{finished_once}
use Rattle.rights_journal.proofs.Added.{opens, between, fits, stays_within}
use Rattle.run_model.specs.declared.batch.Batch.{Batch}
use Rattle.rights_journal.specs.Batches.{IsSpelled, text_of}

pub not_true : (b : Bool) → (IsTrue b → ⊥) → b ≡ false
not_true true no_way = absurd (no_way refl)
not_true false no_way = refl

module _ (replicas : ℕ)
    (batch : Batch) (here : IsSpelled replicas batch) (gate : ℕ) (frame bytes : List ℕ) (is : frame ≡ framed replicas batch) where
  -- the closed gate of a finished journal is the one that was found
  pub found_at : (batches found : List Batch) → IsFinished replicas batches bytes → IsRead replicas found gate bytes → length (opened replicas batches) ≡ gate
  found_at batches found fin read = ap (λ (l : List Batch). length (opened replicas l)) (finished_once replicas bytes batches found fin read.0) ∙ sym read.1

  -- a crash at any moment
  pub stored_moments : {D : Type 0} (moment : D → ℕ) (left_since : D → ℕ → List ℕ → Type 0) (old new : D) (longest : ℕ) (batches found : List Batch)
      → IsFinished replicas batches bytes → IsRead replicas found gate bytes
      → ((front rest : List ℕ) (closed : ℕ) → length front ≡ gate → bytes ≡ front ++ closed ∷ rest → LeavesOnly moment left_since old new (IsBetween front closed frame longest))
      → LeavesOnly moment left_since old new (IsBeforeOrAfter replicas batches batch)
  stored_moments moment left_since old new longest batches found fin read run =
      weaker moment left_since old new (IsBetween (opened replicas batches) fin.gate frame longest) (IsBeforeOrAfter replicas batches batch)
      (λ c b. between replicas batches batch fin.each here fin.gate longest c fin.closed (subst (λ (f : List ℕ). IsBetween (opened replicas batches) fin.gate f longest c) is b))
      (run (opened replicas batches) fin.rest fin.gate (found_at batches found fin read) fin.bytes)

  longest_within : (batches found : List Batch) → IsFinished replicas batches bytes → IsRead replicas found gate bytes → (size : ℕ) → size ≡ length bytes → IsWithin (length batches) bytes
      → (c : List ℕ) → length c ≤ max size (gate + 1 + length frame) → IsWithin (length batches) c
  longest_within batches found fin read size sizes within c long =
      stays_within replicas batches batch fin.each here gate size bytes c (sym (found_at batches found fin read)) (omega (arith, long, sizes, ap length is)) within

  -- no crash leaves more
  pub stored_within : {D : Type 0} (moment : D → ℕ) (left_since : D → ℕ → List ℕ → Type 0) (old new : D) (size : ℕ) (batches found : List Batch)
      → IsFinished replicas batches bytes → IsRead replicas found gate bytes → size ≡ length bytes → IsWithin (length batches) bytes
      → ((front rest : List ℕ) (closed : ℕ) → length front ≡ gate → bytes ≡ front ++ closed ∷ rest → LeavesOnly moment left_since old new (IsBetween front closed frame (max size (gate + 1 + length frame))))
      → LeavesOnly moment left_since old new (IsWithin (length batches))
  stored_within moment left_since old new size batches found fin read sizes within run =
      weaker moment left_since old new (IsBetween (opened replicas batches) fin.gate frame (max size (gate + 1 + length frame))) (IsWithin (length batches))
      (λ c b. longest_within batches found fin read size sizes within c b.size)
      (run (opened replicas batches) fin.rest fin.gate (found_at batches found fin read) fin.bytes)

  -- and so it is at the end
  pub ends_within : (batches found : List Batch) → IsFinished replicas batches bytes → IsRead replicas found gate bytes → (size new_size : ℕ) (new_bytes : List ℕ) → size ≡ length bytes
      → IsWithin (length batches) bytes → new_size ≡ max size (gate + 1 + length frame) → length new_bytes ≡ new_size → IsWithin (length batches) new_bytes
  ends_within batches found fin read size new_size new_bytes sizes within grown counts = longest_within batches found fin read size sizes within new_bytes (omega (arith, grown, counts))

  -- nor is the size with one batch more
  pub adds_little : (batches found : List Batch) → IsFinished replicas batches bytes → IsRead replicas found gate bytes → (size : ℕ) → size ≡ length bytes → IsWithin (length batches) bytes
      → max size (gate + 1 + length frame) ≤ 64 + 7000 * (length batches + 2)
  adds_little batches found fin read size sizes within =
      omega (arith, sizes, ap length is, fits replicas batches batch fin.each here gate (length bytes) (sym (found_at batches found fin read)) within)

  -- at the end
  pub stored_added : (new_bytes : List ℕ) (batches found : List Batch) → IsFinished replicas batches bytes → IsRead replicas found gate bytes
      → ((front rest : List ℕ) (closed : ℕ) → length front ≡ gate → bytes ≡ front ++ closed ∷ rest → (more : List ℕ) × (new_bytes ≡ front ++ 1 ∷ (frame ++ more)))
      → IsFinished replicas (batches ++ batch ∷ []) new_bytes
  stored_added new_bytes batches found fin read run =
      let end = run (opened replicas batches) fin.rest fin.gate (found_at batches found fin read) fin.bytes in
      opens replicas batches batch fin.each here end.0 new_bytes (end.1 ∙ ap (λ (f : List ℕ). opened replicas batches ++ 1 ∷ (f ++ end.0)) is)

  -- the next gate
  pub next_gate : (found : List Batch) → gate ≡ length (opened replicas found) → gate + length frame ≡ length (opened replicas (found ++ batch ∷ []))
  next_gate found place =
      omega (
        arith,
        place,
        ap length is,
        length-append (sized (text_of replicas batch)) (0 ∷ []),
        ap length (opened_push replicas found batch []),
        length-append (opened replicas found) (1 ∷ (sized (text_of replicas batch) ++ [])),
        length-append (sized (text_of replicas batch)) [],
        length-append (opened replicas (found ++ batch ∷ [])) [],
      )

  pub stored_read : (new_bytes : List ℕ) (found : List Batch) → IsRead replicas found gate bytes
      → ((front rest : List ℕ) (closed : ℕ) → length front ≡ gate → bytes ≡ front ++ closed ∷ rest → (more : List ℕ) × (new_bytes ≡ front ++ 1 ∷ (frame ++ more)))
      → IsRead replicas (found ++ batch ∷ []) (gate + length frame) new_bytes
  stored_read new_bytes found read run = (stored_added new_bytes found found read.0 read run, next_gate found read.1)
