-- Each list of bytes is one thing to a journal.
use Rattle.std.proofs.Common.{◌≡◌, inl, inr, ℕ, List, [], ◌∷◌, ◌++◌, length, get_or, drop, sym, ◌∙◌, ap, arith}
use Rattle.rights_journal.specs.Image.{magic, opened, IsFinished, IsUnfinished, IsBroken, StandsFor, IsForeign}
use Rattle.rights_journal.specs.Law.{IsOneThing}
use Rattle.rights_journal.proofs.Frames.{same_opened, begins}
use Rattle.run_model.specs.declared.batch.Batch.{Batch}

-- an unfinished journal has no open header with a gate
pub not_headed : (c : List ℕ) (gate : ℕ) (more : List ℕ) → IsUnfinished c → c ≡ (1 ∷ magic) ++ gate ∷ more → ⊥
not_headed c gate more (inl short) is = omega (arith, short, ap length is)
not_headed c gate more (inr (inl (rest, zero_first, short))) is = omega (arith, ap (λ (l : List ℕ). get_or l 0 0) (sym zero_first ∙ is))
not_headed c gate more (inr (inr (first, last, ten, other, shut))) is = other (ap (λ (l : List ℕ). get_or l 0 0) (sym ten ∙ is))

-- the header and a gate before the frames' bytes
pub headed : (replicas : ℕ) (bs : List Batch) (g : ℕ) (x c : List ℕ) → c ≡ opened replicas bs ++ g ∷ x → (gate : ℕ) × (more : List ℕ) × (c ≡ (1 ∷ magic) ++ gate ∷ more)
headed replicas bs g x c is =
    let first = begins replicas bs g x in
    (first.0, first.1, is ∙ ap (λ (l : List ℕ). (1 ∷ magic) ++ l) first.2)

gate_at : (front : List ℕ) (g h : ℕ) (x y : List ℕ) → front ++ g ∷ x ≡ front ++ h ∷ y → g ≡ h
gate_at [] g h x y same = ap (λ (l : List ℕ). get_or l 0 0) same
gate_at (f ∷ front) g h x y same = gate_at front g h x y (ap (λ (l : List ℕ). drop 1 l) same)

module _ (replicas : ℕ) (c : List ℕ) where
  pub finished_once : (xs bs : List Batch) → IsFinished replicas xs c → IsFinished replicas bs c → xs ≡ bs
  finished_once xs bs a b = same_opened replicas xs bs a.gate b.gate a.rest b.rest a.each b.each (λ one. absurd (a.closed one)) (λ one. absurd (b.closed one)) (sym a.bytes ∙ b.bytes)

  not_broken : (xs : List Batch) (p : ℕ) → IsFinished replicas xs c → IsBroken replicas p c → ⊥
  not_broken xs p a b =
      let same = same_opened replicas xs b.batches a.gate 1 a.rest b.rest a.each b.each (λ one. absurd (a.closed one)) (λ one. b.nothing) (sym a.bytes ∙ b.bytes) in
      let gates : a.gate ≡ 1 = gate_at (opened replicas xs) a.gate 1 a.rest b.rest (sym a.bytes ∙ b.bytes ∙ ap (λ (l : List Batch). opened replicas l ++ 1 ∷ b.rest) (sym same)) in
      a.closed gates

  pub is_one_thing : IsOneThing replicas c
  is_one_thing = record { batches = batches; place = place; never_both = never_both }
    where
      batches : (xs bs : List Batch) → StandsFor replicas xs c → StandsFor replicas bs c → xs ≡ bs
      batches xs bs (inl a) (inl b) = a.1 ∙ sym b.1
      batches xs bs (inl a) (inr b) = let h = headed replicas bs b.gate b.rest c b.bytes in absurd (not_headed c h.0 h.1 a.0 h.2)
      batches xs bs (inr a) (inl b) = let h = headed replicas xs a.gate a.rest c a.bytes in absurd (not_headed c h.0 h.1 b.0 h.2)
      batches xs bs (inr a) (inr b) = finished_once xs bs a b

      place : (p q : ℕ) → IsForeign replicas p c → IsForeign replicas q c → p ≡ q
      place p q (inl a) (inl b) = a.0 ∙ sym b.0
      place p q (inl a) (inr b) = let h = headed replicas b.batches 1 b.rest c b.bytes in absurd (a.2 h.0 h.1 h.2)
      place p q (inr a) (inl b) = let h = headed replicas a.batches 1 a.rest c a.bytes in absurd (b.2 h.0 h.1 h.2)
      place p q (inr a) (inr b) =
          let same = same_opened replicas a.batches b.batches 1 1 a.rest b.rest a.each b.each (λ one. a.nothing) (λ one. b.nothing) (sym a.bytes ∙ b.bytes) in
          a.place ∙ ap (λ (l : List Batch). length (opened replicas l)) same ∙ sym b.place

      never_both : (xs : List Batch) (p : ℕ) → StandsFor replicas xs c → IsForeign replicas p c → ⊥
      never_both xs p (inl a) (inl b) = b.1 a.0
      never_both xs p (inl a) (inr b) = let h = headed replicas b.batches 1 b.rest c b.bytes in not_headed c h.0 h.1 a.0 h.2
      never_both xs p (inr a) (inl b) = let h = headed replicas xs a.gate a.rest c a.bytes in b.2 h.0 h.1 h.2
      never_both xs p (inr a) (inr b) = not_broken xs p a b
