-- The bytes of batches.
use Rattle.std.proofs.Common.{◌≡◌, ℕ, ◌≤◌, ◌<◌, List, [], ◌∷◌, length, refl, sym, ap, subst, ◌∙◌, arith}
use Rattle.spec_model.specs.declared.log.LogItem.{LogItem}
use Rattle.run_model.specs.declared.batch.Batch.{Batch}
use Rattle.op_records.specs.Spelling.{IsBatch, Spells, batch_text}
use Rattle.op_records.proofs.Batches.{spells_one}
use Rattle.op_records.proofs.Lengths.{batch_short, batch_some}
use Rattle.rights_journal.specs.Batches.{IsSpelled, FirstPast, text_of}

-- some bytes, and with their length and a gate at most 7,000
pub short : (replicas : ℕ) (b : Batch) → IsSpelled replicas b → (0 < length (text_of replicas b)) × (length (text_of replicas b) ≤ 6995)
unfolding text_of
short replicas b fine = (batch_some replicas b.items, omega (arith, batch_short replicas b.items fine))

-- two batches have two spellings
pub apart : (replicas : ℕ) (a b : Batch) → IsSpelled replicas a → IsSpelled replicas b → text_of replicas a ≡ text_of replicas b → a ≡ b
unfolding text_of
apart replicas a b fine_a fine_b same =
    let items : a.items ≡ b.items = spells_one (batch_text replicas a.items) a.items b.items (replicas, fine_a, refl) (replicas, fine_b, same) in
    ap (λ (l : List LogItem). record { items = l }) items

pub first_past : (replicas : ℕ) (items : List LogItem) → IsBatch replicas items → FirstPast replicas items
first_past replicas [] fine = absurd (omega (arith, fine.some))
first_past replicas (item ∷ items) fine = fine.each.0.past

pub past_same : (k n : ℕ) (items : List LogItem) → FirstPast k items → FirstPast n items → k ≡ n
past_same k n [] a b = absurd a
past_same k n (item ∷ items) a b = sym a ∙ b

-- bytes of a batch of these replicas
pub spelled : (replicas : ℕ) (bytes : List ℕ) (b : Batch) → Spells bytes b.items → FirstPast replicas b.items → IsSpelled replicas b × (bytes ≡ text_of replicas b)
unfolding text_of
spelled replicas bytes b spells first =
    let same : spells.0 ≡ replicas = past_same spells.0 replicas b.items (first_past spells.0 b.items spells.1) first in
    (subst (λ (n : ℕ). IsBatch n b.items) same spells.1, spells.2 ∙ ap (λ (n : ℕ). batch_text n b.items) same)

-- bytes of a batch of other replicas
pub other : (replicas : ℕ) (bytes : List ℕ) (b : Batch) → Spells bytes b.items → (FirstPast replicas b.items → ⊥) → (c : Batch) → IsSpelled replicas c → bytes ≡ text_of replicas c → ⊥
unfolding text_of
other replicas bytes b spells no_way c fine is =
    let same : c.items ≡ b.items = spells_one bytes c.items b.items (replicas, fine, is) spells in
    no_way (subst (FirstPast replicas) same (first_past replicas c.items fine))

pub nowhere : (replicas : ℕ) (bytes : List ℕ) → ((items : List LogItem) → Spells bytes items → ⊥) → (c : Batch) → IsSpelled replicas c → bytes ≡ text_of replicas c → ⊥
unfolding text_of
nowhere replicas bytes none c fine is = none c.items (replicas, fine, is)
