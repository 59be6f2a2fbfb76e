-- Each list of bytes is one thing to a journal.
use Rattle.std.specs.Prelude.{◌≡◌, ℕ, List}
use Rattle.rights_journal.specs.Image.{StandsFor, IsForeign}
use Rattle.run_model.specs.declared.batch.Batch.{Batch}

-- it stands for one list of batches or is foreign at one place, and not both
pub record IsOneThing (replicas : ℕ) (c : List ℕ) : Type 0 where
  pub batches : (xs bs : List Batch) → StandsFor replicas xs c → StandsFor replicas bs c → xs ≡ bs
  pub place : (p q : ℕ) → IsForeign replicas p c → IsForeign replicas q c → p ≡ q
  pub never_both : (xs : List Batch) (p : ℕ) → StandsFor replicas xs c → IsForeign replicas p c → ⊥
