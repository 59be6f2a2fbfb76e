-- Passes that are joined, link by link.
use Rattle.std.specs.Prelude.{◌≡◌, ◌≢◌, ℕ, ◌+◌, ◌<◌, ◌≤◌, List, ◌∷◌, length, drop, slice_get, Some}
use Rattle.run_model.specs.declared.message.Message.{Message}
use Rattle.replica_wires.specs.declared.passes.Passes.{Passes}
use Rattle.replica_wires.specs.declared.settling.Both.{Both}
use Rattle.replica_wires.specs.Beginning.{gets_at, puts_at}
use Rattle.replica_wires.specs.Passing.{AreLeft}

-- the first pass that puts of the one, and the first that gets of the other, are taken out
pub record TakesOut (from me : ℕ) (both : Both) (old new : List Passes) : Type 0 where
  pub whole : length new ≡ length old
  pub puts : puts_at old from ≡ both.put ∷ puts_at new from
  pub other_puts : (a : ℕ) → a ≢ from → puts_at new a ≡ puts_at old a
  pub gets : gets_at old me ≡ both.get ∷ gets_at new me
  pub other_gets : (a : ℕ) → a ≢ me → gets_at new a ≡ gets_at old a

-- all links to the replicas before me are settled, and those to me from the replicas before `from`
pub record IsSettling (me from : ℕ) (all now : List Passes) : Type 0 where
  pub whole : length now ≡ length all
  pub puts_done : (a : ℕ) → a < from → puts_at now a ≡ drop (me + 1) (puts_at all a)
  pub puts_left : (a : ℕ) → from ≤ a → puts_at now a ≡ drop me (puts_at all a)
  pub gets_here : gets_at now me ≡ drop from (gets_at all me)
  pub gets_left : (a : ℕ) → me < a → gets_at now a ≡ gets_at all a

-- what is left for the replicas before me is there
pub record AreSoFar (replicas me : ℕ) (all : List Passes) (left : List (List (List Message))) : Type 0 where
  pub count : length left ≡ me
  pub whole : (k : ℕ) (lists : List (List Message)) → slice_get left k ≡ Some lists → length lists ≡ replicas
  pub each : (k : ℕ) (lists : List (List Message)) → slice_get left k ≡ Some lists → AreLeft all k lists

-- and so is what is left for me from the replicas before `from`
pub record IsJoining (replicas me from : ℕ) (all now : List Passes) (left : List (List (List Message))) (lists : List (List Message)) : Type 0 where
  pub settling : IsSettling me from all now
  pub so_far : AreSoFar replicas me all left
  pub count : length lists ≡ from
  pub are : AreLeft all me lists
