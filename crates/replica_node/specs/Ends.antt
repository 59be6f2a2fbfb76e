-- What calls of a replica's ends do.
use Rattle.std.specs.Prelude.{◌≡◌, ◌≢◌, ℕ, ◌+◌, ◌≤◌, List, [], ◌∷◌, ◌++◌, length, ◌==◌, if◌then◌else◌, Bool, true, false, Option, Some, None}
use Rattle.ind_disk.specs.Disk.{Rises}
use Rattle.run_model.specs.declared.message.Message.{Message}

-- lists of messages, one for each replica

-- one message more of this replica's list
abbrev pub with_one : ℕ → Message → (ℕ → List Message) → ℕ → List Message
with_one peer message lists j = if j == peer then lists j ++ message ∷ [] else lists j

-- the same lists
abbrev pub AreSame : (ℕ → List Message) → (ℕ → List Message) → Type 0
AreSame old new = (j : ℕ) → new j ≡ old j

-- this message stands last in that replica's list, and all others are the same
abbrev pub AddsOne : ℕ → Message → (ℕ → List Message) → (ℕ → List Message) → Type 0
AddsOne peer message old new = (j : ℕ) → new j ≡ with_one peer message old j

-- a put: the message is on its link, or that had no room
abbrev pub Puts : ℕ → Message → Bool → (ℕ → List Message) → (ℕ → List Message) → Type 0
Puts room message true old new = AddsOne message.to message old new
Puts room message false old new = AreSame old new × (room ≤ length (old message.to))

-- a get: the next message of that replica; or none was there
abbrev pub Gets : ℕ → Option Message → (ℕ → List Message) → (ℕ → List Message) → Type 0
Gets from (Some message) old new = (message.from ≡ from) × AddsOne from message old new
Gets from None old new = AreSame old new

-- none was there, and that was counted; else the count is as before
abbrev pub CountsIdle : Option Message → ℕ → ℕ → Type 0
CountsIdle (Some message) old new = new ≡ old
CountsIdle None old new = (old ≤ new) × Rises old new
