-- How an answer is finished.
use Rattle.std.specs.Prelude.{◌≡◌, ◌⊎◌, ℕ, ◌≤◌, List, length, take, codes, Result, Ok, Err}
use Rattle.std.specs.declared.option.Option.{Option}
use Rattle.std.specs.Io.KnownBytes.{Appends, Keeps}
use Rattle.ind_io.specs.Causes.{Rose}
use Rattle.ind_io.specs.declared.stream.ReadAllError.{ReadAllError}
use Rattle.ind_io.specs.declared.stream.ReadAllError.TheVariants as errors
use Rattle.plan_answers.specs.declared.answer.Answer.{Answer}

-- the text is out and the status is answered, or the sink failed, a front is out and 5 is answered
abbrev pub Finishes : Option (List ℕ) → Option (List ℕ) → ℕ → ℕ → List ℕ → ℕ → ℕ → Type 0
Finishes old new before now text status result =
    ((result ≡ status) × Appends old new text)
    ⊎ ((result ≡ 5) × Rose before now × ((n : ℕ) × (n ≤ length text) × Appends old new (take n text)))

-- where an input wasn't read to its end it is told why, but nothing for want of memory
abbrev pub IsUnread : ReadAllError → Option (List ℕ) → Option (List ℕ) → ℕ → ℕ → ℕ → Type 0
IsUnread errors.Fault old new before now result = Finishes old new before now (codes "read fault\n") 4 result
IsUnread errors.TooLong old new before now result = Finishes old new before now (codes "input too long\n") 6 result
IsUnread errors.Memory old new before now result = (result ≡ 9) × Keeps old new

-- a reply is finished, and nothing is written where there was no memory for one
abbrev pub IsConcluded : {E : Type 0} → Result Answer E → Option (List ℕ) → Option (List ℕ) → ℕ → ℕ → ℕ → Type 0
IsConcluded (Ok reply) old new before now result = Finishes old new before now reply.text reply.status result
IsConcluded (Err e) old new before now result = (result ≡ 9) × Keeps old new
