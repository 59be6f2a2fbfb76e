-- When a fault of something outside may be answered, and how calls and faults are counted.
use Rattle.std.specs.Prelude.{◌≡◌, ℕ, ◌+◌, ◌-◌, ◌^◌, ◌≤◌, min, Result, OnErr, OnOk, IsErrOf}

-- a count goes up by one, and stands still at the last value of a counter
abbrev pub Counts : ℕ → ℕ → Type 0
Counts before now = now ≡ min (before + 1) (2 ^ 64 - 1)

-- the count rose, or stands at the last value of a counter
abbrev pub Rose : ℕ → ℕ → Type 0
Rose before now = min (before + 1) (2 ^ 64 - 1) ≤ now

-- a fault is answered only where the count rose, and the count stays where none is
pub record HasCause {T E : Type 0} (before now : ℕ) (result : Result T E) : Type 0 where
  pub later : before ≤ now
  pub failed : OnErr result (Rose before now)
  pub kept : OnOk result (now ≡ before)

-- of several refusals this one is answered only where the count rose, and the count stays at all other answers
pub record HasFault {T E : Type 0} (before now : ℕ) (result : Result T E) (fault : E) : Type 0 where
  pub later : before ≤ now
  pub failed : IsErrOf result fault → Rose before now
  pub kept : ¬ IsErrOf result fault → now ≡ before
