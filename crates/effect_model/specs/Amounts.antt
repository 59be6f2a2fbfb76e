-- How much an instance changes and needs at most.
use Rattle.std.specs.Prelude.{◌≤◌}
use Rattle.spec_model.specs.declared.spec.Spec.{Spec}
use Rattle.spec_model.specs.declared.instance.Cell.{Cell}
use Rattle.spec_model.specs.declared.instance.Inst.{Inst}
use Rattle.spec_model.specs.declared.right.Amount.{Amount}
use Rattle.spec_model.specs.declared.right.Amount.TheVariants as amount
use Rattle.spec_model.specs.declared.right.Need.{Need}
use Rattle.spec_model.specs.Changes.{added, subtracted}
use Rattle.spec_model.specs.Fits.{IsWellFormed}

-- a count from 1 to 16 lines of 10 ^ 9
abbrev pub IsFewOf : Amount → Type 0
IsFewOf (amount.Count n) = (1 ≤ n) × (n ≤ 16000000000)
IsFewOf (amount.Level level) = ⊥
IsFewOf (amount.Points span) = ⊥
IsFewOf (amount.AnyForbid literals) = ⊥

abbrev pub IsFew : Need → Type 0
IsFew need = IsFewOf need.amount

-- an instance adds at most that to a cell, and subtracts at most that
abbrev pub ChangesAreSmall : Type 0
ChangesAreSmall = (spec : Spec) (inst : Inst) (cell : Cell) → IsWellFormed spec → (added spec inst cell ≤ 16000000000) × (subtracted spec inst cell ≤ 16000000000)
