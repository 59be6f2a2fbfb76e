-- Levels of a lock, and what its shares permit.
use Rattle.std.specs.Prelude.{ℕ, Bool, true, false, ◌==◌, ◌&&◌, ◌||◌, nat_lt}
use Rattle.spec_model.specs.declared.right.Level.{Level}
use Rattle.spec_model.specs.declared.right.Level.TheVariants as level
use Rattle.spec_model.specs.declared.right.Mode.{Mode}
use Rattle.spec_model.specs.declared.right.Mode.TheVariants as mode

-- a share in this mode permits the level
abbrev pub mode_permits : Mode → Level → Bool
mode_permits mode.Forbid level.Forbid = true
mode_permits mode.Allow level.Allow = true
mode_permits _ _ = false

-- one share permits the level of its mode, all shares permit every level
abbrev pub permits : ℕ → ℕ → Mode → Level → Bool
permits all have m l = (have == all) || (nat_lt 0 have && mode_permits m l)

-- acting at a shared level sets its mode, exclusive leaves the mode
abbrev pub mode_set : Mode → Level → Mode
mode_set m level.Forbid = mode.Forbid
mode_set m level.Allow = mode.Allow
mode_set m level.Exclusive = m
