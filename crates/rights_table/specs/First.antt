-- What a replica holds of a right at the start.
use Rattle.std.specs.Prelude.{◌≡◌, true, ℕ}
use Rattle.spec_model.specs.declared.plan.Setup.{Setup}
use Rattle.spec_model.specs.declared.right.Right.{Right}
use Rattle.spec_model.specs.declared.right.Mode.TheVariants as mode
use Rattle.run_model.specs.Rights.{even_share, first_total}
use Rattle.run_model.specs.Points.{first_point}
use Rattle.rights_table.specs.declared.holding.Holding.{Holding}
use Rattle.rights_table.specs.Holdings.{count_of, mode_of, point_of, is_of}

-- the replica's share of a count or of a lock in mode forbid, or its run of points
pub record IsFirst (setup : Setup) (me : ℕ) (r : Right) (h : Holding) : Type 0 where
  pub count : count_of h ≡ even_share (first_total setup r) setup.replicas me
  pub mode : mode_of h ≡ mode.Forbid
  pub points : (x : ℕ) → point_of h x ≡ first_point setup me r x
  pub kind : is_of setup.replicas r h ≡ true

-- the same is held of a right
pub record IsSame (old new : Holding) : Type 0 where
  pub count : count_of new ≡ count_of old
  pub mode : mode_of new ≡ mode_of old
  pub points : (x : ℕ) → point_of new x ≡ point_of old x
  pub kind : (all : ℕ) (r : Right) → is_of all r old ≡ true → is_of all r new ≡ true

-- it is of the kind of some right
abbrev pub IsOfSome : Holding → Type 0
IsOfSome h = (all : ℕ) × (r : Right) × (is_of all r h ≡ true)
