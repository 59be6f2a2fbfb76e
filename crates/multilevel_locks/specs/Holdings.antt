-- What becomes of the shares that are held.
use Rattle.std.specs.Prelude.{◌≡◌, ◌≢◌, ◌+◌, ◌≤◌, ◌==◌, if◌then◌else◌}
use Rattle.spec_model.specs.declared.right.Level.{Level}
use Rattle.multilevel_locks.specs.declared.shares.Shares.{Shares}
use Rattle.multilevel_locks.specs.declared.shares.SharesPiece.{SharesPiece}
use Rattle.multilevel_locks.specs.Shares.{mode_set}

-- a piece that joins them: they are all at most, and of one mode
pub record Joins (held : Shares) (piece : SharesPiece) : Type 0 where
  pub few : held.shares + piece.shares ≤ held.all
  pub one_mode : held.shares ≢ 0 → piece.mode ≡ held.mode

-- without the piece, in the same mode
pub record IsLess (old : Shares) (piece : SharesPiece) (new : Shares) : Type 0 where
  pub shares : new.shares + piece.shares ≡ old.shares
  pub mode : new.mode ≡ old.mode
  pub all : new.all ≡ old.all

-- with the piece; it brings its mode where none were held
pub record IsMore (old : Shares) (piece : SharesPiece) (new : Shares) : Type 0 where
  pub shares : new.shares ≡ old.shares + piece.shares
  pub mode : new.mode ≡ (if old.shares == 0 then piece.mode else old.mode)
  pub all : new.all ≡ old.all

-- acting with all shares sets the mode
abbrev pub acted : Shares → Level → Shares
acted s l = if s.shares == s.all then record s { mode = mode_set s.mode l } else s
