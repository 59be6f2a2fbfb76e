-- Pieces that a replica can accept.
use Rattle.std.specs.Prelude.{ℕ, Bool, true, false, not, is_some, ◌+◌, ◌^◌, ◌==◌, ◌&&◌, ◌||◌, nat_le}
use Rattle.spec_model.specs.declared.right.Mode.{Mode}
use Rattle.spec_model.specs.declared.right.Mode.TheVariants as mode
use Rattle.spec_model.specs.declared.right.Held.{Held}
use Rattle.spec_model.specs.declared.right.Held.TheVariants as held
use Rattle.spec_model.specs.declared.right.Piece.{Piece}
use Rattle.spec_model.specs.declared.right.Piece.TheVariants as piece

abbrev pub same_mode : Mode → Mode → Bool
same_mode mode.Forbid mode.Forbid = true
same_mode mode.Allow mode.Allow = true
same_mode _ _ = false

-- a piece joins what is held, where so many are all shares: a count of at most 2 ^ 62, at most all shares in one mode, points of which none is held
abbrev pub can_accept : ℕ → Held → Piece → Bool
can_accept all (held.Count have) (piece.Count n) = nat_le (have + n) (2 ^ 62)
can_accept all (held.Shares have m) (piece.Shares n given) = nat_le (have + n) all && (have == 0 || same_mode given m)
can_accept all (held.Points missing run) (piece.Points span) = not (is_some run)
can_accept all _ _ = false
