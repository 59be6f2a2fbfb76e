-- What is given.
use Rattle.std.specs.Prelude.{Option, Some, None}
use Rattle.spec_model.specs.declared.right.Piece.{Piece}
use Rattle.rights_transfer.specs.declared.answers.Give.{Give}
use Rattle.rights_transfer.specs.declared.answers.Give.TheVariants as give

-- the piece that is given, if one is
abbrev pub given_piece : Give → Option Piece
given_piece give.Nothing = None
given_piece (give.Piece piece) = Some piece
