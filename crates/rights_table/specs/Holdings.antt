-- A holding of one right, of any kind.
use Rattle.std.specs.Prelude.{◌≡◌, ℕ, ◌+◌, ◌-◌, ◌<◌, ◌≤◌, ◌^◌, ◌==◌, Bool, true, false, nat_le}
use Rattle.ind_base.specs.declared.span.Span.{Span}
use Rattle.spec_model.specs.declared.right.Right.{Right}
use Rattle.spec_model.specs.declared.right.Right.TheVariants as right
use Rattle.spec_model.specs.declared.right.Mode.{Mode}
use Rattle.spec_model.specs.declared.right.Mode.TheVariants as mode
use Rattle.spec_model.specs.declared.right.Piece.{Piece}
use Rattle.spec_model.specs.declared.right.Piece.TheVariants as piece
use Rattle.spec_model.specs.declared.right.WantAsk.{WantAsk}
use Rattle.spec_model.specs.declared.right.WantAsk.TheVariants as asked
use Rattle.spec_model.specs.declared.right.Held.{Held}
use Rattle.spec_model.specs.declared.right.Held.TheVariants as held
use Rattle.multilevel_locks.specs.declared.shares.SharesPiece.{SharesPiece}
use Rattle.multilevel_locks.specs.Shares as shares
use Rattle.multilevel_locks.specs.Holdings.{Joins, IsLess, IsMore, acted}
use Rattle.partition_locks.specs.Held.{IsFree, held_times, holds, holds_all, is_roomy, point_times}
use Rattle.run_model.specs.Points.{missing_of, run_of}
use Rattle.rights_table.specs.declared.holding.Holding.{Holding}
use Rattle.rights_table.specs.declared.holding.Holding.TheVariants as holding

-- how many are held; points aren't counted
abbrev pub count_of : Holding → ℕ
count_of (holding.Count e) = e.count
count_of (holding.Shares s) = s.shares
count_of (holding.Points h) = 0

-- in which mode; of what has no mode forbid
abbrev pub mode_of : Holding → Mode
mode_of (holding.Count e) = mode.Forbid
mode_of (holding.Shares s) = s.mode
mode_of (holding.Points h) = mode.Forbid

-- how often a point is held
abbrev pub point_of : Holding → ℕ → ℕ
point_of (holding.Count e) x = 0
point_of (holding.Shares s) x = 0
point_of (holding.Points h) x = held_times h x

-- what is told of it: of points those of a span
abbrev pub told : Holding → Span → Held
told (holding.Count e) span = held.Count e.count
told (holding.Shares s) span = held.Shares s.shares s.mode
told (holding.Points h) span = held.Points (missing_of (holds h) span) (run_of (holds h) span)

-- it is of the right's kind: of a cell a count, of a lock or an entry shares of so many, of a partition points, with room for all there can be
abbrev pub is_of : ℕ → Right → Holding → Bool
is_of all (right.Low cell) (holding.Count e) = true
is_of all (right.High cell) (holding.Count e) = true
is_of all (right.Lock lock key) (holding.Shares s) = s.all == all
is_of all (right.Entry clause args literal) (holding.Shares s) = s.all == all
is_of all (right.Part part key) (holding.Points h) = is_roomy h
is_of all _ h = false

abbrev pub is_count : Holding → Bool
is_count (holding.Count e) = true
is_count (holding.Shares s) = false
is_count (holding.Points h) = false

-- ---- what it permits, gives, accepts and spends, as its kind does

abbrev pub permits : Holding → WantAsk → Bool
permits (holding.Count e) (asked.Count n) = nat_le n e.count
permits (holding.Shares s) (asked.Level l) = shares.permits s.all s.shares s.mode l
permits _ _ = false

-- some shares in a mode
abbrev pub in_mode : ℕ → Mode → SharesPiece
in_mode n m = record { shares = n; mode = m }

-- a piece of its kind that is held, of shares in their mode
abbrev pub MayGive : Holding → Piece → Type 0
MayGive (holding.Count e) (piece.Count n) = n ≤ e.count
MayGive (holding.Shares s) (piece.Shares n m) = (m ≡ s.mode) × (n ≤ s.shares)
MayGive (holding.Points h) (piece.Points span) = (is_roomy h ≡ true) × (holds_all h span ≡ true)
MayGive _ _ = ⊥

-- a piece of its kind that joins it
abbrev pub MayAccept : Holding → Piece → Type 0
MayAccept (holding.Count e) (piece.Count n) = e.count + n < 2 ^ 64
MayAccept (holding.Shares s) (piece.Shares n m) = Joins s (in_mode n m)
MayAccept (holding.Points h) (piece.Points span) = (is_roomy h ≡ true) × IsFree h span × (span.hi < 1024)
MayAccept _ _ = ⊥

abbrev pub Given : Holding → Piece → Holding → Type 0
Given (holding.Count e) (piece.Count n) (holding.Count f) = f.count + n ≡ e.count
Given (holding.Shares s) (piece.Shares n m) (holding.Shares t) = IsLess s (in_mode n m) t
Given (holding.Points h) (piece.Points span) (holding.Points k) = (is_roomy k ≡ true) × ((x : ℕ) → held_times h x ≡ held_times k x + point_times span x)
Given _ _ _ = ⊥

abbrev pub Accepted : Holding → Piece → Holding → Type 0
Accepted (holding.Count e) (piece.Count n) (holding.Count f) = f.count ≡ e.count + n
Accepted (holding.Shares s) (piece.Shares n m) (holding.Shares t) = IsMore s (in_mode n m) t
Accepted (holding.Points h) (piece.Points span) (holding.Points k) = (is_roomy k ≡ true) × ((x : ℕ) → held_times k x ≡ held_times h x + point_times span x)
Accepted _ _ _ = ⊥

abbrev pub spent : Holding → WantAsk → Holding
spent (holding.Count e) (asked.Count n) = holding.Count (record { count = e.count - n })
spent (holding.Shares s) (asked.Level l) = holding.Shares (acted s l)
spent h _ = h
