-- Reading fields from the front of bytes: each gives a value and the bytes behind it, or nothing.
use Rattle.std.specs.Prelude.{◌≡◌, ℕ, zero, suc, List, [], ◌∷◌, length, drop, slice_get, Option, Some, None, Bool, false, nat_lt, nat_le, ◌==◌, ◌&&◌, if◌then◌else◌}
use Rattle.byteorder.specs.Endian.{big_number}
use Rattle.ind_base.specs.declared.span.Span.{Span}
use Rattle.spec_model.specs.declared.log.Body.{Body}
use Rattle.spec_model.specs.declared.log.Body.TheVariants as body
use Rattle.spec_model.specs.declared.log.LogItem.{LogItem}
use Rattle.spec_model.specs.declared.right.Mode.{Mode}
use Rattle.spec_model.specs.declared.right.Mode.TheVariants as mode
use Rattle.spec_model.specs.declared.right.Piece.{Piece}
use Rattle.spec_model.specs.declared.right.Piece.TheVariants as piece
use Rattle.spec_model.specs.declared.right.Right.{Right}
use Rattle.spec_model.specs.declared.right.Right.TheVariants as right

-- what reads a value from the front of bytes
abbrev pub Reader : Type 0 → Type 0
Reader A = List ℕ → Option (A × List ℕ)

infixl 10 ◌>>=◌
abbrev pub ◌>>=◌ : {A B : Type 0} → Option A → (A → Option B) → Option B
None >>= f = None
(Some x) >>= f = f x

-- a cursor over the old bytes gave this value, and stands before the new ones
abbrev pub Reads : {A : Type 0} → Reader A → List ℕ → List ℕ → Option A → Type 0
Reads at old new None = at old ≡ None
Reads at old new (Some x) = at old ≡ Some (x, new)

-- ---- any fields

-- a value, and what follows by it
abbrev pub then_at : {A B : Type 0} → Reader A → (A → Reader B) → Reader B
then_at first second bytes = first bytes >>= λ x. second x.0 x.1

-- a value, made of another
abbrev pub made_at : {A B : Type 0} → (A → B) → Reader A → Reader B
made_at make at = then_at at (λ x rest. Some (make x, rest))

-- two values
abbrev pub both_at : {A B : Type 0} → Reader A → Reader B → Reader (A × B)
both_at first second = then_at first (λ x. made_at (λ y. (x, y)) second)

-- a value that passes a test
abbrev pub kept_at : {A : Type 0} → (A → Bool) → Reader A → Reader A
kept_at test at = then_at at (λ x rest. if test x then Some (x, rest) else None)

-- so many values
abbrev pub many_at : {A : Type 0} → Reader A → ℕ → Reader (List A)
many_at at zero bytes = Some ([], bytes)
many_at at (suc n) bytes = at bytes >>= λ x. many_at at n x.1 >>= λ xs. Some (x.0 ∷ xs.0, xs.1)

-- ---- the fields of a batch

-- a number in so many bytes
unfoldable pub number_at : ℕ → Reader ℕ
number_at n bytes = if nat_lt (length bytes) n then None else Some (big_number n bytes, drop n bytes)

-- a number below a bound
abbrev pub below_at : ℕ → Reader ℕ
below_at bound = kept_at (λ n. nat_lt n bound) (number_at 1)

-- up to four values behind their count
abbrev pub few_at : {A : Type 0} → Reader A → Reader (List A)
few_at at = then_at (below_at 5) (many_at at)

abbrev pub args_at : Reader (List ℕ)
args_at = few_at (number_at 2)

abbrev pub span_at : Reader Span
span_at = made_at (λ p. record { lo = p.0; hi = p.1 }) (kept_at (λ p. nat_le p.0 p.1) (both_at (number_at 2) (number_at 2)))

-- a right with this tag and number
abbrev pub right_of : ℕ → ℕ → List ℕ → Reader Right
right_of tag n args rest =
    if tag == 1 then Some (right.Low (record { num = n; args = args }), rest)
    else if tag == 2 then Some (right.High (record { num = n; args = args }), rest)
    else if tag == 3 then Some (right.Lock n args, rest)
    else if tag == 4 then made_at (λ literal. right.Entry n args literal) (number_at 1) rest
    else if tag == 5 then Some (right.Part n args, rest)
    else None

abbrev pub right_at : Reader Right
right_at = then_at (both_at (number_at 1) (both_at (number_at 2) args_at)) (λ p. right_of p.0 p.1.0 p.1.1)

-- at least one, in so many bytes
abbrev pub some_at : ℕ → Reader ℕ
some_at n = kept_at (nat_le 1) (number_at n)

abbrev pub mode_of : ℕ → Mode
mode_of n = if n == 0 then mode.Forbid else mode.Allow

abbrev pub mode_at : Reader Mode
mode_at = made_at mode_of (kept_at (λ n. nat_le n 1) (number_at 1))

abbrev pub count_at : Reader Piece
count_at = made_at piece.Count (some_at 8)

abbrev pub shares_at : Reader Piece
shares_at = made_at (λ p. piece.Shares p.0 p.1) (both_at (some_at 1) mode_at)

abbrev pub piece_at : Right → Reader Piece
piece_at (right.Low cell) = count_at
piece_at (right.High cell) = count_at
piece_at (right.Lock lock key) = shares_at
piece_at (right.Entry clause args literal) = shares_at
piece_at (right.Part part key) = made_at piece.Points span_at

abbrev pub act_at : Reader Body
act_at = made_at (λ p. body.Act (record { op = p.0; args = p.1 })) (both_at (number_at 2) (few_at span_at))

abbrev pub out_at : ℕ → Reader Body
out_at replicas = then_at (both_at (below_at replicas) right_at) (λ p. made_at (body.Out p.0 p.1) (piece_at p.1))

abbrev pub accept_at : ℕ → Reader Body
accept_at replicas = made_at (λ p. body.Accept p.0 p.1) (both_at (below_at replicas) (number_at 4))

-- a body of this kind
abbrev pub body_of : ℕ → ℕ → Reader Body
body_of replicas kind rest =
    if kind == 1 then act_at rest
    else if kind == 2 then out_at replicas rest
    else if kind == 3 then accept_at replicas rest
    else None

abbrev pub body_at : ℕ → Reader Body
body_at replicas = then_at (number_at 1) (body_of replicas)

-- a count of so many, where there is one
abbrev pub is_count : ℕ → Option ℕ → Bool
is_count n None = false
is_count n (Some count) = count == n

-- where an item stands: its origin, its index, and a past with as many items of its origin
abbrev pub place_at : ℕ → Reader ((ℕ × ℕ) × List ℕ)
place_at replicas = kept_at (λ p. is_count p.0.1 (slice_get p.1 p.0.0)) (both_at (both_at (below_at replicas) (number_at 4)) (many_at (number_at 4) replicas))

abbrev pub item_at : ℕ → Reader LogItem
item_at replicas = made_at (λ p. record { origin = p.0.0.0; index = p.0.0.1; deps = p.0.1; body = p.1 }) (both_at (place_at replicas) (body_at replicas))

-- the counts of items and of replicas
abbrev pub counts_at : Reader (ℕ × ℕ)
counts_at = kept_at (λ p. nat_le 1 p.0 && nat_le p.0 40 && nat_le 1 p.1 && nat_le p.1 8) (both_at (number_at 2) (number_at 1))

-- all items, and nothing behind them
abbrev pub batch_at : List ℕ → Option (List LogItem)
batch_at bytes = then_at counts_at (λ p. many_at (item_at p.1) p.0) bytes >>= λ x. if length x.1 == 0 then Some x.0 else None
