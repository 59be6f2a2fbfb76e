-- The one spelling of a batch of items.
use Rattle.std.specs.Prelude.{◌≡◌, ℕ, ◌<◌, ◌≤◌, ◌^◌, List, ◌++◌, length, slice_get, Some}
use Rattle.std.specs.List.{flat_map, AllByRecursion}
use Rattle.byteorder.specs.Endian.{big_bytes}
use Rattle.ind_base.specs.declared.span.Span.{Span}
use Rattle.spec_model.specs.declared.log.Body.{Body}
use Rattle.spec_model.specs.declared.log.Body.TheVariants as body
use Rattle.spec_model.specs.declared.log.LogItem.{LogItem}
use Rattle.spec_model.specs.declared.right.Mode.{Mode}
use Rattle.spec_model.specs.declared.right.Mode.TheVariants as mode
use Rattle.spec_model.specs.declared.right.Piece.{Piece}
use Rattle.spec_model.specs.declared.right.Piece.TheVariants as piece
use Rattle.spec_model.specs.declared.right.Right.{Right}
use Rattle.spec_model.specs.declared.right.Right.TheVariants as right

-- ---- bytes

-- a number in so many bytes, the highest first
unfoldable pub number : ℕ → ℕ → List ℕ
number bytes n = big_bytes bytes n

-- how many there are, and each in two bytes
abbrev pub args_text : List ℕ → List ℕ
args_text args = number 1 (length args) ++ flat_map (number 2) args

abbrev pub span_text : Span → List ℕ
span_text span = number 2 span.lo ++ number 2 span.hi

abbrev pub spans_text : List Span → List ℕ
spans_text spans = number 1 (length spans) ++ flat_map span_text spans

abbrev pub mode_code : Mode → ℕ
mode_code mode.Forbid = 0
mode_code mode.Allow = 1

-- a tag, a number, arguments or a key, and of an entry its literal
abbrev pub right_text : Right → List ℕ
right_text (right.Low cell) = number 1 1 ++ (number 2 cell.num ++ args_text cell.args)
right_text (right.High cell) = number 1 2 ++ (number 2 cell.num ++ args_text cell.args)
right_text (right.Lock lock key) = number 1 3 ++ (number 2 lock ++ args_text key)
right_text (right.Entry clause args literal) = (number 1 4 ++ (number 2 clause ++ args_text args)) ++ number 1 literal
right_text (right.Part part key) = number 1 5 ++ (number 2 part ++ args_text key)

abbrev pub piece_text : Piece → List ℕ
piece_text (piece.Count n) = number 8 n
piece_text (piece.Shares n m) = number 1 n ++ number 1 (mode_code m)
piece_text (piece.Points span) = span_text span

-- a kind, and what it has
abbrev pub body_text : Body → List ℕ
body_text (body.Act inst) = number 1 1 ++ (number 2 inst.op ++ spans_text inst.args)
body_text (body.Out to r given) = number 1 2 ++ (number 1 to ++ (right_text r ++ piece_text given))
body_text (body.Accept from index) = number 1 3 ++ (number 1 from ++ number 4 index)

-- origin, index, past and body
abbrev pub item_text : LogItem → List ℕ
item_text item = ((number 1 item.origin ++ number 4 item.index) ++ flat_map (number 4) item.deps) ++ body_text item.body

-- how many items and replicas there are, and the items
abbrev pub batch_text : ℕ → List LogItem → List ℕ
batch_text replicas items = (number 2 (length items) ++ number 1 replicas) ++ flat_map item_text items

-- ---- what has a spelling

-- at most four numbers of two bytes
pub record AreArgs (args : List ℕ) : Type 0 where
  pub few : length args ≤ 4
  pub small : AllByRecursion (λ n. n < 2 ^ 16) args

pub record IsSpan (span : Span) : Type 0 where
  pub ordered : span.lo ≤ span.hi
  pub small : span.hi < 2 ^ 16

pub record AreSpans (spans : List Span) : Type 0 where
  pub few : length spans ≤ 4
  pub each : AllByRecursion IsSpan spans

-- a number of two bytes, and arguments
abbrev pub IsNamed : ℕ → List ℕ → Type 0
IsNamed n args = (n < 2 ^ 16) × AreArgs args

abbrev pub IsRight : Right → Type 0
IsRight (right.Low cell) = IsNamed cell.num cell.args
IsRight (right.High cell) = IsNamed cell.num cell.args
IsRight (right.Lock lock key) = IsNamed lock key
IsRight (right.Entry clause args literal) = IsNamed clause args × (literal < 2 ^ 8)
IsRight (right.Part part key) = IsNamed part key

-- at least one, in so many bytes
abbrev pub IsSome : ℕ → ℕ → Type 0
IsSome bytes n = (1 ≤ n) × (n < 256 ^ bytes)

-- a count or shares, at least one, or points
abbrev pub IsPiece : Piece → Type 0
IsPiece (piece.Count n) = IsSome 8 n
IsPiece (piece.Shares n m) = IsSome 1 n
IsPiece (piece.Points span) = IsSpan span

-- counts are of cells, shares of locks and entries, points of partitions
abbrev pub IsOf : Right → Piece → Type 0
IsOf (right.Low cell) (piece.Count n) = Unit {0}
IsOf (right.High cell) (piece.Count n) = Unit {0}
IsOf (right.Lock lock key) (piece.Shares n m) = Unit {0}
IsOf (right.Entry clause args literal) (piece.Shares n m) = Unit {0}
IsOf (right.Part part key) (piece.Points span) = Unit {0}
IsOf r given = ⊥

abbrev pub IsBody : ℕ → Body → Type 0
IsBody replicas (body.Act inst) = (inst.op < 2 ^ 16) × AreSpans inst.args
IsBody replicas (body.Out to r given) = (to < replicas) × IsRight r × IsPiece given × IsOf r given
IsBody replicas (body.Accept from index) = (from < replicas) × (index < 2 ^ 32)

-- an item of one of so many replicas: in its past are just those items of its origin that stand before it
pub record IsItem (replicas : ℕ) (item : LogItem) : Type 0 where
  pub origin : item.origin < replicas
  pub index : item.index < 2 ^ 32
  pub past : length item.deps ≡ replicas
  pub small : AllByRecursion (λ n. n < 2 ^ 32) item.deps
  pub own : slice_get item.deps item.origin ≡ Some item.index
  pub body : IsBody replicas item.body

-- 1 to 40 items of 1 to 8 replicas
pub record IsBatch (replicas : ℕ) (items : List LogItem) : Type 0 where
  pub some : 1 ≤ length items
  pub few : length items ≤ 40
  pub some_replicas : 1 ≤ replicas
  pub few_replicas : replicas ≤ 8
  pub each : AllByRecursion (IsItem replicas) items

-- the bytes are those of a batch with these items
abbrev pub Spells : List ℕ → List LogItem → Type 0
Spells bytes items = (replicas : ℕ) × IsBatch replicas items × (bytes ≡ batch_text replicas items)
