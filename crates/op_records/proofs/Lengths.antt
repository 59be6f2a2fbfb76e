-- How long the text of a batch can be.
use Rattle.std.proofs.Common.{◌≡◌, ℕ, ◌*◌, ◌≤◌, ◌<◌, List, [], ◌∷◌, ◌++◌, length, ap, arith, length-append}
use Rattle.std.specs.List.{flat_map, AllByRecursion}
use Rattle.std.proofs.lemmas.List.Concat.{flat_map-cons}
use Rattle.byteorder.specs.Numbers.{length-bytes_high_first}
use Rattle.ind_base.specs.declared.span.Span.{Span}
use Rattle.spec_model.specs.declared.log.Body.{Body}
use Rattle.spec_model.specs.declared.log.Body.TheVariants as body
use Rattle.spec_model.specs.declared.log.LogItem.{LogItem}
use Rattle.spec_model.specs.declared.right.Piece.{Piece}
use Rattle.spec_model.specs.declared.right.Piece.TheVariants as piece
use Rattle.spec_model.specs.declared.right.Right.{Right}
use Rattle.spec_model.specs.declared.right.Right.TheVariants as right
use Rattle.op_records.specs.Spelling.{number, args_text, span_text, spans_text, mode_code, right_text, piece_text, body_text, item_text, batch_text, AreArgs, IsRight, IsBody, IsItem, IsBatch}

length-number : (n x : ℕ) → length (number n x) ≡ n
unfolding number
length-number n x = length-bytes_high_first n x

many_short : {A : Type 0} (text : A → List ℕ) (k : ℕ) (xs : List A) → AllByRecursion (λ x. length (text x) ≤ k) xs → length (flat_map text xs) ≤ k * length xs
many_short text k [] all = omega arith
many_short text k (x ∷ xs) all = omega (arith, many_short text k xs all.1, all.0, ap length (flat_map-cons text x xs), length-append (text x) (flat_map text xs))

each : {A : Type 0} {P Q : A → Type 0} → ((x : A) → P x → Q x) → (xs : List A) → AllByRecursion P xs → AllByRecursion Q xs
each f [] all = tt
each f (x ∷ xs) all = (f x all.0, each f xs all.1)

numbers_short : (n : ℕ) (xs : List ℕ) → length (flat_map (number n) xs) ≤ n * length xs
numbers_short n [] = omega arith
numbers_short n (x ∷ xs) = omega (arith, numbers_short n xs, length-number n x, ap length (flat_map-cons (number n) x xs), length-append (number n x) (flat_map (number n) xs))

named_short : (tag n : ℕ) (args : List ℕ) → AreArgs args → length (number 1 tag ++ (number 2 n ++ args_text args)) ≤ 12
named_short tag n args are =
    omega (
      arith,
      length-append (number 1 tag) (number 2 n ++ args_text args),
      length-append (number 2 n) (args_text args),
      length-append (number 1 (length args)) (flat_map (number 2) args),
      length-number 1 tag,
      length-number 2 n,
      length-number 1 (length args),
      numbers_short 2 args,
      are.few,
    )

span_long : (span : Span) → length (span_text span) ≡ 4
span_long span = omega (arith, length-append (number 2 span.lo) (number 2 span.hi), length-number 2 span.lo, length-number 2 span.hi)

spans_short : (spans : List Span) → length (flat_map span_text spans) ≤ 4 * length spans
spans_short [] = omega arith
spans_short (s ∷ spans) = omega (arith, spans_short spans, span_long s, ap length (flat_map-cons span_text s spans), length-append (span_text s) (flat_map span_text spans))

right_short : (r : Right) → IsRight r → length (right_text r) ≤ 13
right_short (right.Low cell) fine = omega (arith, named_short 1 cell.num cell.args fine.1)
right_short (right.High cell) fine = omega (arith, named_short 2 cell.num cell.args fine.1)
right_short (right.Lock lock key) fine = omega (arith, named_short 3 lock key fine.1)
right_short (right.Entry clause args literal) fine =
    omega (arith, named_short 4 clause args fine.0.1, length-append (number 1 4 ++ (number 2 clause ++ args_text args)) (number 1 literal), length-number 1 literal)
right_short (right.Part part key) fine = omega (arith, named_short 5 part key fine.1)

piece_short : (p : Piece) → length (piece_text p) ≤ 8
piece_short (piece.Count n) = omega (arith, length-number 8 n)
piece_short (piece.Shares n m) = omega (arith, length-append (number 1 n) (number 1 (mode_code m)), length-number 1 n, length-number 1 (mode_code m))
piece_short (piece.Points span) = omega (arith, span_long span)

body_short : (replicas : ℕ) (b : Body) → IsBody replicas b → length (body_text b) ≤ 23
body_short replicas (body.Act inst) fine =
    omega (
      arith,
      length-append (number 1 1) (number 2 inst.op ++ spans_text inst.args),
      length-append (number 2 inst.op) (spans_text inst.args),
      length-append (number 1 (length inst.args)) (flat_map span_text inst.args),
      length-number 1 1,
      length-number 2 inst.op,
      length-number 1 (length inst.args),
      spans_short inst.args,
      fine.1.few,
    )
body_short replicas (body.Out to r p) fine =
    omega (
      arith,
      length-append (number 1 2) (number 1 to ++ (right_text r ++ piece_text p)),
      length-append (number 1 to) (right_text r ++ piece_text p),
      length-append (right_text r) (piece_text p),
      length-number 1 2,
      length-number 1 to,
      right_short r fine.1,
      piece_short p,
    )
body_short replicas (body.Accept from index) fine =
    omega (arith, length-append (number 1 3) (number 1 from ++ number 4 index), length-append (number 1 from) (number 4 index), length-number 1 3, length-number 1 from, length-number 4 index)

item_short : (replicas : ℕ) → replicas ≤ 8 → (item : LogItem) → IsItem replicas item → length (item_text item) ≤ 60
item_short replicas few item fine =
    omega (
      arith,
      few,
      length-append ((number 1 item.origin ++ number 4 item.index) ++ flat_map (number 4) item.deps) (body_text item.body),
      length-append (number 1 item.origin ++ number 4 item.index) (flat_map (number 4) item.deps),
      length-append (number 1 item.origin) (number 4 item.index),
      length-number 1 item.origin,
      length-number 4 item.index,
      numbers_short 4 item.deps,
      fine.past,
      body_short replicas item.body fine.body,
    )

pub batch_short : (replicas : ℕ) (items : List LogItem) → IsBatch replicas items → length (batch_text replicas items) ≤ 2403
batch_short replicas items fine =
    omega (
      arith,
      length-append (number 2 (length items) ++ number 1 replicas) (flat_map item_text items),
      length-append (number 2 (length items)) (number 1 replicas),
      length-number 2 (length items),
      length-number 1 replicas,
      many_short item_text 60 items (each (item_short replicas fine.few_replicas) items fine.each),
      fine.few,
    )

pub batch_some : (replicas : ℕ) (items : List LogItem) → 0 < length (batch_text replicas items)
batch_some replicas items =
    omega (arith, length-append (number 2 (length items) ++ number 1 replicas) (flat_map item_text items), length-append (number 2 (length items)) (number 1 replicas), length-number 2 (length items))
