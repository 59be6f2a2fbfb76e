-- Rights, and pieces of them.
use Rattle.std.proofs.Common.{◌≡◌, inl, inr, ℕ, zero, suc, ◌^◌, ◌<◌, ◌≤◌, List, ◌++◌, Some, refl, sym, ap, subst, ◌∙◌, append_assoc, arith}
use Rattle.std.specs.Prelude.{nat_le}
use Rattle.ind_base.specs.declared.span.Span.{Span}
use Rattle.spec_model.specs.declared.right.Mode.{Mode}
use Rattle.spec_model.specs.declared.right.Mode.TheVariants as mode
use Rattle.spec_model.specs.declared.right.Piece.{Piece}
use Rattle.spec_model.specs.declared.right.Piece.TheVariants as piece
use Rattle.spec_model.specs.declared.right.Right.{Right}
use Rattle.spec_model.specs.declared.right.Right.TheVariants as right
use Rattle.op_records.specs.Spelling.{number, args_text, mode_code, right_text, piece_text, AreArgs, IsNamed, IsRight, IsSome, IsPiece, IsOf}
use Rattle.op_records.specs.Reading.{made_at, both_at, number_at, args_at, span_at, right_of, right_at, mode_of, mode_at, count_at, shares_at, piece_at}
use Rattle.op_records.proofs.Numbers.{IsBytes}
use Rattle.op_records.proofs.Choices.{bind_some, some_is, then_again, either}
use Rattle.op_records.proofs.Fields.{IsField, rest_are, number_field, kept, made_of, made_again, both}
use Rattle.op_records.proofs.Counts.{some_field, args_field, span_field}

header_field : IsField (λ (p : ℕ × (ℕ × List ℕ)). (p.0 < 256 ^ 1) × ((p.1.0 < 256 ^ 2) × AreArgs p.1.1)) (λ p. number 1 p.0 ++ (number 2 p.1.0 ++ args_text p.1.1)) (both_at (number_at 1) (both_at (number_at 2) args_at))
header_field = both (number_field 1) (both (number_field 2) args_field)

abbrev header : ℕ → ℕ → List ℕ → List ℕ
header tag n args = number 1 tag ++ (number 2 n ++ args_text args)

abbrev IsTaken : ℕ → ℕ → List ℕ → List ℕ → Right × List ℕ → Type 0
IsTaken tag n args behind y = (header tag n args ++ behind ≡ right_text y.0 ++ y.1) × IsRight y.0

module _ (n : ℕ) (args behind : List ℕ) (y : Right × List ℕ) (named : IsNamed n args) (are : IsBytes behind) where
  plain : (tag : ℕ) (r : Right) → header tag n args ++ behind ≡ right_text r ++ behind → IsRight r → (t : ℕ) → t ≡ tag → Some (r, behind) ≡ Some y → IsTaken t n args behind y
  plain tag r text fine t tag_is e = subst (λ k. IsTaken k n args behind y) (sym tag_is) (subst (IsTaken tag n args behind) (some_is (r, behind) y e) (text, fine))

  entry : (t : ℕ) → t ≡ 4 → made_at (λ literal. right.Entry n args literal) (number_at 1) behind ≡ Some y → IsTaken t n args behind y
  entry t tag_is e =
      let m = made_of (number_field 1) (λ literal. right.Entry n args literal) behind y.0 y.1 are e in
      let text : header 4 n args ++ behind ≡ right_text (right.Entry n args m.0) ++ y.1 = ap (λ (l : List ℕ). header 4 n args ++ l) m.2 ∙ sym (append_assoc (header 4 n args) (number 1 m.0) y.1) in
      subst (λ k. IsTaken k n args behind y) (sym tag_is) (subst (λ r. (header 4 n args ++ behind ≡ right_text r ++ y.1) × IsRight r) m.1 (text, (named, m.3)))

  right_of_takes : (tag : ℕ) → right_of tag n args behind ≡ Some y → IsTaken tag n args behind y
  right_of_takes tag e = elim (either tag 1 _ _ _ e) [
    | inl low ↦ plain 1 (right.Low (record { num = n; args = args })) refl named tag low.0 low.1
    | inr e ↦ elim (either tag 2 _ _ _ e) [
      | inl high ↦ plain 2 (right.High (record { num = n; args = args })) refl named tag high.0 high.1
      | inr e ↦ elim (either tag 3 _ _ _ e) [
        | inl lock ↦ plain 3 (right.Lock n args) refl named tag lock.0 lock.1
        | inr e ↦ elim (either tag 4 _ _ _ e) [
          | inl of ↦ entry tag of.0 of.1
          | inr e ↦ elim (either tag 5 _ _ _ e) [
            | inl part ↦ plain 5 (right.Part n args) refl named tag part.0 part.1
            | inr e ↦ absurd (cc e)
          ]
        ]
      ]
    ]
  ]

right_takes : (bytes : List ℕ) (r : Right) (rest : List ℕ) → IsBytes bytes → right_at bytes ≡ Some (r, rest) → (bytes ≡ right_text r ++ rest) × IsRight r
right_takes bytes r rest are e =
    let a = bind_some (both_at (number_at 1) (both_at (number_at 2) args_at) bytes) (λ p. right_of p.0.0 p.0.1.0 p.0.1.1 p.1) (r, rest) e in
    let h = header_field.takes bytes a.0.0 a.0.1 are a.1 in
    let behind = rest_are bytes (header a.0.0.0 a.0.0.1.0 a.0.0.1.1) a.0.1 are h.0 in
    let t = right_of_takes a.0.0.1.0 a.0.0.1.1 a.0.1 (r, rest) h.1.1 behind a.0.0.0 a.2 in
    (h.0 ∙ t.0, t.1)

-- a right is read by its tag
tagged : (tag n : ℕ) (args rest : List ℕ) → tag < 256 → IsNamed n args → right_at (header tag n args ++ rest) ≡ right_of tag n args rest
tagged tag n args rest small named =
    then_again (both_at (number_at 1) (both_at (number_at 2) args_at) (header tag n args ++ rest)) (λ p. right_of p.0.0 p.0.1.0 p.0.1.1 p.1) ((tag, (n, args)), rest)
    (header_field.again (tag, (n, args)) rest (small, named))

right_again : (r : Right) (rest : List ℕ) → IsRight r → right_at (right_text r ++ rest) ≡ Some (r, rest)
right_again (right.Low cell) rest named = tagged 1 cell.num cell.args rest (omega arith) named
right_again (right.High cell) rest named = tagged 2 cell.num cell.args rest (omega arith) named
right_again (right.Lock lock key) rest named = tagged 3 lock key rest (omega arith) named
right_again (right.Entry clause args literal) rest fine =
    ap right_at (append_assoc (header 4 clause args) (number 1 literal) rest) ∙ tagged 4 clause args (number 1 literal ++ rest) (omega arith) fine.0
    ∙ made_again (number_field 1) (λ l. right.Entry clause args l) literal rest fine.1
right_again (right.Part part key) rest named = tagged 5 part key rest (omega arith) named

pub right_field : IsField IsRight right_text right_at
right_field = record { takes = right_takes; again = right_again }

-- ---- pieces

mode_takes : (bytes : List ℕ) (m : Mode) (rest : List ℕ) → IsBytes bytes → mode_at bytes ≡ Some (m, rest) → (bytes ≡ number 1 (mode_code m) ++ rest) × Unit {0}
mode_takes bytes m rest are e =
    let made = made_of (kept (number_field 1) (λ n. nat_le n 1)) mode_of bytes m rest are e in
    (subst (λ (x : Mode). bytes ≡ number 1 (mode_code x) ++ rest) made.1 (made.2 ∙ ap (λ (n : ℕ). number 1 n ++ rest) (sym (code_back made.0 (grind (arith, made.3.1))))), tt)
  where
    code_back : (n : ℕ) → n ≤ 1 → mode_code (mode_of n) ≡ n
    code_back zero le = refl
    code_back (suc zero) le = refl
    code_back (suc (suc n)) le = absurd (omega (arith, le))

mode_again : (m : Mode) (rest : List ℕ) → Unit {0} → mode_at (number 1 (mode_code m) ++ rest) ≡ Some (m, rest)
mode_again mode.Forbid rest fine = made_again (kept (number_field 1) (λ n. nat_le n 1)) mode_of 0 rest (omega arith, refl)
mode_again mode.Allow rest fine = made_again (kept (number_field 1) (λ n. nat_le n 1)) mode_of 1 rest (omega arith, refl)

mode_field : IsField (λ m. Unit {0}) (λ m. number 1 (mode_code m)) mode_at
mode_field = record { takes = mode_takes; again = mode_again }

module _ (is_of : Piece → Type 0) where
  counts : ((n : ℕ) → is_of (piece.Count n)) → (bytes : List ℕ) (p : Piece) (rest : List ℕ) → IsBytes bytes → count_at bytes ≡ Some (p, rest) → (bytes ≡ piece_text p ++ rest) × (IsPiece p × is_of p)
  counts of bytes p rest are e =
      let m = made_of (some_field 8) piece.Count bytes p rest are e in
      subst (λ (x : Piece). (bytes ≡ piece_text x ++ rest) × (IsPiece x × is_of x)) m.1 (m.2, (m.3, of m.0))

  shares : ((n : ℕ) (m : Mode) → is_of (piece.Shares n m)) → (bytes : List ℕ) (p : Piece) (rest : List ℕ) → IsBytes bytes → shares_at bytes ≡ Some (p, rest) → (bytes ≡ piece_text p ++ rest) × (IsPiece p × is_of p)
  shares of bytes p rest are e =
      let m = made_of (both (some_field 1) mode_field) (λ q. piece.Shares q.0 q.1) bytes p rest are e in
      subst (λ (x : Piece). (bytes ≡ piece_text x ++ rest) × (IsPiece x × is_of x)) m.1 (m.2, (m.3.0, of m.0.0 m.0.1))

  points : ((s : Span) → is_of (piece.Points s)) → (bytes : List ℕ) (p : Piece) (rest : List ℕ) → IsBytes bytes → made_at piece.Points span_at bytes ≡ Some (p, rest) → (bytes ≡ piece_text p ++ rest) × (IsPiece p × is_of p)
  points of bytes p rest are e =
      let m = made_of span_field piece.Points bytes p rest are e in
      subst (λ (x : Piece). (bytes ≡ piece_text x ++ rest) × (IsPiece x × is_of x)) m.1 (m.2, (m.3, of m.0))

piece_takes : (r : Right) (bytes : List ℕ) (p : Piece) (rest : List ℕ) → IsBytes bytes → piece_at r bytes ≡ Some (p, rest) → (bytes ≡ piece_text p ++ rest) × (IsPiece p × IsOf r p)
piece_takes (right.Low cell) = counts (IsOf (right.Low cell)) (λ n. tt)
piece_takes (right.High cell) = counts (IsOf (right.High cell)) (λ n. tt)
piece_takes (right.Lock lock key) = shares (IsOf (right.Lock lock key)) (λ n m. tt)
piece_takes (right.Entry clause args literal) = shares (IsOf (right.Entry clause args literal)) (λ n m. tt)
piece_takes (right.Part part key) = points (IsOf (right.Part part key)) (λ s. tt)

count_again : (n : ℕ) (rest : List ℕ) → IsSome 8 n → count_at (number 8 n ++ rest) ≡ Some (piece.Count n, rest)
count_again n rest fine = made_again (some_field 8) piece.Count n rest fine

shares_again : (n : ℕ) (m : Mode) (rest : List ℕ) → IsSome 1 n → shares_at ((number 1 n ++ number 1 (mode_code m)) ++ rest) ≡ Some (piece.Shares n m, rest)
shares_again n m rest fine = made_again (both (some_field 1) mode_field) (λ q. piece.Shares q.0 q.1) (n, m) rest (fine, tt)

piece_again : (r : Right) (p : Piece) (rest : List ℕ) → IsPiece p × IsOf r p → piece_at r (piece_text p ++ rest) ≡ Some (p, rest)
piece_again (right.Low cell) (piece.Count n) rest fine = count_again n rest fine.0
piece_again (right.High cell) (piece.Count n) rest fine = count_again n rest fine.0
piece_again (right.Lock lock key) (piece.Shares n m) rest fine = shares_again n m rest fine.0
piece_again (right.Entry clause args literal) (piece.Shares n m) rest fine = shares_again n m rest fine.0
piece_again (right.Part part key) (piece.Points span) rest fine = made_again span_field piece.Points span rest fine.0
piece_again (right.Low cell) (piece.Shares n m) rest fine = absurd fine.1
piece_again (right.Low cell) (piece.Points span) rest fine = absurd fine.1
piece_again (right.High cell) (piece.Shares n m) rest fine = absurd fine.1
piece_again (right.High cell) (piece.Points span) rest fine = absurd fine.1
piece_again (right.Lock lock key) (piece.Count n) rest fine = absurd fine.1
piece_again (right.Lock lock key) (piece.Points span) rest fine = absurd fine.1
piece_again (right.Entry clause args literal) (piece.Count n) rest fine = absurd fine.1
piece_again (right.Entry clause args literal) (piece.Points span) rest fine = absurd fine.1
piece_again (right.Part part key) (piece.Count n) rest fine = absurd fine.1
piece_again (right.Part part key) (piece.Shares n m) rest fine = absurd fine.1

pub piece_field : (r : Right) → IsField (λ p. IsPiece p × IsOf r p) piece_text (piece_at r)
piece_field r = record { takes = piece_takes r; again = piece_again r }
