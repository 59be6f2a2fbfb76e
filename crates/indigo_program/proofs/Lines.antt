-- A text has no more lines than bytes.
use Rattle.std.proofs.Common.{ℕ, ◌+◌, ◌≤◌, Bool, true, false, cond, eqb, ◌&&◌, List, [], ◌∷◌, length, arith}
use Rattle.line_text.specs.Lines.{lines_of, onto_first, begins_with}

onto_short : (b : ℕ) (lines : List (List ℕ)) (n : ℕ) → length lines ≤ n → length (onto_first b lines) ≤ n + 1
onto_short b [] n le = omega arith
onto_short b (line ∷ lines) n le = omega (arith, le)

choice_short : (ended returned : Bool) (b : ℕ) (lines : List (List ℕ)) (n : ℕ) → length lines ≤ n → length (cond ended ([] ∷ lines) (cond returned lines (onto_first b lines))) ≤ n + 1
choice_short true returned b lines n le = omega (arith, le)
choice_short false true b lines n le = omega (arith, le)
choice_short false false b lines n le = onto_short b lines n le

pub lines_short : (bytes : List ℕ) → length (lines_of bytes) ≤ length bytes
lines_short [] = omega arith
lines_short (b ∷ bs) = omega (arith, choice_short (eqb b 10) (eqb b 13 && begins_with 10 bs) b (lines_of bs) (length bs) (lines_short bs))
