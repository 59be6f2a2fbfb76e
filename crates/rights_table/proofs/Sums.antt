-- Sums over lines, and what is left of them.
use Rattle.std.proofs.Common.{◌≡◌, ℕ, zero, suc, ◌+◌, ◌-◌, ◌≤◌, ◌<◌, Bool, true, false, cond, List, [], ◌∷◌, length, get_or, take, refl, sym, ap, ◌∙◌, arith}
use Rattle.std.specs.Prelude.{sum_by, is_some}
use Rattle.std.proofs.lemmas.List.Sums.{sum_by-cons}
use Rattle.spec_model.specs.declared.spec.Spec.{Spec}
use Rattle.spec_model.specs.declared.instance.Inst.{Inst}
use Rattle.spec_model.specs.declared.operation.Line.{Line}
use Rattle.spec_model.specs.declared.right.Right.{Right}
use Rattle.spec_model.specs.declared.right.Right.TheVariants as right
use Rattle.spec_model.specs.Universe.{lower_bound, upper_bound}
use Rattle.spec_model.specs.Changes.{line_adds, line_subtracts, effect_lines}
use Rattle.spec_model.specs.Needs.{spends, creates}
use Rattle.rights_table.specs.Cells.{all_gain, all_lose}

-- the sum with one more
pub sum_more : (f : Line → ℕ) (lines : List Line) (k : ℕ) (l : Line) → k < length lines → l ≡ get_or lines k l → sum_by f (take (k + 1) lines) ≡ sum_by f (take k lines) + f l
sum_more f [] k l lt is = absurd (omega (arith, lt))
sum_more f (m ∷ lines) zero l lt is = let one = ap f is in omega (arith, sum_by-cons f m [], one)
sum_more f (m ∷ lines) (suc k) l lt is =
    ap (λ n. sum_by f (take n (m ∷ lines))) (let one : suc k + 1 ≡ suc (k + 1) = omega arith in one)
    ∙ (let rest = sum_more f lines k l (omega (arith, lt)) is in omega (arith, sum_by-cons f m (take (k + 1) lines), sum_by-cons f m (take k lines), rest))

-- no part is more than all
pub sum_part : (f : Line → ℕ) (lines : List Line) (k : ℕ) → sum_by f (take k lines) ≤ sum_by f lines
sum_part f lines zero = omega arith
sum_part f [] (suc k) = omega arith
sum_part f (l ∷ lines) (suc k) = let rest = sum_part f lines k in omega (arith, sum_by-cons f l (take k lines), sum_by-cons f l lines, rest)

-- what counts where a test passes
pub sum_tested : (b : Bool) (f : Line → ℕ) (lines : List Line) → sum_by (λ l. cond b (f l) 0) lines ≡ cond b (sum_by f lines) 0
sum_tested true f lines = refl
sum_tested false f lines = sum_none lines
  where
    sum_none : (lines : List Line) → sum_by (λ (l : Line). 0) lines ≡ 0
    sum_none [] = refl
    sum_none (l ∷ lines) = omega (arith, sum_by-cons (λ (m : Line). 0) l lines, sum_none lines)

pub none : (lines : List Line) → sum_by (λ (l : Line). 0) lines ≡ 0
none [] = refl
none (l ∷ lines) = omega (arith, sum_by-cons (λ (m : Line). 0) l lines, none lines)

-- what all lines do leaves what an act creates and spends
pub record Nets (spec : Spec) (inst : Inst) (r : Right) : Type 0 where
  pub spent : spends spec inst r ≡ all_lose spec inst r - all_gain spec inst r
  pub created : creates spec inst r ≡ all_gain spec inst r - all_lose spec inst r

where_some : (b : Bool) (n m : ℕ) → cond b (n - m) 0 ≡ cond b n 0 - cond b m 0
where_some true n m = refl
where_some false n m = omega arith

by_bound : (b : Bool) (up down : Line → ℕ) (lines : List Line)
    → (cond b (sum_by down lines - sum_by up lines) 0 ≡ sum_by (λ l. cond b (down l) 0) lines - sum_by (λ l. cond b (up l) 0) lines)
    × (cond b (sum_by up lines - sum_by down lines) 0 ≡ sum_by (λ l. cond b (up l) 0) lines - sum_by (λ l. cond b (down l) 0) lines)
by_bound b up down lines =
    let u = sum_tested b up lines in
    let d = sum_tested b down lines in
    let s = where_some b (sum_by down lines) (sum_by up lines) in
    let c = where_some b (sum_by up lines) (sum_by down lines) in (
      s ∙ ap (λ n. n - cond b (sum_by up lines) 0) (sym d) ∙ ap (λ n. sum_by (λ l. cond b (down l) 0) lines - n) (sym u),
      c ∙ ap (λ n. n - cond b (sum_by down lines) 0) (sym u) ∙ ap (λ n. sum_by (λ l. cond b (up l) 0) lines - n) (sym d),
    )

pub nets : (spec : Spec) (inst : Inst) (r : Right) → Nets spec inst r
nets spec inst (right.Low cell) =
    let both = by_bound (is_some (lower_bound spec cell)) (line_adds inst cell) (line_subtracts inst cell) (effect_lines spec inst) in
    record { spent = both.0; created = both.1 }
nets spec inst (right.High cell) =
    let both = by_bound (is_some (upper_bound spec cell)) (line_subtracts inst cell) (line_adds inst cell) (effect_lines spec inst) in
    record { spent = both.0; created = both.1 }
nets spec inst (right.Lock l key) = let z = none (effect_lines spec inst) in record { spent = omega (arith, z); created = omega (arith, z) }
nets spec inst (right.Entry c args i) = let z = none (effect_lines spec inst) in record { spent = omega (arith, z); created = omega (arith, z) }
nets spec inst (right.Part p key) = let z = none (effect_lines spec inst) in record { spent = omega (arith, z); created = omega (arith, z) }
