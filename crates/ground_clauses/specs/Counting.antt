-- How many cases there are.
use Rattle.std.specs.Prelude.{◌≡◌, ℕ, zero, suc, ◌+◌, ◌-◌, ◌*◌, ◌^◌, ◌≤◌, ◌&&◌, ◌==◌, count_by, List, length, get_or}
use Rattle.std.specs.List.{sum_by}
use Rattle.ground_clauses.specs.Cases.{pattern_sorts, targets, upto_from}
use Rattle.ground_clauses.specs.declared.case.Target.{Target}
use Rattle.spec_model.specs.Truths.{op_at, size_of}
use Rattle.spec_model.specs.declared.clause.Var.{Var}
use Rattle.spec_model.specs.declared.spec.Spec.{Spec}

-- the ways to split n things into k classes
abbrev pub splits : ℕ → ℕ → ℕ
splits zero zero = 1
splits zero (suc k) = 0
splits (suc n) zero = 0
splits (suc n) (suc k) = suc k * splits n (suc k) + splits n k

-- f 0 + .. + f n
abbrev pub sum_upto : (ℕ → ℕ) → ℕ → ℕ
sum_upto f zero = f 0
sum_upto f (suc n) = sum_upto f n + f (suc n)

-- f 0 * .. * f (n - 1)
abbrev pub product_below : (ℕ → ℕ) → ℕ → ℕ
product_below f zero = 1
product_below f (suc n) = product_below f n * f n

-- how often a sort stands among these
abbrev pub occurrences : ℕ → List ℕ → ℕ
occurrences z sorts = count_by (λ s. s == z) sorts

-- how many interval parameters of a sort there are
abbrev pub intervals : ℕ → List Var → ℕ
intervals z params = count_by (λ p. p.interval && (p.sort == z)) params

-- the ways to give n elements classes of a sort of this size, each class with m bits
abbrev pub class_ways : ℕ → ℕ → ℕ → ℕ
class_ways size n m = sum_upto (λ k. splits n k * 2 ^ (k * m)) size

abbrev pub sort_cases : Spec → ℕ → ℕ → Target → ℕ → ℕ
sort_cases spec a b t z = class_ways (size_of spec z) (occurrences z (pattern_sorts spec a b t)) (intervals z (op_at spec a).params + intervals z (op_at spec b).params)

-- all cases of a pair and a target
abbrev pub shape_cases : Spec → ℕ → ℕ → Target → ℕ
shape_cases spec a b t = product_below (sort_cases spec a b t) (length spec.sorts)

-- all cases of a pair
abbrev pub pair_count : Spec → ℕ → ℕ → ℕ
pair_count spec a b = sum_by (shape_cases spec a b) (targets spec)

-- all cases of the pairs of an operation and those from it on
abbrev pub row_count : Spec → ℕ → ℕ
row_count spec a = sum_by (pair_count spec a) (upto_from a (length spec.ops - a))

-- all cases, touched or not
abbrev pub case_count : Spec → ℕ
case_count spec = sum_by (row_count spec) (upto_from 0 (length spec.ops))

-- at each place up to 12 the ways to split n things into so many classes
pub record IsSplits (n : ℕ) (row : List ℕ) : Type 0 where
  pub size : length row ≡ 13
  pub ways : (k : ℕ) → k ≤ 12 → get_or row k 0 ≡ splits n k
