-- Cases as they are listed.
use Rattle.std.specs.Prelude.{◌≡◌, ℕ, suc, ◌+◌, ◌*◌, ◌^◌, ◌<◌, ◌≤◌, take, drop, min, get_or, List, [], ◌∷◌, ◌++◌, length, map}
use Rattle.std.specs.List.{flat_map, filter}
use Rattle.ground_clauses.specs.Bits.{bits_number}
use Rattle.ground_clauses.specs.Cases.{CaseKnown, TargetKnown, bit_lists, class_cases, class_count, class_lists, is_touched_case, pattern_sorts, target_cases}
use Rattle.ground_clauses.specs.declared.case.Case.{Case}
use Rattle.ground_clauses.specs.declared.case.Target.{Target}
use Rattle.ground_clauses.specs.declared.listing.Shape.{Shape}
use Rattle.spec_model.specs.Fits.{IsWellFormed}
use Rattle.spec_model.specs.Truths.{size_of}
use Rattle.spec_model.specs.declared.spec.Spec.{Spec}

-- all bits of the second interval from this class on, so many classes
abbrev pub second_bits : Case → ℕ → ℕ → List Case
second_bits k class count =
    map (λ bb. record { a = k.a; b = k.b; target = k.target; classes = k.classes; bits_a = k.bits_a; bits_b = k.bits_b + 2 ^ class * bits_number bb }) (bit_lists count)

-- all bits of both, of the first interval from this class on
abbrev pub first_bits : Case → ℕ → ℕ → ℕ → List Case
first_bits k class count second =
    flat_map (λ ba. second_bits (record { a = k.a; b = k.b; target = k.target; classes = k.classes; bits_a = k.bits_a + 2 ^ class * bits_number ba; bits_b = k.bits_b }) 0 second) (bit_lists count)

-- each class is at most its place, counted from k
abbrev pub RisesFrom : ℕ → List ℕ → Type 0
RisesFrom k [] = Unit {0}
RisesFrom k (c ∷ cs) = (c ≤ k) × RisesFrom (suc k) cs

-- a shape of declared operations and a declared target, with their pattern's sorts
pub record IsShape (s : Shape) : Type 0 where
  pub well_formed : IsWellFormed s.spec.now
  pub known_a : s.a < length s.spec.now.ops
  pub known_b : s.b < length s.spec.now.ops
  pub known : TargetKnown s.spec.now s.target
  pub sorts_are : s.sorts.now ≡ pattern_sorts s.spec.now s.a s.b s.target
  pub few : length s.sorts.now ≤ 12

-- one of the classes in use in the next element's sort, or the next one
abbrev pub limit_at : Shape → List ℕ → ℕ
limit_at s front =
    min (size_of s.spec.now (get_or s.sorts.now (length front) 0)) (suc (class_count (take (length front) s.sorts.now) front (get_or s.sorts.now (length front) 0)))

-- the cases with these classes in front
abbrev pub listed_from : Shape → List ℕ → List Case
listed_from s front =
    flat_map (class_cases s.spec.now s.a s.b s.target)
    (map (λ cs. front ++ cs) (class_lists (size_of s.spec.now) (class_count (take (length front) s.sorts.now) front) (drop (length front) s.sorts.now)))

-- the touched cases of these targets
abbrev pub touched_of : Spec → ℕ → ℕ → List Target → List Case
touched_of spec a b ts = filter (is_touched_case spec) (flat_map (target_cases spec a b) ts)

-- a case of declared operations and a declared target, with a class for each element of the pattern, numbered by first appearance
pub record CaseFits (spec : Spec) (k : Case) : Type 0 where
  pub known : CaseKnown spec k
  pub whole : length k.classes ≡ length (pattern_sorts spec k.a k.b k.target)
  pub rises : RisesFrom 0 k.classes
  pub few : length k.classes ≤ 12
