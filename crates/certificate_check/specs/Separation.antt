-- Which cases a plan separates.
use Rattle.std.specs.Prelude.{ℕ, suc, Bool, false, ◌&&◌, ◌||◌, is_some, if◌then◌else◌, eqb, List, [], ◌∷◌, length, get_or, Some, None, Option}
use Rattle.std.specs.List.{list_any, list_all}
use Rattle.ground_clauses.specs.Bits.{has_bit}
use Rattle.ground_clauses.specs.Cases.{Reach, bits, point, reaches_a, reaches_b, upto_from}
use Rattle.ground_clauses.specs.declared.case.Case.{Case}
use Rattle.spec_model.specs.declared.plan.LockKind.{LockKind}
use Rattle.spec_model.specs.declared.plan.Pair.{Pair}
use Rattle.spec_model.specs.declared.plan.Plan.{Plan}
use Rattle.spec_model.specs.declared.spec.Spec.{Spec}

abbrev pub same_class : Reach → Reach → Bool
same_class (point c) (point d) = eqb c d
same_class (point c) (bits d) = false
same_class (bits c) y = false

-- the parameters at these places are plain, and have one class
abbrev pub pair_meets : Spec → Case → Pair → Bool
pair_meets spec k p = same_class (get_or (reaches_a spec k) p.a (bits 0)) (get_or (reaches_b spec k) p.b (bits 0))

-- the lock is of the case's pair, and all its key positions have equal classes
abbrev pub lock_fits : Spec → Case → LockKind → Bool
lock_fits spec k l = eqb l.a k.a && (eqb l.b k.b && list_all (pair_meets spec k) l.key)

-- some class below this number lies in both intervals
abbrev pub shares_below : Case → ℕ → Bool
shares_below k n = list_any (λ c. has_bit k.bits_a c && has_bit k.bits_b c) (upto_from 0 n)

-- some class lies in both intervals: there are at most as many classes as elements of the pattern
abbrev pub shares : Case → Bool
shares k = shares_below k (length k.classes)

abbrev pub part_fits : Spec → Case → LockKind → Bool
part_fits spec k l = lock_fits spec k l && shares k

-- the place of the first that passes, counted from n
abbrev pub lowest_from : {X : Type 0} → ℕ → (X → Bool) → List X → Option ℕ
lowest_from n test [] = None
lowest_from n test (x ∷ xs) = if test x then Some n else lowest_from (suc n) test xs

abbrev pub lowest : {X : Type 0} → (X → Bool) → List X → Option ℕ
lowest test xs = lowest_from 0 test xs

-- some lock or partition separates the case
abbrev pub is_separated : Spec → Plan → Case → Bool
is_separated spec plan k = is_some (lowest (lock_fits spec k) plan.locks) || is_some (lowest (part_fits spec k) plan.parts)
