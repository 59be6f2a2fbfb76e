-- The needs of escrow, cell by cell, are few.
use Rattle.std.proofs.Common.{◌≡◌, ℕ, zero, suc, ◌≤◌, Bool, true, false, List, [], ◌∷◌, ◌++◌, if◌then◌else◌, is_some, nat_lt, arith, refl}
use Rattle.std.specs.List.{AllByRecursion, flat_map}
use Rattle.spec_model.specs.declared.spec.Spec.{Spec}
use Rattle.spec_model.specs.declared.instance.Cell.{Cell}
use Rattle.spec_model.specs.declared.instance.Inst.{Inst}
use Rattle.spec_model.specs.declared.right.Amount.TheVariants as amount
use Rattle.spec_model.specs.declared.right.Need.{Need}
use Rattle.spec_model.specs.declared.right.Right.{Right}
use Rattle.spec_model.specs.declared.right.Right.TheVariants as right
use Rattle.spec_model.specs.Fits.{IsWellFormed}
use Rattle.spec_model.specs.Needs.{escrow_need, escrow_needs, spends}
use Rattle.spec_model.specs.Universe.{cells, lower_bound, upper_bound}
use Rattle.spec_model.specs.Changes.{net_rise, net_fall}
use Rattle.effect_model.specs.Amounts.{IsFew}
use Rattle.effect_model.specs.Turns.{count_need, where_bounded}
use Rattle.effect_model.proofs.Sums.{changes_small}

-- what is needed of one cell
abbrev pub cell_escrow : Spec → Inst → Cell → List Need
cell_escrow spec inst cell = escrow_need spec inst (right.Low cell) ++ escrow_need spec inst (right.High cell)

pub all_both : {X : Type 0} (P : X → Type 0) (xs ys : List X) → AllByRecursion P xs → AllByRecursion P ys → AllByRecursion P (xs ++ ys)
all_both P [] ys a b = b
all_both P (x ∷ xs) ys a b = (a.0, all_both P xs ys a.1 b)

pub all_flat : {X Y : Type 0} (P : Y → Type 0) (f : X → List Y) → ((x : X) → AllByRecursion P (f x)) → (xs : List X) → AllByRecursion P (flat_map f xs)
all_flat P f each [] = tt
all_flat P f each (x ∷ xs) = all_both P (f x) (flat_map f xs) (each x) (all_flat P f each xs)

bounded_small : (b : Bool) (n limit : ℕ) → n ≤ limit → where_bounded b n ≤ limit
bounded_small true n limit le = le
bounded_small false n limit le = omega arith

count_few : (r : Right) (n : ℕ) → n ≤ 16000000000 → AllByRecursion IsFew (count_need r n)
count_few r n le = by_test (nat_lt 0 n) refl
  where
    positive : (m : ℕ) → nat_lt 0 m ≡ true → 1 ≤ m
    positive zero e = absurd cc
    positive (suc m) e = omega arith

    by_test : (b : Bool) → nat_lt 0 n ≡ b → AllByRecursion IsFew (if b then record { right = r; amount = amount.Count n } ∷ [] else [])
    by_test true e = ((positive n e, le), tt)
    by_test false e = tt

pub needs_few : (spec : Spec) (inst : Inst) → IsWellFormed spec → AllByRecursion IsFew (escrow_needs spec inst)
needs_few spec inst w = all_flat IsFew (cell_escrow spec inst) each (cells spec)
  where
    each : (cell : Cell) → AllByRecursion IsFew (cell_escrow spec inst cell)
    each cell =
        let small = changes_small spec inst cell w in
        all_both IsFew (escrow_need spec inst (right.Low cell)) (escrow_need spec inst (right.High cell))
        (count_few (right.Low cell) (spends spec inst (right.Low cell)) (bounded_small (is_some (lower_bound spec cell)) (net_fall spec inst cell) 16000000000 (omega (arith, small.1))))
        (count_few (right.High cell) (spends spec inst (right.High cell)) (bounded_small (is_some (upper_bound spec cell)) (net_rise spec inst cell) 16000000000 (omega (arith, small.0))))
