-- Rights as keys of a map.
use Rattle.std.specs.Prelude.{◌≡◌, ℕ, ◌+◌, ◌*◌, ◌%◌, ◌^◌, true, List, IsTrue}
use Rattle.std.specs.List.{fold}
use Rattle.std.specs.Bool.{Decides}
use Rattle.std.specs.Cmp.{IsEquivalence, decided}
use Rattle.std.specs.Hash as fed
use Rattle.std.proofs.Common.{ap, subst}
use Rattle.spec_model.specs.declared.right.Right.{Right}
use Rattle.spec_model.specs.declared.right.Right.TheVariants as right
use Rattle.run_model.specs.Rights.{same_right}
use Rattle.rights_table.specs.Same.{same_is, same_refl}

-- one number more, mixed in
abbrev pub mixed : ℕ → ℕ → ℕ
mixed so_far n = ((so_far * 0x9e37_79b9_7f4a_7c15) % 2 ^ 64 + n) % 2 ^ 64

-- a kind, a number and arguments, mixed to one number
abbrev pub named : ℕ → ℕ → List ℕ → ℕ
named kind number args = fold mixed (mixed kind number) args

-- all that a right is, mixed to one number
abbrev pub number_of : Right → ℕ
number_of (right.Low cell) = named 0 cell.num cell.args
number_of (right.High cell) = named 1 cell.num cell.args
number_of (right.Lock lock key) = named 2 lock key
number_of (right.Entry clause args literal) = mixed (named 3 clause args) literal
number_of (right.Part part key) = named 4 part key

-- what is hashed of a right
abbrev pub fed_of : Right → fed.HashWrites
fed_of r = fed.u64 (number_of r)

same_decides : (a b : Right) → Decides (same_right a b) (a ≡ b)
same_decides a b = (same_is a b, λ e. subst (λ (c : Right). same_right a c ≡ true) e (same_refl a))

-- rights are the same as keys where they are one
pub same_equiv : IsEquivalence same_right
same_equiv = decided same_right same_decides

-- one right is hashed as one
pub same_fed : (a b : Right) → IsTrue (same_right a b) → fed_of a ≡ fed_of b
same_fed a b same = ap fed_of (same_is a b same)
