-- What holds at the first values.
use Rattle.std.specs.Prelude.{ℕ, List, map, get_or, Bool, true, nat_le, Option, Some, None}
use Rattle.std.specs.List.{list_all}
use Rattle.spec_model.specs.declared.spec.Sort.{Sort}
use Rattle.spec_model.specs.declared.spec.Pred.{Pred}
use Rattle.spec_model.specs.declared.clause.Clause.{Clause}
use Rattle.spec_model.specs.Truths.{Truths, no_sort, no_pred, instance_true, var_sorts}
use Rattle.spec_model.specs.Universe as universe

-- how many elements the sort at this place has
abbrev pub size_at : List Sort → ℕ → ℕ
size_at sorts s = (get_or sorts s no_sort).size

-- how many tuples of elements these sorts have
unfoldable pub tuple_count : List Sort → List ℕ → ℕ
tuple_count sorts places = universe.tuple_count (map (size_at sorts) places)

-- the first truth of every atom
abbrev pub first_truths : List Pred → Truths
first_truths preds p xs = (get_or preds p no_pred).first

-- an instance of a clause is true at first
unfoldable pub starts_at : List Pred → Clause → List ℕ → Bool
starts_at preds c xs = instance_true (first_truths preds) xs c

-- all instances of a clause are true at first
unfoldable pub clause_starts : List Sort → List Pred → Clause → Bool
clause_starts sorts preds c = list_all (starts_at preds c) (universe.tuples (map (size_at sorts) (var_sorts c)))

-- a number isn't below its lower bound
abbrev pub at_least : ℕ → Option ℕ → Bool
at_least n None = true
at_least n (Some min) = nat_le min n

-- a number isn't above its upper bound
abbrev pub at_most : ℕ → Option ℕ → Bool
at_most n None = true
at_most n (Some max) = nat_le n max
