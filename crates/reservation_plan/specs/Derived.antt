-- The derived plan: one reservation for each pair of operations that has a conflicting case.
use Rattle.std.specs.Prelude.{ℕ, ◌-◌, Bool, true, false, ◌&&◌, not, if◌then◌else◌, eqb, List, [], ◌∷◌, length, get_or, map, flat_map, Option, Some, None}
use Rattle.std.specs.List.{list_all}
use Rattle.certificate_check.specs.Separation.{lowest, pair_meets, shares}
use Rattle.ground_clauses.specs.Cases.{upto_from}
use Rattle.ground_clauses.specs.Derivations.{is_nil}
use Rattle.ground_clauses.specs.declared.case.Case.{Case}
use Rattle.reservation_plan.specs.Conflicts.{conflicts}
use Rattle.spec_model.specs.Fits.{marked_from}
use Rattle.spec_model.specs.Truths.{no_var, op_at, sort_of}
use Rattle.spec_model.specs.declared.clause.Var.{Var}
use Rattle.spec_model.specs.declared.plan.LockKind.{LockKind}
use Rattle.spec_model.specs.declared.plan.Pair.{Pair}
use Rattle.spec_model.specs.declared.plan.Plan.{Plan}
use Rattle.spec_model.specs.declared.spec.Spec.{Spec}

abbrev pub pair_of : ℕ → ℕ → Pair
pair_of a b = record { a = a; b = b }

-- ---- keys

abbrev pub params_of : Spec → ℕ → List Var
params_of spec a = (op_at spec a).params

abbrev pub is_plain : List Var → ℕ → Bool
is_plain params i = not (get_or params i no_var).interval

-- plain parameters of one sort; an operation and itself meet at equal positions alone
abbrev pub may_meet : Spec → ℕ → ℕ → ℕ → ℕ → Bool
may_meet spec a b i j =
    is_plain (params_of spec a) i && (is_plain (params_of spec b) j && (eqb (sort_of (params_of spec a) i) (sort_of (params_of spec b) j) && (if eqb a b then eqb i j else true)))

-- parameters that may meet, and are equal in each of these cases
abbrev pub always_meets : Spec → ℕ → ℕ → List Case → ℕ → ℕ → Bool
always_meets spec a b ks i j = may_meet spec a b i j && list_all (λ k. pair_meets spec k (pair_of i j)) ks

abbrev pub with_first : ℕ → Option ℕ → List Pair
with_first i None = []
with_first i (Some j) = pair_of i j ∷ []

-- position i with the lowest position that always meets it, if one does
abbrev pub key_at : Spec → ℕ → ℕ → List Case → ℕ → List Pair
key_at spec a b ks i = with_first i (lowest (always_meets spec a b ks i) (upto_from 0 (length (params_of spec b))))

abbrev pub key_of : Spec → ℕ → ℕ → List Case → List Pair
key_of spec a b ks = flat_map (key_at spec a b ks) (upto_from 0 (length (params_of spec a)))

-- ---- reservations, by the conflicting cases of a pair

-- the sort of the interval parameter
abbrev pub interval_sort : List Var → Option ℕ
interval_sort [] = None
interval_sort (p ∷ params) = if p.interval then Some p.sort else interval_sort params

abbrev pub same_sort : Option ℕ → Option ℕ → Bool
same_sort (Some s) (Some t) = eqb s t
same_sort (Some s) None = false
same_sort None t = false

-- both operations have an interval parameter, of one sort
abbrev pub intervals_match : Spec → ℕ → ℕ → Bool
intervals_match spec a b = same_sort (interval_sort (params_of spec a)) (interval_sort (params_of spec b))

-- and in each of these cases some class lies in both intervals
abbrev pub is_partitioned : Spec → ℕ → ℕ → List Case → Bool
is_partitioned spec a b ks = intervals_match spec a b && list_all shares ks

abbrev pub reservation : Spec → ℕ → ℕ → List Case → LockKind
reservation spec a b ks = record { a = a; b = b; key = key_of spec a b ks }

-- a lock, where there are such cases and no partition does
abbrev pub locks_by : Spec → ℕ → ℕ → List Case → List LockKind
locks_by spec a b ks = if is_nil ks then [] else if is_partitioned spec a b ks then [] else reservation spec a b ks ∷ []

-- a partition, where it does
abbrev pub parts_by : Spec → ℕ → ℕ → List Case → List LockKind
parts_by spec a b ks = if is_nil ks then [] else if is_partitioned spec a b ks then reservation spec a b ks ∷ [] else []

abbrev pub locks_at : Spec → Pair → List LockKind
locks_at spec p = locks_by spec p.a p.b (conflicts spec p.a p.b)

abbrev pub parts_at : Spec → Pair → List LockKind
parts_at spec p = parts_by spec p.a p.b (conflicts spec p.a p.b)

-- ---- the plan

abbrev pub row_pairs : Spec → ℕ → List Pair
row_pairs spec a = map (pair_of a) (upto_from a (length spec.ops - a))

-- the pairs of operations, by the first and then the second
abbrev pub pairs_of : Spec → List Pair
pairs_of spec = flat_map (row_pairs spec) (upto_from 0 (length spec.ops))

-- the locks and the partitions of all pairs in their order, and the marked clauses
abbrev pub derived_plan : Spec → Plan
derived_plan spec = record {
  locks = flat_map (locks_at spec) (pairs_of spec);
  masks = marked_from 0 spec.clauses;
  parts = flat_map (parts_at spec) (pairs_of spec);
}
