-- Locks and partitions of a plan that fits are few, and have short keys.
use Rattle.std.proofs.Common.{◌≡◌, ℕ, zero, suc, ◌+◌, ◌*◌, ◌<◌, ◌≤◌, Bool, true, false, ◌||◌, eqb, List, [], ◌∷◌, ◌++◌, map, length, get_or, refl, arith, None}
use Rattle.std.specs.List.{AllByRecursion, IsDistinct, list_any, slice_get}
use Rattle.std.proofs.lemmas.Bool.{ne_eqb, eqb-true}
use Rattle.std.proofs.lemmas.List.{length-map}
use Rattle.std.proofs.lemmas.Map.Steps.{length-le_from_distinct_below}
use Rattle.spec_model.specs.declared.clause.Var.{Var}
use Rattle.spec_model.specs.declared.operation.Op.{Op}
use Rattle.spec_model.specs.declared.plan.LockKind.{LockKind}
use Rattle.spec_model.specs.declared.plan.Pair.{Pair}
use Rattle.spec_model.specs.declared.plan.Plan.{Plan}
use Rattle.spec_model.specs.declared.spec.Spec.{Spec}
use Rattle.spec_model.specs.Fits.{EachPairOnce, IsWellFormed, KeyFits, LockFits, OpFits, OtherPair, PartFits, PlanFits, RisesAbove}
use Rattle.spec_model.specs.Truths.{no_op, op_at}
use Rattle.effect_model.specs.Rights.{HasShortKey}
use Rattle.effect_model.proofs.Sizes.{all_at}

-- ---- short keys

rises_short : (pa pb : List Var) (n : ℕ) (key : List Pair) → n ≤ length pa → AllByRecursion (KeyFits pa pb) key → RisesAbove n key → n + length key ≤ length pa
rises_short pa pb n [] upto fits rises = omega arith
rises_short pa pb n (k ∷ key) upto fits rises =
    let rest = rises_short pa pb (suc k.a) key (omega (arith, fits.0.within_a)) fits.1 rises.1 in
    omega (arith, rest, rises.0)

short_key : (spec : Spec) (kind : LockKind) → IsWellFormed spec → LockFits spec kind → HasShortKey kind
short_key spec kind wf f =
    let known : kind.a < length spec.ops = omega (arith, f.ordered, f.known) in
    let op = all_at (OpFits spec) spec.ops kind.a no_op wf.ops known in
    let short = rises_short (op_at spec kind.a).params (op_at spec kind.b).params 0 kind.key (omega arith) f.key_fits f.key_rises in
    omega (arith, short, op.few_params)

short_all : (spec : Spec) (kinds : List LockKind) → IsWellFormed spec → AllByRecursion (LockFits spec) kinds → AllByRecursion HasShortKey kinds
short_all spec [] wf f = tt
short_all spec (kind ∷ kinds) wf f = (short_key spec kind wf f.0, short_all spec kinds wf f.1)

lock_parts : (spec : Spec) (kinds : List LockKind) → AllByRecursion (PartFits spec) kinds → AllByRecursion (LockFits spec) kinds
lock_parts spec [] f = tt
lock_parts spec (kind ∷ kinds) f = (f.0.lock, lock_parts spec kinds f.1)

pub locks_short : (spec : Spec) (plan : Plan) → IsWellFormed spec → PlanFits spec plan → AllByRecursion HasShortKey plan.locks
locks_short spec plan wf f = short_all spec plan.locks wf f.locks_fit

pub parts_short : (spec : Spec) (plan : Plan) → IsWellFormed spec → PlanFits spec plan → AllByRecursion HasShortKey plan.parts
parts_short spec plan wf f = short_all spec plan.parts wf (lock_parts spec plan.parts f.parts_fit)

-- ---- few of them

-- a number for the pair of operations
abbrev pair_number : LockKind → ℕ
pair_number l = l.a * 64 + l.b

-- of operations below 64
record IsSmallPair (l : LockKind) : Type 0 where
  first : l.a < 64
  second : l.b < 64

other_number : (l m : LockKind) → IsSmallPair l → IsSmallPair m → OtherPair l m → eqb (pair_number l) (pair_number m) ≡ false
other_number l m sl sm other = ne_eqb (pair_number l) (pair_number m) (λ same.
    let first : l.a ≡ m.a = omega (arith, same, sl.second, sm.second) in
    let second : l.b ≡ m.b = omega (arith, same, sl.second, sm.second) in
    other first second)

other_numbers : (l : LockKind) (kinds : List LockKind) → IsSmallPair l → AllByRecursion IsSmallPair kinds → AllByRecursion (OtherPair l) kinds → AllByRecursion (λ n. eqb (pair_number l) n ≡ false) (map pair_number kinds)
other_numbers l [] sl small others = tt
other_numbers l (m ∷ kinds) sl small others = (other_number l m sl small.0 others.0, other_numbers l kinds sl small.1 others.1)

distinct_numbers : (kinds : List LockKind) → AllByRecursion IsSmallPair kinds → EachPairOnce kinds → IsDistinct eqb (map pair_number kinds)
unfolding IsDistinct
distinct_numbers [] small once = tt
distinct_numbers (l ∷ kinds) small once = (other_numbers l kinds small.0 small.1 once.0, distinct_numbers kinds small.1 once.1)

numbers_below : (kinds : List LockKind) → AllByRecursion IsSmallPair kinds → (q : ℕ) → list_any (eqb q) (map pair_number kinds) ≡ true → q < 4096
numbers_below [] small q h = absurd cc
numbers_below (l ∷ kinds) small q h = by (λ rest. numbers_below kinds small.1 q rest) (eqb q (pair_number l)) refl h
  where
    by : (list_any (eqb q) (map pair_number kinds) ≡ true → q < 4096) → (b : Bool) → eqb q (pair_number l) ≡ b → (b || list_any (eqb q) (map pair_number kinds)) ≡ true → q < 4096
    by rest true same h = let number = eqb-true q (pair_number l) same in omega (arith, number, small.0.first, small.0.second)
    by rest false same h = rest h

few_kinds : (kinds : List LockKind) → AllByRecursion IsSmallPair kinds → EachPairOnce kinds → length kinds ≤ 4096
few_kinds kinds small once =
    let few = length-le_from_distinct_below (map pair_number kinds) 4096 (distinct_numbers kinds small once) (numbers_below kinds small) in
    omega (arith, few, length-map kinds pair_number)

small_pairs : (spec : Spec) (kinds : List LockKind) → IsWellFormed spec → AllByRecursion (LockFits spec) kinds → AllByRecursion IsSmallPair kinds
small_pairs spec [] wf f = tt
small_pairs spec (l ∷ kinds) wf f = (record { first = omega (arith, f.0.ordered, f.0.known, wf.few_ops); second = omega (arith, f.0.known, wf.few_ops) }, small_pairs spec kinds wf f.1)

others_left : (l : LockKind) (a b : List LockKind) → AllByRecursion (OtherPair l) (a ++ b) → AllByRecursion (OtherPair l) a
others_left l [] b h = tt
others_left l (m ∷ a) b h = (h.0, others_left l a b h.1)

once_left : (a b : List LockKind) → EachPairOnce (a ++ b) → EachPairOnce a
once_left [] b h = tt
once_left (l ∷ a) b h = (others_left l a b h.0, once_left a b h.1)

once_right : (a b : List LockKind) → EachPairOnce (a ++ b) → EachPairOnce b
once_right [] b h = h
once_right (l ∷ a) b h = once_right a b h.1

pub locks_few : (spec : Spec) (plan : Plan) → IsWellFormed spec → PlanFits spec plan → length plan.locks ≤ 4096
locks_few spec plan wf f = few_kinds plan.locks (small_pairs spec plan.locks wf f.locks_fit) (once_left plan.locks plan.parts f.once)

pub parts_few : (spec : Spec) (plan : Plan) → IsWellFormed spec → PlanFits spec plan → length plan.parts ≤ 4096
parts_few spec plan wf f = few_kinds plan.parts (small_pairs spec plan.parts wf (lock_parts spec plan.parts f.parts_fit)) (once_right plan.locks plan.parts f.once)

-- an operation that isn't declared has no parameters
pub no_params : (ops : List Op) (i : ℕ) → slice_get ops i ≡ None → [] ≡ (get_or ops i no_op).params
no_params [] i none = refl
no_params (o ∷ ops) zero none = absurd cc
no_params (o ∷ ops) (suc i) none = no_params ops i none
