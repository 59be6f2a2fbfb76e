-- What fits a setup is small: its operations, sorts, tuples and plans.
use Rattle.std.proofs.Common.{◌≡◌, ℕ, zero, suc, ◌+◌, ◌*◌, ◌<◌, ◌≤◌, ◌^◌, Bool, true, false, ◌||◌, eqb, List, [], ◌∷◌, ◌++◌, map, length, get_or, refl, arith}
use Rattle.std.specs.List.{AllByRecursion, AllZip, IsDistinct, flat_map, list_any}
use Rattle.std.proofs.lemmas.Bool.{eqb-true, ne_eqb}
use Rattle.std.proofs.lemmas.List.{length-map}
use Rattle.std.proofs.lemmas.Map.Steps.{length-le_from_distinct_below}
use Rattle.ind_base.specs.declared.span.Span.{Span}
use Rattle.spec_model.specs.declared.clause.Clause.{Clause}
use Rattle.spec_model.specs.declared.clause.Var.{Var}
use Rattle.spec_model.specs.declared.operation.Op.{Op}
use Rattle.spec_model.specs.declared.plan.LockKind.{LockKind}
use Rattle.spec_model.specs.declared.plan.Pair.{Pair}
use Rattle.spec_model.specs.declared.plan.Plan.{Plan}
use Rattle.spec_model.specs.declared.spec.Sort.{Sort}
use Rattle.spec_model.specs.declared.spec.Spec.{Spec}
use Rattle.spec_model.specs.Fits.{ArgFits, ClauseFits, EachPairOnce, IsWellFormed, KeyFits, LockFits, OpFits, OtherPair, PartFits, PlanFits, RisesAbove, SortFits}
use Rattle.spec_model.specs.Truths.{no_clause, no_op, no_sort, op_at, size_of}
use Rattle.spec_model.specs.Universe.{below, sizes_of, tuples}
use Rattle.run_model.proofs.Lists.{each_append, each_weaker}
use Rattle.op_records.specs.Spelling.{AreArgs, IsSpan}

-- ---- lists

-- what holds of each that is mapped
pub each_mapped : {X Y : Type 0} (Q : X → Type 0) (P : Y → Type 0) (f : X → Y) (xs : List X) → AllByRecursion Q xs → ((x : X) → Q x → P (f x)) → AllByRecursion P (map f xs)
each_mapped Q P f [] all so = tt
each_mapped Q P f (x ∷ xs) all so = (so x all.0, each_mapped Q P f xs all.1 so)

-- and of those of lists joined
pub each_joined : {X Y : Type 0} (Q : X → Type 0) (P : Y → Type 0) (f : X → List Y) (xs : List X) → AllByRecursion Q xs → ((x : X) → Q x → AllByRecursion P (f x)) → AllByRecursion P (flat_map f xs)
each_joined Q P f [] all so = tt
each_joined Q P f (x ∷ xs) all so = each_append P (f x) (flat_map f xs) (so x all.0) (each_joined Q P f xs all.1 so)

-- ---- tuples

size_few : (sorts : List Sort) (s : ℕ) → AllByRecursion SortFits sorts → (get_or sorts s no_sort).size ≤ 1024
size_few [] s all = omega arith
size_few (x ∷ sorts) zero all = all.0.few
size_few (x ∷ sorts) (suc s) all = size_few sorts s all.1

-- a sort has at most 1024 elements
pub sort_few : (spec : Spec) (s : ℕ) → IsWellFormed spec → size_of spec s ≤ 1024
sort_few spec s well = size_few spec.sorts s well.sorts

below_small : (n : ℕ) → n ≤ 1024 → AllByRecursion (λ x. x < 2 ^ 16) (below n)
below_small zero le = tt
below_small (suc n) le = each_append (λ x. x < 2 ^ 16) (below n) (n ∷ []) (below_small n (omega (arith, le))) (omega (arith, le), tt)

-- at most so many elements
record IsShort (n : ℕ) (xs : List ℕ) : Type 0 where
  few : length xs ≤ n
  small : AllByRecursion (λ x. x < 2 ^ 16) xs

tuples_short : (sizes : List ℕ) → AllByRecursion (λ n. n ≤ 1024) sizes → AllByRecursion (IsShort (length sizes)) (tuples sizes)
tuples_short [] all = (record { few = omega arith; small = tt }, tt)
tuples_short (size ∷ sizes) all =
    let rest = tuples_short sizes all.1 in
    each_joined (λ x. x < 2 ^ 16) (IsShort (length (size ∷ sizes))) (λ x. map (λ xs. x ∷ xs) (tuples sizes)) (below size) (below_small size all.0) (λ x small.
    each_mapped (IsShort (length sizes)) (IsShort (length (size ∷ sizes))) (λ xs. x ∷ xs) (tuples sizes) rest (λ xs h. record { few = omega (arith, h.few); small = (small, h.small) }))

sizes_few : (spec : Spec) (sorts : List ℕ) → IsWellFormed spec → AllByRecursion (λ n. n ≤ 1024) (sizes_of spec sorts)
sizes_few spec [] well = tt
sizes_few spec (s ∷ sorts) well = (sort_few spec s well, sizes_few spec sorts well)

-- tuples of at most four elements
pub tuples_small : (spec : Spec) (sorts : List ℕ) → IsWellFormed spec → length sorts ≤ 4 → AllByRecursion AreArgs (tuples (sizes_of spec sorts))
tuples_small spec sorts well few =
    each_weaker (IsShort (length (sizes_of spec sorts))) AreArgs (λ xs h. record { few = omega (arith, h.few, length-map sorts (size_of spec), few); small = h.small })
    (tuples (sizes_of spec sorts)) (tuples_short (sizes_of spec sorts) (sizes_few spec sorts well))

-- ---- operations and clauses

-- an operation has at most four parameters
pub params_few : (spec : Spec) (ops : List Op) (i : ℕ) → AllByRecursion (OpFits spec) ops → length (get_or ops i no_op).params ≤ 4
params_few spec [] i all = omega arith
params_few spec (o ∷ ops) zero all = all.0.few_params
params_few spec (o ∷ ops) (suc i) all = params_few spec ops i all.1

-- at most four variables and eight literals
abbrev pub IsSmallClause : Clause → Type 0
IsSmallClause c = (length c.vars ≤ 4) × (length c.premise + length c.conclusion ≤ 8)

pub clause_small : (spec : Spec) (clauses : List Clause) (i : ℕ) → AllByRecursion (ClauseFits spec) clauses → IsSmallClause (get_or clauses i no_clause)
clause_small spec [] i all = (omega arith, omega arith)
clause_small spec (c ∷ clauses) zero all = (all.0.few_vars, all.0.few_literals)
clause_small spec (c ∷ clauses) (suc i) all = clause_small spec clauses i all.1

-- arguments that fit are spans, no more than parameters
pub args_small : (spec : Spec) (params : List Var) (args : List Span) → IsWellFormed spec → AllZip (ArgFits spec) params args → (length args ≤ length params) × AllByRecursion IsSpan args
args_small spec [] [] well fits = (omega arith, tt)
args_small spec [] (a ∷ args) well fits = absurd fits
args_small spec (p ∷ params) [] well fits = absurd fits
args_small spec (p ∷ params) (a ∷ args) well fits =
    let rest = args_small spec params args well fits.1 in
    let few = sort_few spec p.sort well in
    (omega (arith, rest.0), (record { ordered = fits.0.ordered; small = omega (arith, fits.0.fits, few) }, rest.1))

-- ---- plans

-- a key has at most four places
abbrev pub HasShortKey : LockKind → Type 0
HasShortKey kind = length kind.key ≤ 4

rises_short : (pa pb : List Var) (n : ℕ) (key : List Pair) → n ≤ length pa → AllByRecursion (KeyFits pa pb) key → RisesAbove n key → n + length key ≤ length pa
rises_short pa pb n [] upto fits rises = omega arith
rises_short pa pb n (k ∷ key) upto fits rises =
    let rest = rises_short pa pb (suc k.a) key (omega (arith, fits.0.within_a)) fits.1 rises.1 in
    omega (arith, rest, rises.0)

pub short_key : (spec : Spec) (kind : LockKind) → IsWellFormed spec → LockFits spec kind → HasShortKey kind
short_key spec kind well fits =
    let short = rises_short (op_at spec kind.a).params (op_at spec kind.b).params 0 kind.key (omega arith) fits.key_fits fits.key_rises in
    omega (arith, short, params_few spec spec.ops kind.a well.ops)

-- a number for the pair of operations
abbrev pair_number : LockKind → ℕ
pair_number l = l.a * 64 + l.b

-- of operations below 64
record IsSmallPair (l : LockKind) : Type 0 where
  first : l.a < 64
  second : l.b < 64

other_number : (l m : LockKind) → IsSmallPair l → IsSmallPair m → OtherPair l m → eqb (pair_number l) (pair_number m) ≡ false
other_number l m sl sm other = ne_eqb (pair_number l) (pair_number m) (λ same.
    let first : l.a ≡ m.a = omega (arith, same, sl.second, sm.second) in
    let second : l.b ≡ m.b = omega (arith, same, sl.second, sm.second) in
    other first second)

other_numbers : (l : LockKind) (kinds : List LockKind) → IsSmallPair l → AllByRecursion IsSmallPair kinds → AllByRecursion (OtherPair l) kinds → AllByRecursion (λ n. eqb (pair_number l) n ≡ false) (map pair_number kinds)
other_numbers l [] sl small others = tt
other_numbers l (m ∷ kinds) sl small others = (other_number l m sl small.0 others.0, other_numbers l kinds sl small.1 others.1)

distinct_numbers : (kinds : List LockKind) → AllByRecursion IsSmallPair kinds → EachPairOnce kinds → IsDistinct eqb (map pair_number kinds)
unfolding IsDistinct
distinct_numbers [] small once = tt
distinct_numbers (l ∷ kinds) small once = (other_numbers l kinds small.0 small.1 once.0, distinct_numbers kinds small.1 once.1)

numbers_below : (kinds : List LockKind) → AllByRecursion IsSmallPair kinds → (q : ℕ) → list_any (eqb q) (map pair_number kinds) ≡ true → q < 4096
numbers_below [] small q h = absurd cc
numbers_below (l ∷ kinds) small q h = by (λ rest. numbers_below kinds small.1 q rest) (eqb q (pair_number l)) refl h
  where
    by : (list_any (eqb q) (map pair_number kinds) ≡ true → q < 4096) → (b : Bool) → eqb q (pair_number l) ≡ b → (b || list_any (eqb q) (map pair_number kinds)) ≡ true → q < 4096
    by rest true same h = let number = eqb-true q (pair_number l) same in omega (arith, number, small.0.first, small.0.second)
    by rest false same h = rest h

-- pairs of operations that stand once are few
kinds_few : (kinds : List LockKind) → AllByRecursion IsSmallPair kinds → EachPairOnce kinds → length kinds ≤ 4096
kinds_few kinds small once =
    let few = length-le_from_distinct_below (map pair_number kinds) 4096 (distinct_numbers kinds small once) (numbers_below kinds small) in
    omega (arith, few, length-map kinds pair_number)

small_pair : (spec : Spec) (l : LockKind) → IsWellFormed spec → LockFits spec l → IsSmallPair l
small_pair spec l well fits = record { first = omega (arith, fits.ordered, fits.known, well.few_ops); second = omega (arith, fits.known, well.few_ops) }

-- locks and partitions together are at most 4096
pub plan_few : (spec : Spec) (plan : Plan) → IsWellFormed spec → PlanFits spec plan → length (plan.locks ++ plan.parts) ≤ 4096
plan_few spec plan well fits =
    let locks = each_weaker (LockFits spec) IsSmallPair (λ l f. small_pair spec l well f) plan.locks fits.locks_fit in
    let parts = each_weaker (PartFits spec) IsSmallPair (λ l f. small_pair spec l well f.lock) plan.parts fits.parts_fit in
    kinds_few (plan.locks ++ plan.parts) (each_append IsSmallPair plan.locks plan.parts locks parts) fits.once
