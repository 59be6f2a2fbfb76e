-- The rights that there are, kind by kind.
use Rattle.std.proofs.Common.{◌≡◌, ℕ, zero, suc, ◌+◌, true, List, [], ◌∷◌, ◌++◌, map, filter, sym, subst, arith}
use Rattle.std.specs.Prelude.{slice_get, Some, is_some}
use Rattle.std.specs.List.{flat_map}
use Rattle.std.proofs.lemmas.Option.{same_Some}
use Rattle.spec_model.specs.declared.instance.Cell.{Cell}
use Rattle.spec_model.specs.declared.plan.LockKind.{LockKind}
use Rattle.spec_model.specs.declared.plan.Setup.{Setup}
use Rattle.spec_model.specs.declared.right.Right.{Right}
use Rattle.spec_model.specs.declared.right.Right.TheVariants as right
use Rattle.spec_model.specs.declared.spec.Spec.{Spec}
use Rattle.spec_model.specs.AllRights.{entry_rights, high_rights, is_atom, key_rights, low_rights, rights_of}
use Rattle.spec_model.specs.Masks.{instances_of, places_from}
use Rattle.spec_model.specs.Truths.{clause_in, literals}
use Rattle.spec_model.specs.Universe.{cells, keys_of, lower_bound, upper_bound}
use Rattle.run_model.specs.Fitting.{RightFits}
use Rattle.run_model.proofs.Members.{In, in_left, in_right, in_map, in_flat_map}
use Rattle.message_laws.proofs.Listed.{contains_in, in_filter}

-- ---- the lists that all rights are joined of

abbrev pub lock_rights : Setup → List Right
lock_rights setup = key_rights (λ n key. right.Lock n key) setup.spec 0 setup.plan.locks

abbrev pub mask_rights : Setup → List Right
mask_rights setup = flat_map (entry_rights setup.spec) setup.plan.masks

abbrev pub part_rights : Setup → List Right
part_rights setup = key_rights (λ n key. right.Part n key) setup.spec 0 setup.plan.parts

-- ---- of cells

-- to lower a cell with a lower bound
pub low_there : (setup : Setup) (cell : Cell) → In (cells setup.spec) cell → is_some (lower_bound setup.spec cell) ≡ true → RightFits setup (right.Low cell)
low_there setup cell there bound =
    let test = λ (c : Cell). is_some (lower_bound setup.spec c) in
    let at = in_map (λ (c : Cell). right.Low c) (filter test (cells setup.spec)) cell (in_filter test (cells setup.spec) cell there bound) in
    contains_in (rights_of setup) (right.Low cell)
    (in_left (low_rights setup.spec) (high_rights setup.spec ++ (lock_rights setup ++ (mask_rights setup ++ part_rights setup))) (right.Low cell) at)

-- to raise one with an upper bound
pub high_there : (setup : Setup) (cell : Cell) → In (cells setup.spec) cell → is_some (upper_bound setup.spec cell) ≡ true → RightFits setup (right.High cell)
high_there setup cell there bound =
    let test = λ (c : Cell). is_some (upper_bound setup.spec c) in
    let at = in_map (λ (c : Cell). right.High c) (filter test (cells setup.spec)) cell (in_filter test (cells setup.spec) cell there bound) in
    let rest = lock_rights setup ++ (mask_rights setup ++ part_rights setup) in
    contains_in (rights_of setup) (right.High cell)
    (in_right (low_rights setup.spec) (high_rights setup.spec ++ rest) (right.High cell) (in_left (high_rights setup.spec) rest (right.High cell) at))

-- ---- of keys

-- a key of the k-th of the locks or partitions that are counted from n
pub in_key_rights : (of : ℕ → List ℕ → Right) (spec : Spec) (n : ℕ) (kinds : List LockKind) (k m : ℕ) (kind : LockKind) (key : List ℕ) → m ≡ n + k → slice_get kinds k ≡ Some kind → In (keys_of spec kind) key → In (key_rights of spec n kinds) (of m key)
in_key_rights of spec n [] k m kind key is at there = absurd cc
in_key_rights of spec n (first ∷ kinds) zero m kind key is at there =
    let number : n ≡ m = omega (arith, is) in
    let known : In (keys_of spec first) key = subst (λ (l : LockKind). In (keys_of spec l) key) (sym (same_Some first kind at)) there in
    let here : In (map (of n) (keys_of spec first)) (of m key) = subst (λ i. In (map (of n) (keys_of spec first)) (of i key)) number (in_map (of n) (keys_of spec first) key known) in
    in_left (map (of n) (keys_of spec first)) (key_rights of spec (n + 1) kinds) (of m key) here
in_key_rights of spec n (first ∷ kinds) (suc k) m kind key is at there =
    in_right (map (of n) (keys_of spec first)) (key_rights of spec (n + 1) kinds) (of m key) (in_key_rights of spec (n + 1) kinds k m kind key (omega (arith, is)) at there)

-- at a lock's keys
pub lock_there : (setup : Setup) (n : ℕ) (kind : LockKind) (key : List ℕ) → slice_get setup.plan.locks n ≡ Some kind → In (keys_of setup.spec kind) key → RightFits setup (right.Lock n key)
lock_there setup n kind key at there =
    let r : Right = right.Lock n key in
    let here = in_key_rights (λ m q. right.Lock m q) setup.spec 0 setup.plan.locks n n kind key (omega arith) at there in
    let rest = mask_rights setup ++ part_rights setup in
    contains_in (rights_of setup) r
    (in_right (low_rights setup.spec) (high_rights setup.spec ++ (lock_rights setup ++ rest)) r (in_right (high_rights setup.spec) (lock_rights setup ++ rest) r (in_left (lock_rights setup) rest r here)))

-- behind those of cells and locks
behind_locks : (setup : Setup) (r : Right) → In (mask_rights setup ++ part_rights setup) r → RightFits setup r
behind_locks setup r there =
    let rest = mask_rights setup ++ part_rights setup in
    contains_in (rights_of setup) r
    (in_right (low_rights setup.spec) (high_rights setup.spec ++ (lock_rights setup ++ rest)) r (in_right (high_rights setup.spec) (lock_rights setup ++ rest) r (in_right (lock_rights setup) rest r there)))

-- at a partition's keys
pub part_there : (setup : Setup) (n : ℕ) (kind : LockKind) (key : List ℕ) → slice_get setup.plan.parts n ≡ Some kind → In (keys_of setup.spec kind) key → RightFits setup (right.Part n key)
part_there setup n kind key at there =
    let here = in_key_rights (λ m q. right.Part m q) setup.spec 0 setup.plan.parts n n kind key (omega arith) at there in
    behind_locks setup (right.Part n key) (in_right (mask_rights setup) (part_rights setup) (right.Part n key) here)

-- ---- of literals

-- of a marked clause, at elements of its instances, where the literal is an atom
pub entry_there : (setup : Setup) (i : ℕ) (xs : List ℕ) (n : ℕ) → In setup.plan.masks i → In (instances_of setup.spec i) xs → In (places_from (λ l. is_atom l.literal) 0 (literals (clause_in setup.spec i))) n → RightFits setup (right.Entry i xs n)
entry_there setup i xs n marked instance place =
    let r : Right = right.Entry i xs n in
    let places = places_from (λ l. is_atom l.literal) 0 (literals (clause_in setup.spec i)) in
    let entry = in_flat_map (λ (ys : List ℕ). map (λ m. right.Entry i ys m) places) (instances_of setup.spec i) xs r instance (in_map (λ m. right.Entry i xs m) places n place) in
    behind_locks setup r (in_left (mask_rights setup) (part_rights setup) r (in_flat_map (entry_rights setup.spec) setup.plan.masks i r marked entry))
