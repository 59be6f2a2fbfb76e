-- Each right that there is is conserved, or of a partition.
use Rattle.std.proofs.Common.{◌≡◌, ◌⊎◌, inl, inr, ℕ, ◌+◌, Bool, true, List, [], ◌∷◌, map, filter, refl, eq-eqb}
use Rattle.std.specs.Prelude.{Contains, is_some}
use Rattle.std.specs.List.{AllByRecursion}
use Rattle.std.proofs.lemmas.Bool.{and_from}
use Rattle.std.proofs.lemmas.Slice.Eq.{bytes_eq-Decides}
use Rattle.spec_model.specs.declared.plan.LockKind.{LockKind}
use Rattle.spec_model.specs.declared.plan.Setup.{Setup}
use Rattle.spec_model.specs.declared.spec.Spec.{Spec}
use Rattle.spec_model.specs.declared.instance.Cell.{Cell}
use Rattle.spec_model.specs.declared.right.Right.{Right}
use Rattle.spec_model.specs.declared.right.Right.TheVariants as right
use Rattle.spec_model.specs.AllRights.{entry_rights, high_rights, is_atom, key_rights, low_rights, rights_of}
use Rattle.spec_model.specs.Changes.{same_cell}
use Rattle.spec_model.specs.Masks.{instances_of, places_from}
use Rattle.spec_model.specs.Truths.{clause_in, literals}
use Rattle.spec_model.specs.Universe.{cells, keys_of, lower_bound, upper_bound}
use Rattle.run_model.specs.Balance.{IsConserved}
use Rattle.run_model.specs.Fitting.{RightFits}
use Rattle.run_model.specs.Rights.{same_right}
use Rattle.run_model.proofs.Lists.{each_append, each_at, each_filter}
use Rattle.message_laws.proofs.Listed.{each_flat_map, each_map, in_contained}
use Rattle.message_laws.proofs.Lists.{each_among}
use Rattle.message_laws.proofs.Sections.{lock_rights, mask_rights, part_rights}

-- of a partition
abbrev pub IsOfPart : Right → Type 0
IsOfPart r = (part : ℕ) × (key : List ℕ) × (r ≡ right.Part part key)

-- conserved, or of a partition
abbrev IsEither : Spec → Right → Type 0
IsEither spec r = IsConserved spec r ⊎ IsOfPart r

-- of each lock or partition at each key
keys_each : (P : Right → Type 0) (of : ℕ → List ℕ → Right) (spec : Spec) (n : ℕ) (kinds : List LockKind) → ((m : ℕ) (key : List ℕ) → P (of m key)) → AllByRecursion P (key_rights of spec n kinds)
keys_each P of spec n [] so = tt
keys_each P of spec n (kind ∷ kinds) so = each_append P _ _ (each_map P (of n) (keys_of spec kind) (λ key there. so n key)) (keys_each P of spec (n + 1) kinds so)

-- of the cells that pass a test
cells_each : (spec : Spec) (P : Right → Type 0) (of : Cell → Right) (test : Cell → Bool) → ((cell : Cell) → Contains (cells spec) cell → P (of cell)) → AllByRecursion P (map of (filter test (cells spec)))
cells_each spec P of test so = mapped (filter test (cells spec)) (each_filter (Contains (cells spec)) test (cells spec) (each_among (cells spec)))
  where
    mapped : (cs : List Cell) → AllByRecursion (λ c. Contains (cells spec) c × (test c ≡ true)) cs → AllByRecursion P (map of cs)
    mapped [] all = tt
    mapped (c ∷ cs) all = (so c all.0.0, mapped cs all.1)

-- of the literals of a marked clause
entries_each : (spec : Spec) (i : ℕ) → AllByRecursion (IsEither spec) (entry_rights spec i)
entries_each spec i =
    let places : List ℕ = places_from (λ l. is_atom l.literal) 0 (literals (clause_in spec i)) in
    each_flat_map (IsEither spec) (λ (xs : List ℕ). map (λ n. right.Entry i xs n) places) (instances_of spec i) (λ xs there. each_map (IsEither spec) (λ (n : ℕ). right.Entry i xs n) places (λ n at. inl refl))

-- each right that fits is conserved, or of a partition
pub right_kind : (setup : Setup) (r : Right) → RightFits setup r → IsConserved setup.spec r ⊎ IsOfPart r
right_kind setup r fits =
    let spec = setup.spec in
    let P : Right → Type 0 = IsEither spec in
    let lows : AllByRecursion P (low_rights spec) = cells_each spec P (λ c. right.Low c) (λ c. is_some (lower_bound spec c)) (λ c there. inl there) in
    let highs : AllByRecursion P (high_rights spec) = cells_each spec P (λ c. right.High c) (λ c. is_some (upper_bound spec c)) (λ c there. inl there) in
    let locks : AllByRecursion P (lock_rights setup) = keys_each P (λ n key. right.Lock n key) spec 0 setup.plan.locks (λ n key. inl refl) in
    let entries : AllByRecursion P (mask_rights setup) = each_flat_map P (entry_rights spec) setup.plan.masks (λ i there. entries_each spec i) in
    let parts : AllByRecursion P (part_rights setup) = keys_each P (λ n key. right.Part n key) spec 0 setup.plan.parts (λ n key. inr (n, key, refl)) in
    let all : AllByRecursion P (rights_of setup) = each_append P _ _ lows (each_append P _ _ highs (each_append P _ _ locks (each_append P _ _ entries parts))) in
    let there = in_contained (rights_of setup) r fits in
    each_at P (rights_of setup) there.0 r all there.1

-- a right is itself
cell_self : (a : Cell) → same_cell a a ≡ true
cell_self a = and_from _ _ (eq-eqb a.num a.num refl) ((bytes_eq-Decides a.args a.args).1 refl)

pub right_self : (r : Right) → same_right r r ≡ true
right_self (right.Low a) = cell_self a
right_self (right.High a) = cell_self a
right_self (right.Lock l key) = and_from _ _ (eq-eqb l l refl) ((bytes_eq-Decides key key).1 refl)
right_self (right.Entry c args i) = and_from _ _ (and_from _ _ (eq-eqb c c refl) ((bytes_eq-Decides args args).1 refl)) (eq-eqb i i refl)
right_self (right.Part q key) = and_from _ _ (eq-eqb q q refl) ((bytes_eq-Decides key key).1 refl)
