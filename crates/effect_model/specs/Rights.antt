-- The rights of a setup, and when there is one.
use Rattle.std.specs.Prelude.{◌≡◌, ℕ, ◌+◌, Bool, true, false, if◌then◌else◌, List, [], ◌∷◌, ◌++◌, map, is_some, slice_get, Some, Contains, length, ◌≤◌}
use Rattle.std.specs.Option.{option_map_or}
use Rattle.spec_model.specs.declared.clause.Clause.{Clause}
use Rattle.spec_model.specs.declared.clause.Literal.{Literal}
use Rattle.spec_model.specs.declared.plan.LockKind.{LockKind}
use Rattle.spec_model.specs.declared.plan.Setup.{Setup}
use Rattle.spec_model.specs.declared.right.Right.{Right}
use Rattle.spec_model.specs.declared.right.Right.TheVariants as right
use Rattle.spec_model.specs.declared.spec.Num.{Num}
use Rattle.spec_model.specs.declared.spec.Spec.{Spec}
use Rattle.spec_model.specs.AllRights.{is_atom}
use Rattle.spec_model.specs.Masks.{places_from}
use Rattle.spec_model.specs.Truths.{Within, clause_in, literals, op_at, sort_of, var_sorts}
use Rattle.spec_model.specs.Universe.{lower_bound, upper_bound, sizes_of, tuples}
use Rattle.effect_model.specs.declared.right_list.Family.{Family}
use Rattle.effect_model.specs.declared.right_list.Family.TheVariants as family
use Rattle.effect_model.specs.Places.{CellFits}

-- the sorts of a lock's or a partition's key
abbrev pub key_sorts : Spec → LockKind → List ℕ
key_sorts spec kind = map (λ k. sort_of (op_at spec kind.a).params k.a) kind.key

-- keys of at most four elements
abbrev pub HasShortKey : LockKind → Type 0
HasShortKey kind = length kind.key ≤ 4

-- a key of one of these locks or partitions
pub record IsKey (spec : Spec) (kinds : List LockKind) (n : ℕ) (key : List ℕ) : Type 0 where
  pub one : LockKind
  pub one_is : slice_get kinds n ≡ Some one
  pub within : Within (λ s. s) (sizes_of spec (key_sorts spec one)) key

-- the literal of a clause at this place is an atom
abbrev pub has_atom : Clause → ℕ → Bool
has_atom c n = option_map_or (λ l. is_atom l.literal) (slice_get (literals c) n) false

-- an atom of a clause, at elements of its variables' sorts
pub record IsEntry (spec : Spec) (i : ℕ) (xs : List ℕ) (n : ℕ) : Type 0 where
  pub within : Within (λ s. s) (sizes_of spec (var_sorts (clause_in spec i))) xs
  pub atom : has_atom (clause_in spec i) n ≡ true

-- there is this right
abbrev pub RightFits : Setup → Right → Type 0
RightFits setup (right.Low cell) = CellFits setup.spec cell × (is_some (lower_bound setup.spec cell) ≡ true)
RightFits setup (right.High cell) = CellFits setup.spec cell × (is_some (upper_bound setup.spec cell) ≡ true)
RightFits setup (right.Lock n key) = IsKey setup.spec setup.plan.locks n key
RightFits setup (right.Entry i xs n) = Contains setup.plan.masks i × IsEntry setup.spec i xs n
RightFits setup (right.Part n key) = IsKey setup.spec setup.plan.parts n key

-- the right of a family: of the n-th number, lock or partition, at these elements
abbrev pub right_at : Family → ℕ → List ℕ → Right
right_at family.Low n xs = right.Low (record { num = n; args = xs })
right_at family.High n xs = right.High (record { num = n; args = xs })
right_at family.Lock n xs = right.Lock n xs
right_at family.Part n xs = right.Part n xs

-- a number has the bound that rights of the family keep
abbrev pub has_bound : Family → Num → Bool
has_bound family.Low num = is_some num.min
has_bound family.High num = is_some num.max
has_bound family.Lock num = false
has_bound family.Part num = false

-- the rights of a family, if there are any
abbrev pub rights_below : Family → ℕ → Bool → List ℕ → List Right
rights_below f n any sizes = if any then map (right_at f n) (tuples sizes) else []

-- the rights of the numbers from the k-th on
abbrev pub cell_rights : Family → Spec → ℕ → List Num → List Right
cell_rights f spec k [] = []
cell_rights f spec k (num ∷ nums) = rights_below f k (has_bound f num) (sizes_of spec num.sorts) ++ cell_rights f spec (k + 1) nums

-- the right to an entry, where its literal is an atom
abbrev pub entry_where : Right → Literal → List Right
entry_where r l = if is_atom l then r ∷ [] else []

-- the rights to the entries of these literals, which stand from place k on
abbrev pub entries_from : ℕ → List ℕ → ℕ → List Literal → List Right
entries_from i xs k [] = []
entries_from i xs k (l ∷ ls) = entry_where (right.Entry i xs k) l ++ entries_from i xs (k + 1) ls

-- the rights to the entries of an instance of a clause
abbrev pub entries_of : ℕ → Clause → List ℕ → List Right
entries_of i c xs = map (λ n. right.Entry i xs n) (places_from (λ l. is_atom l.literal) 0 (literals c))

-- at most eight literals
abbrev pub HasFewLiterals : Clause → Type 0
HasFewLiterals c = length c.premise + length c.conclusion ≤ 8
