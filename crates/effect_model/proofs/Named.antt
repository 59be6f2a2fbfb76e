-- Which keys and which entries there are.
use Rattle.std.proofs.Common.{◌≡◌, inl, inr, ℕ, zero, suc, ◌+◌, Bool, true, false, List, [], ◌∷◌, map, if◌then◌else◌, refl, ap, ◌∙◌, subst, arith, Some, None}
use Rattle.std.specs.List.{slice_get}
use Rattle.std.specs.Option.{option_map_or}
use Rattle.spec_model.specs.declared.plan.LockKind.{LockKind}
use Rattle.spec_model.specs.declared.right.Right.{Right}
use Rattle.spec_model.specs.declared.right.Right.TheVariants as right
use Rattle.spec_model.specs.declared.spec.Spec.{Spec}
use Rattle.spec_model.specs.AllRights.{key_rights, entry_rights, is_atom}
use Rattle.spec_model.specs.Masks.{places_from, instances_of}
use Rattle.spec_model.specs.Truths.{Signed, clause_in, literals, var_sorts}
use Rattle.spec_model.specs.Universe.{keys_of, sizes_of}
use Rattle.effect_model.specs.Rights.{IsKey, IsEntry, has_atom, key_sorts}
use Rattle.effect_model.proofs.Tuples.{Below}
use Rattle.effect_model.proofs.Members.{Member, on_left, on_right, on_either, mapped, from_map, flat, from_flat, among_tuples, from_tuples}

-- ---- keys

pub key_there : (of : ℕ → List ℕ → Right) (spec : Spec) (n : ℕ) (kinds : List LockKind) (i m : ℕ) (key : List ℕ) → m ≡ n + i → IsKey spec kinds i key → Member (key_rights of spec n kinds) (of m key)
key_there of spec n [] i m key is k = let none : None ≡ Some k.one = k.one_is in absurd cc
key_there of spec n (kind ∷ kinds) zero m key is k =
    let same : Some kind ≡ Some k.one = k.one_is in
    let one : k.one ≡ kind = cc in
    let number : n ≡ m = omega arith in
    let below = subst (λ (z : LockKind). Below (sizes_of spec (key_sorts spec z)) key) one k.within in
    on_left (map (of n) (keys_of spec kind)) (key_rights of spec (n + 1) kinds) (of m key)
    (subst (λ (j : ℕ). Member (map (of n) (keys_of spec kind)) (of j key)) number (mapped (of n) (keys_of spec kind) key (among_tuples (sizes_of spec (key_sorts spec kind)) key below)))
key_there of spec n (kind ∷ kinds) (suc i) m key is k =
    on_right (map (of n) (keys_of spec kind)) (key_rights of spec (n + 1) kinds) (of m key)
    (key_there of spec (n + 1) kinds i m key (omega arith) (record { one = k.one; one_is = k.one_is; within = k.within }))

pub key_found : (of : ℕ → List ℕ → Right) (spec : Spec) (n : ℕ) (kinds : List LockKind) (r : Right) → Member (key_rights of spec n kinds) r → (i : ℕ) × (key : List ℕ) × IsKey spec kinds i key × (of (n + i) key ≡ r)
key_found of spec n [] r m = absurd m
key_found of spec n (kind ∷ kinds) r m = elim (on_either (map (of n) (keys_of spec kind)) (key_rights of spec (n + 1) kinds) r m) [
  | inl here ↦ first (from_map (of n) (keys_of spec kind) r here)
  | inr later ↦ next (key_found of spec (n + 1) kinds r later)
]
  where
    first : (key : List ℕ) × Member (keys_of spec kind) key × (of n key ≡ r) → (i : ℕ) × (key : List ℕ) × IsKey spec (kind ∷ kinds) i key × (of (n + i) key ≡ r)
    first t =
        let number : n + 0 ≡ n = omega arith in
        (0, t.0, record { one = kind; one_is = refl; within = from_tuples (sizes_of spec (key_sorts spec kind)) t.0 t.1 }, ap (λ (j : ℕ). of j t.0) number ∙ t.2)

    next : (i : ℕ) × (key : List ℕ) × IsKey spec kinds i key × (of (n + 1 + i) key ≡ r) → (i : ℕ) × (key : List ℕ) × IsKey spec (kind ∷ kinds) i key × (of (n + i) key ≡ r)
    next t =
        let number : n + suc t.0 ≡ n + 1 + t.0 = omega arith in
        let k = t.2 in
        (suc t.0, t.1, record { one = k.one; one_is = k.one_is; within = k.within }, ap (λ (j : ℕ). of j t.1) number ∙ t.3)

-- ---- entries

abbrev passes_at : (Signed → Bool) → List Signed → ℕ → Bool
passes_at test ls i = option_map_or test (slice_get ls i) false

place_there : (test : Signed → Bool) (k : ℕ) (ls : List Signed) (i m : ℕ) → m ≡ k + i → passes_at test ls i ≡ true → Member (places_from test k ls) m
place_there test k [] i m is passes = absurd cc
place_there test k (l ∷ ls) zero m is passes = rw passes (inl (omega arith))
place_there test k (l ∷ ls) (suc i) m is passes = by (test l) (place_there test (suc k) ls i m (omega arith) passes)
  where
    by : (b : Bool) → Member (places_from test (suc k) ls) m → Member (if b then k ∷ places_from test (suc k) ls else places_from test (suc k) ls) m
    by true later = inr later
    by false later = later

place_found : (test : Signed → Bool) (k : ℕ) (ls : List Signed) (m : ℕ) → Member (places_from test k ls) m → (i : ℕ) × (m ≡ k + i) × (passes_at test ls i ≡ true)
place_found test k [] m h = absurd h
place_found test k (l ∷ ls) m h = by (λ later. next (place_found test (suc k) ls m later)) (test l) refl h
  where
    next : (i : ℕ) × (m ≡ suc k + i) × (passes_at test ls i ≡ true) → (i : ℕ) × (m ≡ k + i) × (passes_at test (l ∷ ls) i ≡ true)
    next t = (suc t.0, omega (arith, t.1), t.2)

    by : (Member (places_from test (suc k) ls) m → (i : ℕ) × (m ≡ k + i) × (passes_at test (l ∷ ls) i ≡ true)) → (b : Bool) → test l ≡ b → Member (if b then k ∷ places_from test (suc k) ls else places_from test (suc k) ls) m
        → (i : ℕ) × (m ≡ k + i) × (passes_at test (l ∷ ls) i ≡ true)
    by rest true passes (inl is) = (0, omega (arith, is), passes)
    by rest true passes (inr later) = rest later
    by rest false passes later = rest later

abbrev atom_places : Spec → ℕ → List ℕ
atom_places spec i = places_from (λ l. is_atom l.literal) 0 (literals (clause_in spec i))

pub entry_there : (spec : Spec) (i : ℕ) (xs : List ℕ) (n : ℕ) → IsEntry spec i xs n → Member (entry_rights spec i) (right.Entry i xs n)
entry_there spec i xs n e =
    flat (λ (ys : List ℕ). map (λ (m : ℕ). right.Entry i ys m) (atom_places spec i)) (instances_of spec i) xs (right.Entry i xs n) (among_tuples (sizes_of spec (var_sorts (clause_in spec i))) xs e.within)
    (mapped (λ (m : ℕ). right.Entry i xs m) (atom_places spec i) n (place_there (λ l. is_atom l.literal) 0 (literals (clause_in spec i)) n n (omega arith) e.atom))

pub entry_found : (spec : Spec) (i : ℕ) (r : Right) → Member (entry_rights spec i) r → (xs : List ℕ) × (n : ℕ) × IsEntry spec i xs n × (right.Entry i xs n ≡ r)
entry_found spec i r m =
    let t = from_flat (λ (ys : List ℕ). map (λ (n : ℕ). right.Entry i ys n) (atom_places spec i)) (instances_of spec i) r m in
    let u = from_map (λ (n : ℕ). right.Entry i t.0 n) (atom_places spec i) r t.2 in
    let p = place_found (λ l. is_atom l.literal) 0 (literals (clause_in spec i)) u.0 u.1 in
    let place : p.0 ≡ u.0 = omega (arith, p.1) in
    (t.0, u.0, record { within = from_tuples (sizes_of spec (var_sorts (clause_in spec i))) t.0 t.1; atom = subst (λ (n : ℕ). has_atom (clause_in spec i) n ≡ true) place p.2 }, u.2)
