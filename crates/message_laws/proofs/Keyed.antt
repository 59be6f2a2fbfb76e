-- The keys and intervals of instances that fit: elements of the sorts of locks and partitions.
use Rattle.std.proofs.Common.{◌≡◌, ◌⊎◌, inl, inr, ℕ, zero, suc, ◌+◌, ◌<◌, Bool, true, false, List, [], ◌∷◌, map, length, get_or, refl, sym, ap, subst, ◌∙◌, arith, eqb-true}
use Rattle.std.specs.Prelude.{slice_get, Some, None, Option, ◌==◌, ◌||◌, if◌then◌else◌}
use Rattle.std.specs.List.{AllByRecursion, AllZip}
use Rattle.std.specs.Option.{option_map, option_map_or}
use Rattle.std.proofs.lemmas.Option.{same_Some}
use Rattle.std.proofs.lemmas.Bool.{cases_Bool, cond-true, cond-false}
use Rattle.ind_base.specs.declared.span.Span.{Span}
use Rattle.spec_model.specs.declared.clause.Var.{Var}
use Rattle.spec_model.specs.declared.instance.Inst.{Inst}
use Rattle.spec_model.specs.declared.plan.LockKind.{LockKind}
use Rattle.spec_model.specs.declared.plan.Pair.{Pair}
use Rattle.spec_model.specs.declared.right.Need.{Need}
use Rattle.spec_model.specs.declared.spec.Spec.{Spec}
use Rattle.spec_model.specs.Changes.{elements_at}
use Rattle.spec_model.specs.Fits.{ArgFits, InstFits, KeyFits, LockFits, has_interval}
use Rattle.spec_model.specs.Needs.{key_at, key_needs}
use Rattle.spec_model.specs.Separated.{interval_place}
use Rattle.spec_model.specs.Truths.{Within, no_span, no_var, op_at, size_of, sort_of}
use Rattle.spec_model.specs.Universe.{keys_of}
use Rattle.run_model.proofs.Broken.{in_tuples}
use Rattle.run_model.proofs.Lists.{each_append}
use Rattle.run_model.proofs.Members.{In}

-- ---- arguments

-- the argument of a parameter fits it
pub arg_at : (spec : Spec) (params : List Var) (args : List Span) (i : ℕ) → AllZip (ArgFits spec) params args → i < length params → ArgFits spec (get_or params i no_var) (get_or args i no_span)
arg_at spec [] args i fits lt = absurd (omega (arith, lt))
arg_at spec (p ∷ params) [] i fits lt = absurd fits
arg_at spec (p ∷ params) (a ∷ args) zero fits lt = fits.0
arg_at spec (p ∷ params) (a ∷ args) (suc i) fits lt = arg_at spec params args i fits.1 (omega (arith, lt))

-- its element is one of the parameter's sort
element_small : (spec : Spec) (params : List Var) (args : List Span) (i : ℕ) → AllZip (ArgFits spec) params args → i < length params → option_map_or (λ s. s.lo) (slice_get args i) 0 < size_of spec (sort_of params i)
element_small spec [] args i fits lt = absurd (omega (arith, lt))
element_small spec (p ∷ params) [] i fits lt = absurd fits
element_small spec (p ∷ params) (a ∷ args) zero fits lt = omega (arith, fits.0.ordered, fits.0.fits)
element_small spec (p ∷ params) (a ∷ args) (suc i) fits lt = element_small spec params args i fits.1 (omega (arith, lt))

-- the interval parameter is one of the parameters
pub interval_within : (params : List Var) → has_interval params ≡ true → interval_place params < length params
interval_within [] h = absurd cc
interval_within (p ∷ params) h = first p.interval (interval_place params) (length params) (has_interval params) h (interval_within params)
  where
    first : (b : Bool) (place long : ℕ) (later : Bool) → (b || later) ≡ true → (later ≡ true → place < long) → (if b then 0 else suc place) < suc long
    first true place long later h rest = omega arith
    first false place long later h rest = let lt = rest h in omega (arith, lt)

-- ---- keys

-- a pair's place is a parameter of this sort
abbrev pub IsOfSort : List Var → (Pair → ℕ) → (Pair → ℕ) → Pair → Type 0
IsOfSort params place sort k = (place k < length params) × (sort_of params (place k) ≡ sort k)

-- elements at places of these sorts are elements of them
key_within : (spec : Spec) (params : List Var) (args : List Span) (place sort : Pair → ℕ) (key : List Pair) → AllZip (ArgFits spec) params args → AllByRecursion (IsOfSort params place sort) key → Within (size_of spec) (map sort key) (elements_at args (map place key))
key_within spec params args place sort [] fits all = tt
key_within spec params args place sort (k ∷ key) fits all = (
  subst (λ s. option_map_or (λ (a : Span). a.lo) (slice_get args (place k)) 0 < size_of spec s) all.0.1 (element_small spec params args (place k) fits all.0.0),
  key_within spec params args place sort key fits all.1,
)

abbrev pub first_place : Pair → ℕ
first_place k = k.a

abbrev pub second_place : Pair → ℕ
second_place k = k.b

-- the places of both operations have the sorts of the first one's
first_sorts : (pa pb : List Var) (key : List Pair) → AllByRecursion (KeyFits pa pb) key → AllByRecursion (IsOfSort pa first_place (λ k. sort_of pa k.a)) key
first_sorts pa pb [] all = tt
first_sorts pa pb (k ∷ key) all = ((all.0.within_a, refl), first_sorts pa pb key all.1)

second_sorts : (pa pb : List Var) (key : List Pair) → AllByRecursion (KeyFits pa pb) key → AllByRecursion (IsOfSort pb second_place (λ k. sort_of pa k.a)) key
second_sorts pa pb [] all = tt
second_sorts pa pb (k ∷ key) all = ((all.0.within_b, sym all.0.one_sort), second_sorts pa pb key all.1)

-- the key is that of the first operation, or that of the second
abbrev pub IsKeyBy : LockKind → Inst → List ℕ → Type 0
IsKeyBy kind inst key = ((inst.op ≡ kind.a) × (elements_at inst.args (map first_place kind.key) ≡ key)) ⊎ ((inst.op ≡ kind.b) × (elements_at inst.args (map second_place kind.key) ≡ key))

pub key_by : (kind : LockKind) (inst : Inst) (key : List ℕ) → key_at kind inst ≡ Some key → IsKeyBy kind inst key
key_by kind inst key is =
    let elements = option_map (elements_at inst.args) in
    let first : Option (List ℕ) = Some (map first_place kind.key) in
    let second : Option (List ℕ) = Some (map second_place kind.key) in
    elim (cases_Bool (inst.op == kind.a)) [
      | inl yes' ↦ inl (eqb-true inst.op kind.a yes', same_Some _ key (sym (ap elements (cond-true (inst.op == kind.a) first _ yes')) ∙ is))
      | inr no' ↦
          let other = ap elements (cond-false (inst.op == kind.a) first _ no') in
          elim (cases_Bool (inst.op == kind.b)) [
            | inl yes' ↦ inr (eqb-true inst.op kind.b yes', same_Some _ key (sym (other ∙ ap elements (cond-true (inst.op == kind.b) second None yes')) ∙ is))
            | inr neither ↦
                let none : None ≡ Some key = sym (other ∙ ap elements (cond-false (inst.op == kind.b) second None neither)) ∙ is in
                absurd cc
          ]
    ]

-- the arguments fit the operation's parameters
pub args_of : (spec : Spec) (inst : Inst) (op : ℕ) → InstFits spec inst → inst.op ≡ op → AllZip (ArgFits spec) (op_at spec op).params inst.args
args_of spec inst op fits is = subst (λ i. AllZip (ArgFits spec) (op_at spec i).params inst.args) is fits.args_fit

-- the key of an instance is one of the keys that there are
pub key_known : (spec : Spec) (kind : LockKind) (inst : Inst) (key : List ℕ) → LockFits spec kind → InstFits spec inst → key_at kind inst ≡ Some key → In (keys_of spec kind) key
key_known spec kind inst key fits inst_fits is =
    let pa = (op_at spec kind.a).params in
    let pb = (op_at spec kind.b).params in
    let sort = λ (k : Pair). sort_of pa k.a in
    elim (key_by kind inst key is) [
      | inl first ↦
          in_tuples (size_of spec) (map sort kind.key) key
          (subst (Within (size_of spec) (map sort kind.key)) first.1 (key_within spec pa inst.args first_place sort kind.key (args_of spec inst kind.a inst_fits first.0) (first_sorts pa pb kind.key fits.key_fits)))
      | inr second ↦
          in_tuples (size_of spec) (map sort kind.key) key
          (subst (Within (size_of spec) (map sort kind.key)) second.1 (key_within spec pb inst.args second_place sort kind.key (args_of spec inst kind.b inst_fits second.0) (second_sorts pa pb kind.key fits.key_fits)))
    ]

-- ---- needs on keys

-- of the one need at a key, where there is a key
one_key : (P : Need → Type 0) (need : List ℕ → Need) (o : Option (List ℕ)) → ((key : List ℕ) → o ≡ Some key → P (need key)) → AllByRecursion P (option_map_or (λ key. need key ∷ []) o [])
one_key P need None h = tt
one_key P need (Some key) h = (h key refl, tt)

-- what holds of the need at the instance's key of each lock or partition
pub each_key_need : (P : Need → Type 0) (need : ℕ → LockKind → List ℕ → Need) (inst : Inst) (n : ℕ) (kinds : List LockKind)
    → ((k m : ℕ) (kind : LockKind) (key : List ℕ) → m ≡ n + k → slice_get kinds k ≡ Some kind → key_at kind inst ≡ Some key → P (need m kind key)) → AllByRecursion P (key_needs need inst n kinds)
each_key_need P need inst n [] h = tt
each_key_need P need inst n (kind ∷ kinds) h =
    each_append P (option_map_or (λ key. need n kind key ∷ []) (key_at kind inst) []) (key_needs need inst (n + 1) kinds)
    (one_key P (need n kind) (key_at kind inst) (λ key at. h 0 n kind key (omega arith) refl at))
    (each_key_need P need inst (n + 1) kinds (λ k m other key is there at. h (suc k) m other key (omega (arith, is)) there at))
