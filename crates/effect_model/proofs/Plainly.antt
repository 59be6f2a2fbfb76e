-- Which needs are witnesses, part by part.
use Rattle.std.proofs.Common.{◌≡◌, ℕ, ◌+◌, Bool, true, false, not, ◌||◌, if◌then◌else◌, cond, List, [], ◌∷◌, ◌++◌, map, filter, nat_lt, refl, sym, ap, ◌∙◌, Option, Some, None}
use Rattle.std.specs.List.{flat_map, AllByRecursion}
use Rattle.std.specs.Option.{option_map_or}
use Rattle.std.proofs.lemmas.List.Elements.{filter-append}
use Rattle.spec_model.specs.declared.clause.Clause.{Clause}
use Rattle.spec_model.specs.declared.instance.Cell.{Cell}
use Rattle.spec_model.specs.declared.instance.Inst.{Inst}
use Rattle.spec_model.specs.declared.plan.LockKind.{LockKind}
use Rattle.spec_model.specs.declared.plan.Setup.{Setup}
use Rattle.spec_model.specs.declared.right.Amount.TheVariants as amount
use Rattle.spec_model.specs.declared.right.Need.{Need}
use Rattle.spec_model.specs.declared.right.Right.{Right}
use Rattle.spec_model.specs.declared.right.Right.TheVariants as right
use Rattle.spec_model.specs.declared.spec.Spec.{Spec}
use Rattle.spec_model.specs.Breaks.{laid_over}
use Rattle.spec_model.specs.Masks.{allow_need, clause_needs, falsified_places, falsifies, instance_needs, instances_of, is_given, mask_needs, true_places, witness_need}
use Rattle.spec_model.specs.Needs.{escrow_need, escrow_needs, key_at, key_needs, lock_need, part_need, spends}
use Rattle.spec_model.specs.Truths.{Truths, clause_in}
use Rattle.spec_model.specs.Universe.{cells}
use Rattle.effect_model.specs.declared.masking.Wanted.{Wanted}
use Rattle.effect_model.specs.Masking.{needs_wanted, wanted_needs, wanted_of, wanted_of_masks}
use Rattle.effect_model.specs.Plain.{PlainNeedsAreFixed, is_plain, is_witness, plain_needs}
use Rattle.effect_model.proofs.Needed.{all_both, all_flat, cell_escrow}

-- what a call wants of masks
abbrev pub allows : Wanted
allows = record { allows = true; witness = false }

abbrev pub witness : Wanted
witness = record { allows = false; witness = true }

-- ---- filters

kept_all : {X : Type 0} (p : X → Bool) (xs : List X) → AllByRecursion (λ x. p x ≡ true) xs → filter p xs ≡ xs
kept_all p [] all = refl
kept_all p (x ∷ xs) all = ap (λ b. cond b (x ∷ filter p xs) (filter p xs)) all.0 ∙ ap (λ ys. x ∷ ys) (kept_all p xs all.1)

filter_each : {X Y : Type 0} (p : Y → Bool) (f g : X → List Y) → ((x : X) → filter p (f x) ≡ g x) → (xs : List X) → filter p (flat_map f xs) ≡ flat_map g xs
filter_each p f g same [] = refl
filter_each p f g same (x ∷ xs) = filter-append p (f x) (flat_map f xs) ∙ rw (same x, filter_each p f g same xs) refl

filter_else : {X : Type 0} (p : X → Bool) (b : Bool) (xs ys vs ws : List X) → filter p xs ≡ vs → filter p ys ≡ ws → filter p (if b then [] else xs ++ ys) ≡ (if b then [] else vs ++ ws)
filter_else p true xs ys vs ws e f = refl
filter_else p false xs ys vs ws e f = filter-append p xs ys ∙ rw (e, f) refl

-- ---- needs of marked clauses

allows_plain : (i : ℕ) (xs ns : List ℕ) → filter is_plain (map (allow_need i xs) ns) ≡ map (allow_need i xs) ns
allows_plain i xs [] = refl
allows_plain i xs (n ∷ ns) = ap (λ (ys : List Need). allow_need i xs n ∷ ys) (allows_plain i xs ns)

no_witness : (i : ℕ) (xs ns : List ℕ) → filter is_witness (map (allow_need i xs) ns) ≡ []
no_witness i xs [] = refl
no_witness i xs (n ∷ ns) = no_witness i xs ns

none_plain : (i : ℕ) (xs ns : List ℕ) → filter is_plain (witness_need i xs ns) ≡ []
none_plain i xs [] = refl
none_plain i xs (n ∷ ns) = refl

all_witness : (i : ℕ) (xs ns : List ℕ) → filter is_witness (witness_need i xs ns) ≡ witness_need i xs ns
all_witness i xs [] = refl
all_witness i xs (n ∷ ns) = refl

plain_here : (spec : Spec) (inst : Inst) (s : Truths) (i : ℕ) (c : Clause) (xs : List ℕ) → filter is_plain (instance_needs spec inst s i c xs) ≡ wanted_needs allows spec inst s i c xs
plain_here spec inst s i c xs =
    let falsified = falsified_places spec inst xs c in
    let left = true_places (laid_over spec inst s) xs c in
    filter_else is_plain (is_given xs c || not (falsifies spec inst xs c)) (map (allow_need i xs) falsified) (witness_need i xs left) (map (allow_need i xs) falsified) [] (allows_plain i xs falsified) (none_plain i xs left)

witness_here : (spec : Spec) (inst : Inst) (s : Truths) (i : ℕ) (c : Clause) (xs : List ℕ) → filter is_witness (instance_needs spec inst s i c xs) ≡ wanted_needs witness spec inst s i c xs
witness_here spec inst s i c xs =
    let falsified = falsified_places spec inst xs c in
    let left = true_places (laid_over spec inst s) xs c in
    filter_else is_witness (is_given xs c || not (falsifies spec inst xs c)) (map (allow_need i xs) falsified) (witness_need i xs left) [] (witness_need i xs left) (no_witness i xs falsified) (all_witness i xs left)

-- the plain needs of masks are what is wanted without witnesses
plain_masks : (spec : Spec) (masks : List ℕ) (inst : Inst) (s : Truths) → filter is_plain (mask_needs spec masks inst s) ≡ wanted_of_masks allows spec inst s masks
plain_masks spec masks inst s =
    filter_each is_plain (clause_needs spec inst s) (wanted_of allows spec inst s) (λ i. filter_each is_plain (instance_needs spec inst s i (clause_in spec i)) (wanted_needs allows spec inst s i (clause_in spec i)) (plain_here spec inst s i (clause_in spec i)) (instances_of spec i)) masks

-- and the witnesses what is wanted without allows
pub witness_masks : (spec : Spec) (masks : List ℕ) (inst : Inst) (s : Truths) → filter is_witness (mask_needs spec masks inst s) ≡ wanted_of_masks witness spec inst s masks
witness_masks spec masks inst s =
    filter_each is_witness (clause_needs spec inst s) (wanted_of witness spec inst s) (λ i. filter_each is_witness (instance_needs spec inst s i (clause_in spec i)) (wanted_needs witness spec inst s i (clause_in spec i)) (witness_here spec inst s i (clause_in spec i)) (instances_of spec i)) masks

-- ---- needs of escrow, locks and partitions

abbrev IsPlain : Need → Type 0
IsPlain need = is_plain need ≡ true

one_plain : (b : Bool) (need : Need) → IsPlain need → AllByRecursion IsPlain (if b then need ∷ [] else [])
one_plain true need e = (e, tt)
one_plain false need e = tt

escrow_plain : (spec : Spec) (inst : Inst) → AllByRecursion IsPlain (escrow_needs spec inst)
escrow_plain spec inst = all_flat IsPlain (cell_escrow spec inst) each_cell (cells spec)
  where
    right_plain : (r : Right) → AllByRecursion IsPlain (escrow_need spec inst r)
    right_plain r = one_plain (nat_lt 0 (spends spec inst r)) (record { right = r; amount = amount.Count (spends spec inst r) }) refl

    each_cell : (cell : Cell) → AllByRecursion IsPlain (cell_escrow spec inst cell)
    each_cell cell = all_both IsPlain (escrow_need spec inst (right.Low cell)) (escrow_need spec inst (right.High cell)) (right_plain (right.Low cell)) (right_plain (right.High cell))

key_plain : (need : List ℕ → Need) → ((key : List ℕ) → IsPlain (need key)) → (o : Option (List ℕ)) → AllByRecursion IsPlain (option_map_or (λ key. need key ∷ []) o [])
key_plain need plain None = tt
key_plain need plain (Some key) = (plain key, tt)

keys_plain : (need : ℕ → LockKind → List ℕ → Need) → ((n : ℕ) (kind : LockKind) (key : List ℕ) → IsPlain (need n kind key)) → (inst : Inst) (n : ℕ) (kinds : List LockKind) → AllByRecursion IsPlain (key_needs need inst n kinds)
keys_plain need plain inst n [] = tt
keys_plain need plain inst n (kind ∷ kinds) =
    all_both IsPlain (option_map_or (λ key. need n kind key ∷ []) (key_at kind inst) []) (key_needs need inst (n + 1) kinds) (key_plain (need n kind) (plain n kind) (key_at kind inst)) (keys_plain need plain inst (n + 1) kinds)

-- ---- all needs

pub plain_are : (setup : Setup) (s : Truths) (inst : Inst) → plain_needs setup s inst ≡ needs_wanted allows setup.plan setup.spec inst s
plain_are setup s inst =
    let escrow = escrow_needs setup.spec inst in
    let locks = key_needs (lock_need inst) inst 0 setup.plan.locks in
    let masks = mask_needs setup.spec setup.plan.masks inst s in
    let parts = key_needs (part_need setup.spec inst) inst 0 setup.plan.parts in
    filter-append is_plain escrow (locks ++ (masks ++ parts))
    ∙ ap (λ (ns : List Need). ns ++ filter is_plain (locks ++ (masks ++ parts))) (kept_all is_plain escrow (escrow_plain setup.spec inst))
    ∙ ap (λ (ns : List Need). escrow ++ ns) (filter-append is_plain locks (masks ++ parts)
    ∙ ap (λ (ns : List Need). ns ++ filter is_plain (masks ++ parts)) (kept_all is_plain locks (keys_plain (lock_need inst) (λ n kind key. refl) inst 0 setup.plan.locks))
    ∙ ap (λ (ns : List Need). locks ++ ns) (filter-append is_plain masks parts
    ∙ ap (λ (ns : List Need). ns ++ filter is_plain parts) (plain_masks setup.spec setup.plan.masks inst s)
    ∙ ap (λ (ns : List Need). wanted_of_masks allows setup.spec inst s setup.plan.masks ++ ns) (kept_all is_plain parts (keys_plain (part_need setup.spec inst) (λ n kind key. refl) inst 0 setup.plan.parts))))

pub plain_fixed : PlainNeedsAreFixed
plain_fixed setup s t inst = plain_are setup s inst ∙ sym (plain_are setup t inst)
