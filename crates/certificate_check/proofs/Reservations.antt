-- A reservation that is read fits exactly where its tests pass.
use Rattle.std.proofs.Common.{◌≡◌, ℕ, zero, suc, ◌<◌, Bool, true, false, cond, eqb, leb, not, ◌&&◌, ◌||◌, List, [], ◌∷◌, ◌++◌, length, get_or, refl, sym, ap, ◌∙◌, arith}
use Rattle.std.specs.Prelude.{Option, Some, None, nat_le, nat_lt}
use Rattle.std.specs.List.{AllByRecursion, list_all}
use Rattle.std.specs.Str.{bytes_eq}
use Rattle.std.proofs.lemmas.Bool.{eqb-true, eq-eqb, eqb-false, leb-true, le-leb, ltb-true, lt-ltb}
use Rattle.ground_clauses.proofs.Lists.{each_append}
use Rattle.line_text.proofs.Guards.{and_true, not_true}
use Rattle.line_text.proofs.Inverse.{same_bytes, some_same}
use Rattle.certificate_check.specs.Fitting.{are_one, has_pair, interval_sort, is_interval, key_fits, kind_fits, op_named, pair_fits, rises, same_places, shares_points}
use Rattle.spec_model.specs.Fits.{EachPairOnce, KeyFits, LockFits, OtherPair, PartFits, RisesAbove, has_interval}
use Rattle.spec_model.specs.Separated.{interval_place}
use Rattle.spec_model.specs.Truths.{no_op, op_at, sort_of}
use Rattle.spec_model.specs.declared.clause.Var.{Var}
use Rattle.spec_model.specs.declared.operation.Op.{Op}
use Rattle.spec_model.specs.declared.plan.LockKind.{LockKind}
use Rattle.spec_model.specs.declared.plan.Pair.{Pair}
use Rattle.spec_model.specs.declared.spec.Spec.{Spec}

-- ---- keys

pair_holds : (pa pb : List Var) (k : Pair) → pair_fits pa pb k ≡ true → KeyFits pa pb k
pair_holds pa pb k e =
    let sorts = and_true (nat_lt k.a (length pa) && nat_lt k.b (length pb) && not (is_interval pa k.a) && not (is_interval pb k.b)) (eqb (sort_of pa k.a) (sort_of pb k.b)) e in
    let plain_b = and_true (nat_lt k.a (length pa) && nat_lt k.b (length pb) && not (is_interval pa k.a)) (not (is_interval pb k.b)) sorts.0 in
    let plain_a = and_true (nat_lt k.a (length pa) && nat_lt k.b (length pb)) (not (is_interval pa k.a)) plain_b.0 in
    let places = and_true (nat_lt k.a (length pa)) (nat_lt k.b (length pb)) plain_a.0 in
    record {
      within_a = ltb-true k.a (length pa) places.0;
      within_b = ltb-true k.b (length pb) places.1;
      plain_a = not_true (is_interval pa k.a) plain_a.1;
      plain_b = not_true (is_interval pb k.b) plain_b.1;
      one_sort = eqb-true (sort_of pa k.a) (sort_of pb k.b) sorts.1;
    }

pair_passes : (pa pb : List Var) (k : Pair) → KeyFits pa pb k → pair_fits pa pb k ≡ true
pair_passes pa pb k h = rw (lt-ltb k.a (length pa) h.within_a, lt-ltb k.b (length pb) h.within_b, h.plain_a, h.plain_b, eq-eqb (sort_of pa k.a) (sort_of pb k.b) h.one_sort) refl

all_hold : {X : Type 0} (P : X → Type 0) (t : X → Bool) → ((x : X) → t x ≡ true → P x) → (xs : List X) → list_all t xs ≡ true → AllByRecursion P xs
all_hold P t holds [] e = tt
all_hold P t holds (x ∷ xs) e = let h = and_true (t x) (list_all t xs) e in (holds x h.0, all_hold P t holds xs h.1)

all_pass : {X : Type 0} (P : X → Type 0) (t : X → Bool) → ((x : X) → P x → t x ≡ true) → (xs : List X) → AllByRecursion P xs → list_all t xs ≡ true
all_pass P t passes [] h = refl
all_pass P t passes (x ∷ xs) h = rw (passes x h.0, all_pass P t passes xs h.1) refl

rises_holds : (n : ℕ) (key : List Pair) → rises n key ≡ true → RisesAbove n key
rises_holds n [] e = tt
rises_holds n (k ∷ key) e = let h = and_true (leb n k.a) (rises (suc k.a) key) e in (leb-true n k.a h.0, rises_holds (suc k.a) key h.1)

rises_passes : (n : ℕ) (key : List Pair) → RisesAbove n key → rises n key ≡ true
rises_passes n [] h = refl
rises_passes n (k ∷ key) h = rw (le-leb n k.a h.0, rises_passes (suc k.a) key h.1) refl

own_holds : (a b : ℕ) (key : List Pair) (t : Bool) → eqb a b ≡ t → (not t || same_places key) ≡ true → a ≡ b → AllByRecursion (λ k. k.a ≡ k.b) key
own_holds a b key true is e same = all_hold (λ (k : Pair). k.a ≡ k.b) (λ (k : Pair). eqb k.a k.b) (λ k h. eqb-true k.a k.b h) key e
own_holds a b key false is e same = absurd (eqb-false a b is same)

own_passes : (a b : ℕ) (key : List Pair) (t : Bool) → eqb a b ≡ t → (a ≡ b → AllByRecursion (λ k. k.a ≡ k.b) key) → (not t || same_places key) ≡ true
own_passes a b key true is h = all_pass (λ (k : Pair). k.a ≡ k.b) (λ (k : Pair). eqb k.a k.b) (λ k e. eq-eqb k.a k.b e) key (h (eqb-true a b is))
own_passes a b key false is h = refl

-- ---- locks

pub lock_holds : (spec : Spec) (l : LockKind) → kind_fits spec l ≡ true → LockFits spec l
unfolding kind_fits
lock_holds spec l e =
    let pa = (op_at spec l.a).params in
    let pb = (op_at spec l.b).params in
    let own = and_true (nat_le l.a l.b && nat_lt l.b (length spec.ops) && key_fits pa pb l.key && rises 0 l.key) (not (eqb l.a l.b) || same_places l.key) e in
    let rise = and_true (nat_le l.a l.b && nat_lt l.b (length spec.ops) && key_fits pa pb l.key) (rises 0 l.key) own.0 in
    let fit = and_true (nat_le l.a l.b && nat_lt l.b (length spec.ops)) (key_fits pa pb l.key) rise.0 in
    let known = and_true (nat_le l.a l.b) (nat_lt l.b (length spec.ops)) fit.0 in
    record {
      ordered = leb-true l.a l.b known.0;
      known = ltb-true l.b (length spec.ops) known.1;
      key_fits = all_hold (KeyFits pa pb) (pair_fits pa pb) (pair_holds pa pb) l.key fit.1;
      key_rises = rises_holds 0 l.key rise.1;
      own_places = own_holds l.a l.b l.key (eqb l.a l.b) refl own.1;
    }

pub lock_passes : (spec : Spec) (l : LockKind) → LockFits spec l → kind_fits spec l ≡ true
unfolding kind_fits
lock_passes spec l h =
    let pa = (op_at spec l.a).params in
    let pb = (op_at spec l.b).params in
    let fit : key_fits pa pb l.key ≡ true = all_pass (KeyFits pa pb) (pair_fits pa pb) (pair_passes pa pb) l.key h.key_fits in
    let own = own_passes l.a l.b l.key (eqb l.a l.b) refl h.own_places in
    rw (le-leb l.a l.b h.ordered, lt-ltb l.b (length spec.ops) h.known, fit, rises_passes 0 l.key h.key_rises, own) refl

-- ---- partitions

there_first : (p : Var) (params : List Var) (t : Bool) → (has_interval params ≡ true → interval_sort params ≡ Some (sort_of params (interval_place params)))
    → (t || has_interval params) ≡ true → cond t (Some p.sort) (interval_sort params) ≡ Some (sort_of (p ∷ params) (cond t 0 (suc (interval_place params))))
there_first p params true rest is = refl
there_first p params false rest is = rest is

-- the sort of the interval parameter, where there is one
interval_there : (params : List Var) → has_interval params ≡ true → interval_sort params ≡ Some (sort_of params (interval_place params))
interval_there [] e = absurd cc
interval_there (p ∷ params) e = there_first p params p.interval (λ h. interval_there params h) e

abbrev FoundAt : List Var → ℕ → Type 0
FoundAt params s = (has_interval params ≡ true) × (sort_of params (interval_place params) ≡ s)

found_first : (p : Var) (params : List Var) (s : ℕ) (t : Bool) → (interval_sort params ≡ Some s → FoundAt params s) → cond t (Some p.sort) (interval_sort params) ≡ Some s
    → ((t || has_interval params) ≡ true) × (sort_of (p ∷ params) (cond t 0 (suc (interval_place params))) ≡ s)
found_first p params s true rest is = (refl, some_same p.sort s is)
found_first p params s false rest is = rest is

interval_found : (params : List Var) (s : ℕ) → interval_sort params ≡ Some s → FoundAt params s
interval_found [] s e = absurd cc
interval_found (p ∷ params) s e = found_first p params s p.interval (λ h. interval_found params s h) e

-- both are there
abbrev OneSort : Option ℕ → Option ℕ → Type 0
OneSort o p = (s : ℕ) × (o ≡ Some s) × (p ≡ Some s)

abbrev just : ℕ → Option ℕ
just s = Some s

one_sort : (o p : Option ℕ) → are_one o p ≡ true → OneSort o p
one_sort None p e = absurd cc
one_sort (Some s) None e = absurd cc
one_sort (Some s) (Some t) e = (s, refl, ap just (sym (eqb-true s t e)))

pub part_holds : (spec : Spec) (l : LockKind) → LockFits spec l → shares_points spec l ≡ true → PartFits spec l
unfolding shares_points
part_holds spec l lock e =
    let pa = (op_at spec l.a).params in
    let pb = (op_at spec l.b).params in
    let h = one_sort (interval_sort pa) (interval_sort pb) e in
    let a = interval_found pa h.0 h.1 in
    let b = interval_found pb h.0 h.2 in
    record { lock = lock; interval_a = a.0; interval_b = b.0; one_sort = a.1 ∙ sym b.1 }

pub part_passes : (spec : Spec) (l : LockKind) → PartFits spec l → shares_points spec l ≡ true
unfolding shares_points
part_passes spec l h =
    let pa = (op_at spec l.a).params in
    let pb = (op_at spec l.b).params in
    rw (interval_there pa h.interval_a, interval_there pb h.interval_b) (eq-eqb _ _ h.one_sort)

-- ---- each pair once

other_pair : (l m : LockKind) → (eqb m.a l.a && eqb m.b l.b) ≡ false → OtherPair m l
other_pair l m e a b = differ (eqb m.a l.a && eqb m.b l.b) (rw (eq-eqb m.a l.a a, eq-eqb m.b l.b b) refl) e
  where
    differ : (t : Bool) → t ≡ true → t ≡ false → ⊥
    differ true y n = absurd cc
    differ false y n = absurd cc

or_false : (a b : Bool) → (a || b) ≡ false → (a ≡ false) × (b ≡ false)
or_false true b e = absurd cc
or_false false b e = (refl, e)

others : (l : LockKind) (kinds : List LockKind) → has_pair kinds l ≡ false → AllByRecursion (λ m. OtherPair m l) kinds
others l [] e = tt
others l (m ∷ kinds) e = let h = or_false (eqb m.a l.a && eqb m.b l.b) (has_pair kinds l) e in (other_pair l m h.0, others l kinds h.1)

push_once : (l : LockKind) (kinds : List LockKind) → EachPairOnce kinds → AllByRecursion (λ m. OtherPair m l) kinds → EachPairOnce (kinds ++ l ∷ [])
push_once l [] once other = (tt, tt)
push_once l (m ∷ kinds) once other = (each_append (OtherPair m) kinds (l ∷ []) once.0 (other.0, tt), push_once l kinds once.1 other.1)

-- a reservation of another pair is added
pub once_more : (l : LockKind) (locks parts : List LockKind) → EachPairOnce (locks ++ parts) → has_pair locks l ≡ false → has_pair parts l ≡ false → EachPairOnce ((locks ++ parts) ++ l ∷ [])
once_more l locks parts once first second = push_once l (locks ++ parts) once (each_append (λ (m : LockKind). OtherPair m l) locks parts (others l locks first) (others l parts second))

unequal : (l m : LockKind) → OtherPair l m → (t u : Bool) → eqb l.a m.a ≡ t → eqb l.b m.b ≡ u → (t && u) ≡ false
unequal l m other true true a b = absurd (other (eqb-true l.a m.a a) (eqb-true l.b m.b b))
unequal l m other true false a b = refl
unequal l m other false u a b = refl

-- one that stands behind others is of another pair
pub is_new : (front : List LockKind) (l : LockKind) (behind : List LockKind) → EachPairOnce (front ++ l ∷ behind) → has_pair front l ≡ false
is_new [] l behind once = refl
is_new (m ∷ front) l behind once = rw (unequal m l (apart front once.0) (eqb m.a l.a) (eqb m.b l.b) refl refl) (is_new front l behind once.1)
  where
    apart : (ks : List LockKind) → AllByRecursion (OtherPair m) (ks ++ l ∷ behind) → OtherPair m l
    apart [] h = h.0
    apart (k ∷ ks) h = apart ks h.1

-- ---- names

name_first : (o : Op) (ops : List Op) (w : List ℕ) (t : Bool) → (op_named ops w < length ops → (get_or ops (op_named ops w) no_op).name ≡ w) → bytes_eq o.name w ≡ t
    → cond t zero (suc (op_named ops w)) < suc (length ops) → (get_or (o ∷ ops) (cond t zero (suc (op_named ops w))) no_op).name ≡ w
name_first o ops w true rest is small = same_bytes o.name w is
name_first o ops w false rest is small = rest (omega arith)

-- the operation that was found has the name
pub name_found : (ops : List Op) (w : List ℕ) → op_named ops w < length ops → (get_or ops (op_named ops w) no_op).name ≡ w
name_found [] w lt = absurd (omega arith)
name_found (o ∷ ops) w lt = name_first o ops w (bytes_eq o.name w) (λ h. name_found ops w h) refl lt
