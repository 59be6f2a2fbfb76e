-- The derived plan is well formed.
use Rattle.std.proofs.Common.{◌≡◌, ℕ, zero, suc, ◌<◌, ◌≤◌, Bool, true, false, cond, ◌&&◌, ◌||◌, not, eqb, List, [], ◌∷◌, ◌++◌, length, get_or, refl, sym, subst, ◌∙◌, arith}
use Rattle.std.specs.Prelude.{Option, Some, None}
use Rattle.std.specs.List.{AllByRecursion, flat_map, list_all}
use Rattle.std.proofs.lemmas.Bool.{and_parts, eq-eqb, eqb-true, true≢false}
use Rattle.certificate_check.specs.Separation.{lowest, pair_meets, shares}
use Rattle.ground_clauses.proofs.Lists.{each_append, each_flat_map, each_weaker}
use Rattle.ground_clauses.specs.Cases.{upto_from}
use Rattle.ground_clauses.specs.Derivations.{is_nil}
use Rattle.ground_clauses.specs.declared.case.Case.{Case}
use Rattle.reservation_plan.proofs.Lined.{IsOn, IsOne, locks_one, locks_own, parts_one, parts_own}
use Rattle.reservation_plan.proofs.Paired.{EachOther, IsPair, Other, pairs_known, pairs_others}
use Rattle.reservation_plan.proofs.Reserved.{key_each}
use Rattle.reservation_plan.specs.Conflicts.{conflicts}
use Rattle.reservation_plan.specs.Derived.{always_meets, derived_plan, interval_sort, intervals_match, is_partitioned, is_plain, key_at, locks_at, locks_by, may_meet, pair_of, pairs_of, params_of, parts_at, parts_by, reservation, same_sort, with_first}
use Rattle.spec_model.specs.Fits.{EachPairOnce, KeyFits, LockFits, OtherPair, PartFits, PlanFits, RisesAbove, has_interval}
use Rattle.spec_model.specs.Separated.{interval_place}
use Rattle.spec_model.specs.Truths.{no_var, sort_of}
use Rattle.spec_model.specs.declared.clause.Var.{Var}
use Rattle.spec_model.specs.declared.plan.LockKind.{LockKind}
use Rattle.spec_model.specs.declared.plan.Pair.{Pair}
use Rattle.spec_model.specs.declared.spec.Spec.{Spec}

-- ---- keys

pub record MayMeet (spec : Spec) (a b i j : ℕ) : Type 0 where
  pub plain_a : (get_or (params_of spec a) i no_var).interval ≡ false
  pub plain_b : (get_or (params_of spec b) j no_var).interval ≡ false
  pub sorts : sort_of (params_of spec a) i ≡ sort_of (params_of spec b) j
  pub own : a ≡ b → i ≡ j

not_false : (b : Bool) → not b ≡ true → b ≡ false
not_false true h = absurd (true≢false (sym h))
not_false false h = refl

meeting : (spec : Spec) (a b : ℕ) (ks : List Case) (i j : ℕ) → always_meets spec a b ks i j ≡ true → MayMeet spec a b i j
meeting spec a b ks i j h =
    let m = and_parts (may_meet spec a b i j) (list_all (λ k. pair_meets spec k (pair_of i j)) ks) h in
    let x = and_parts (is_plain (params_of spec a) i) (is_plain (params_of spec b) j && (eqb (sort_of (params_of spec a) i) (sort_of (params_of spec b) j) && cond (eqb a b) (eqb i j) true)) m.0 in
    let y = and_parts (is_plain (params_of spec b) j) (eqb (sort_of (params_of spec a) i) (sort_of (params_of spec b) j) && cond (eqb a b) (eqb i j) true) x.1 in
    let z = and_parts (eqb (sort_of (params_of spec a) i) (sort_of (params_of spec b) j)) (cond (eqb a b) (eqb i j) true) y.1 in
    record {
      plain_a = not_false (get_or (params_of spec a) i no_var).interval x.0;
      plain_b = not_false (get_or (params_of spec b) j no_var).interval y.0;
      sorts = eqb-true (sort_of (params_of spec a) i) (sort_of (params_of spec b) j) z.0;
      own = λ same. eqb-true i j (subst (λ t. cond t (eqb i j) true ≡ true) (eq-eqb a b same) z.1);
    }

keys_rise : (spec : Spec) (a b : ℕ) (ks : List Case) (k n m : ℕ) → m ≤ k → RisesAbove m (flat_map (key_at spec a b ks) (upto_from k n))
keys_rise spec a b ks k zero m le = tt
keys_rise spec a b ks k (suc n) m le = by_partner (lowest (always_meets spec a b ks k) (upto_from 0 (length (params_of spec b)))) (λ m lt. keys_rise spec a b ks (suc k) n m lt)
  where
    by_partner : (o : Option ℕ) → ((m : ℕ) → m ≤ suc k → RisesAbove m (flat_map (key_at spec a b ks) (upto_from (suc k) n))) → RisesAbove m (with_first k o ++ flat_map (key_at spec a b ks) (upto_from (suc k) n))
    by_partner None rest = rest m (omega arith)
    by_partner (Some j) rest = (le, rest (suc k) (omega arith))

reservation_made : (spec : Spec) (a b : ℕ) (ks : List Case) → a ≤ b → b < length spec.ops → LockFits spec (reservation spec a b ks)
reservation_made spec a b ks le lt = record {
  ordered = le;
  known = lt;
  key_fits = key_each spec a b ks (KeyFits (params_of spec a) (params_of spec b))
      (λ i j li lj h. let m : MayMeet spec a b i j = meeting spec a b ks i j h in record { within_a = li; within_b = lj; plain_a = m.plain_a; plain_b = m.plain_b; one_sort = m.sorts });
  key_rises = keys_rise spec a b ks 0 (length (params_of spec a)) 0 (omega arith);
  own_places = λ same. key_each spec a b ks (λ k. k.a ≡ k.b) (λ i j li lj h. let m : MayMeet spec a b i j = meeting spec a b ks i j h in m.own same);
}

-- ---- intervals

pub record HasInterval (params : List Var) (s : ℕ) : Type 0 where
  pub has : has_interval params ≡ true
  pub sort_is : sort_of params (interval_place params) ≡ s

interval_found : (params : List Var) (s : ℕ) → interval_sort params ≡ Some s → HasInterval params s
interval_found [] s h = cc
interval_found (p ∷ params) s h =
    let r = by_kind p.interval (interval_found params s) h in
    record { has = r.0; sort_is = r.1 }
  where
    by_kind : (b : Bool) → (interval_sort params ≡ Some s → HasInterval params s) → cond b (Some p.sort) (interval_sort params) ≡ Some s
        → ((b || has_interval params) ≡ true) × ((get_or (p ∷ params) (cond b 0 (suc (interval_place params))) no_var).sort ≡ s)
    by_kind true rest g = (refl, some_same g)
      where
        some_same : Some p.sort ≡ Some s → p.sort ≡ s
        some_same e = cc
    by_kind false rest g = let r : HasInterval params s = rest g in (r.has, r.sort_is)

pub record HaveInterval (pa pb : List Var) : Type 0 where
  pub has_a : has_interval pa ≡ true
  pub has_b : has_interval pb ≡ true
  pub one_sort : sort_of pa (interval_place pa) ≡ sort_of pb (interval_place pb)

intervals_found : (pa pb : List Var) (x y : Option ℕ) → interval_sort pa ≡ x → interval_sort pb ≡ y → same_sort x y ≡ true → HaveInterval pa pb
intervals_found pa pb None y ix iy h = absurd (true≢false (sym h))
intervals_found pa pb (Some s) None ix iy h = absurd (true≢false (sym h))
intervals_found pa pb (Some s) (Some t) ix iy h =
    let f : HasInterval pa s = interval_found pa s ix in
    let g : HasInterval pb t = interval_found pb t iy in
    record { has_a = f.has; has_b = g.has; one_sort = f.sort_is ∙ eqb-true s t h ∙ sym g.sort_is }

-- ---- reservations

locks_made : (spec : Spec) (a b : ℕ) (ks : List Case) → a ≤ b → b < length spec.ops → AllByRecursion (LockFits spec) (locks_by spec a b ks)
locks_made spec a b ks le lt = by (is_nil ks) (is_partitioned spec a b ks)
  where
    by : (n p : Bool) → AllByRecursion (LockFits spec) (cond n [] (cond p [] (reservation spec a b ks ∷ [])))
    by true p = tt
    by false true = tt
    by false false = (reservation_made spec a b ks le lt, tt)

parts_made : (spec : Spec) (a b : ℕ) (ks : List Case) → a ≤ b → b < length spec.ops → AllByRecursion (PartFits spec) (parts_by spec a b ks)
parts_made spec a b ks le lt = by (is_nil ks) (is_partitioned spec a b ks) refl
  where
    by : (n p : Bool) → is_partitioned spec a b ks ≡ p → AllByRecursion (PartFits spec) (cond n [] (cond p (reservation spec a b ks ∷ []) []))
    by true p is = tt
    by false true is =
        let f : HaveInterval (params_of spec a) (params_of spec b) =
        intervals_found (params_of spec a) (params_of spec b) (interval_sort (params_of spec a)) (interval_sort (params_of spec b)) refl refl (and_parts (intervals_match spec a b) (list_all shares ks) is).0 in
        (record { lock = reservation_made spec a b ks le lt; interval_a = f.has_a; interval_b = f.has_b; one_sort = f.one_sort }, tt)
    by false false is = tt

-- ---- each pair once

once_append : (xs ys : List LockKind) → EachPairOnce xs → EachPairOnce ys → AllByRecursion (λ l. AllByRecursion (OtherPair l) ys) xs → EachPairOnce (xs ++ ys)
once_append [] ys h k f = k
once_append (x ∷ xs) ys h k f = (each_append (OtherPair x) xs ys h.0 f.0, once_append xs ys h.1 k f.1)

one_once : (xs : List LockKind) → IsOne xs → EachPairOnce xs
one_once [] h = tt
one_once (x ∷ xs) h = (subst (AllByRecursion (OtherPair x)) (sym h) tt, subst EachPairOnce (sym h) tt)

-- reservations of a pair are others than those of other pairs
abbrev AllOther : List LockKind → List LockKind → Type 0
AllOther xs ys = AllByRecursion (λ l. AllByRecursion (OtherPair l) ys) xs

pair_other : (p q : Pair) (xs ys : List LockKind) → AllByRecursion (IsOn p.a p.b) xs → AllByRecursion (IsOn q.a q.b) ys → Other p q → AllOther xs ys
pair_other p q xs ys hx hy other =
    each_weaker (IsOn p.a p.b) (λ l. AllByRecursion (OtherPair l) ys) xs
    (λ l on. each_weaker (IsOn q.a q.b) (OtherPair l) ys (λ m om same_a same_b. other (sym on.0 ∙ same_a ∙ om.0) (sym on.1 ∙ same_b ∙ om.1)) hy) hx

-- the reservations of one kind, by pair
abbrev AreOwn : (Pair → List LockKind) → Type 0
AreOwn of = (q : Pair) → AllByRecursion (IsOn q.a q.b) (of q)

all_of_append : (xs ys zs : List LockKind) → AllOther xs ys → AllOther xs zs → AllOther xs (ys ++ zs)
all_of_append [] ys zs h k = tt
all_of_append (x ∷ xs) ys zs h k = (each_append (OtherPair x) ys zs h.0 k.0, all_of_append xs ys zs h.1 k.1)

all_nil : (xs : List LockKind) → AllOther xs []
all_nil [] = tt
all_nil (x ∷ xs) = (tt, all_nil xs)

other_rest : (of to : Pair → List LockKind) (p : Pair) (ps : List Pair) → AreOwn of → AreOwn to → AllByRecursion (Other p) ps → AllOther (of p) (flat_map to ps)
other_rest of to p [] ho ht h = all_nil (of p)
other_rest of to p (q ∷ ps) ho ht h = all_of_append (of p) (to q) (flat_map to ps) (pair_other p q (of p) (to q) (ho p) (ht q) h.0) (other_rest of to p ps ho ht h.1)

rest_other : (of to : Pair → List LockKind) (p : Pair) (ps : List Pair) → AreOwn of → AreOwn to → AllByRecursion (Other p) ps → AllOther (flat_map of ps) (to p)
rest_other of to p [] ho ht h = tt
rest_other of to p (q ∷ ps) ho ht h =
    each_append (λ l. AllByRecursion (OtherPair l) (to p)) (of q) (flat_map of ps) (pair_other q p (of q) (to p) (ho q) (ht p) (λ same_a same_b. h.0 (sym same_a) (sym same_b))) (rest_other of to p ps ho ht h.1)

kind_once : (of : Pair → List LockKind) (ps : List Pair) → AreOwn of → ((q : Pair) → IsOne (of q)) → EachOther ps → EachPairOnce (flat_map of ps)
kind_once of [] own one h = tt
kind_once of (p ∷ ps) own one h = once_append (of p) (flat_map of ps) (one_once (of p) (one p)) (kind_once of ps own one h.1) (other_rest of of p ps own own h.0)

kinds_apart : (of to : Pair → List LockKind) (ps : List Pair) → AreOwn of → AreOwn to → ((q : Pair) → AllOther (of q) (to q)) → EachOther ps → AllOther (flat_map of ps) (flat_map to ps)
kinds_apart of to [] ho ht own h = tt
kinds_apart of to (p ∷ ps) ho ht own h =
    each_append (λ l. AllByRecursion (OtherPair l) (to p ++ flat_map to ps)) (of p) (flat_map of ps)
    (all_of_append (of p) (to p) (flat_map to ps) (own p) (other_rest of to p ps ho ht h.0))
    (all_of_append (flat_map of ps) (to p) (flat_map to ps) (rest_other of to p ps ho ht h.0) (kinds_apart of to ps ho ht own h.1))

one_kind : (spec : Spec) (a b : ℕ) (ks : List Case) → AllOther (locks_by spec a b ks) (parts_by spec a b ks)
one_kind spec a b ks = by (is_nil ks) (is_partitioned spec a b ks)
  where
    by : (n p : Bool) → AllOther (cond n [] (cond p [] (reservation spec a b ks ∷ []))) (cond n [] (cond p (reservation spec a b ks ∷ []) []))
    by true p = tt
    by false true = tt
    by false false = (tt, tt)

-- ---- the plan

pub plan_made : (spec : Spec) → PlanFits spec (derived_plan spec)
plan_made spec = record {
  locks_fit = each_flat_map (LockFits spec) (locks_at spec) (pairs_of spec)
      (each_weaker (IsPair spec) (λ p. AllByRecursion (LockFits spec) (locks_at spec p)) (pairs_of spec) (λ p h. locks_made spec p.a p.b (conflicts spec p.a p.b) h.ordered h.known) (pairs_known spec));
  parts_fit = each_flat_map (PartFits spec) (parts_at spec) (pairs_of spec)
      (each_weaker (IsPair spec) (λ p. AllByRecursion (PartFits spec) (parts_at spec p)) (pairs_of spec) (λ p h. parts_made spec p.a p.b (conflicts spec p.a p.b) h.ordered h.known) (pairs_known spec));
  once = once_append (flat_map (locks_at spec) (pairs_of spec)) (flat_map (parts_at spec) (pairs_of spec))
      (kind_once (locks_at spec) (pairs_of spec) own_locks (λ q. locks_one spec q.a q.b (conflicts spec q.a q.b)) (pairs_others spec))
      (kind_once (parts_at spec) (pairs_of spec) own_parts (λ q. parts_one spec q.a q.b (conflicts spec q.a q.b)) (pairs_others spec))
      (kinds_apart (locks_at spec) (parts_at spec) (pairs_of spec) own_locks own_parts (λ q. one_kind spec q.a q.b (conflicts spec q.a q.b)) (pairs_others spec));
  masks = refl;
}
  where
    own_locks : AreOwn (locks_at spec)
    own_locks q = locks_own spec q.a q.b (conflicts spec q.a q.b)

    own_parts : AreOwn (parts_at spec)
    own_parts q = parts_own spec q.a q.b (conflicts spec q.a q.b)
