-- The lines of a pair's cases, by their own reservation.
use Rattle.std.proofs.Common.{◌≡◌, inl, inr, ℕ, suc, ◌+◌, ◌≤◌, Bool, true, false, cond, ◌&&◌, ◌||◌, not, eqb, List, [], ◌∷◌, ◌++◌, map, length, refl, sym, ap, subst, append-nil, ◌∙◌, arith}
use Rattle.std.specs.Prelude.{Some, None, is_some}
use Rattle.std.specs.List.{AllByRecursion, AllZip, find, flat_map, list_all, list_any}
use Rattle.std.proofs.lemmas.Bool.{and_from, and_parts, cases_Bool, eq-eqb, eqb-true, true≢false}
use Rattle.std.proofs.lemmas.Grind.{flat_map-append}
use Rattle.certificate_check.specs.Checks.{FewSteps, is_at, line_fits, lock_of, part_of, target_refuted}
use Rattle.certificate_check.specs.Separation.{is_separated, lock_fits, lowest_from, pair_meets, part_fits, shares}
use Rattle.certificate_check.specs.declared.certificate.CertLine.TheVariants.{Refuted, SepLock, SepPart}
use Rattle.ground_clauses.proofs.Hypotheses.{Among, among_filter, each_among}
use Rattle.ground_clauses.proofs.Lists.{each_append, each_both, each_flat_map, each_map, each_weaker}
use Rattle.ground_clauses.specs.Cases.{pair_cases}
use Rattle.ground_clauses.specs.Derivations.{is_nil}
use Rattle.ground_clauses.specs.declared.case.Case.{Case}
use Rattle.reservation_plan.proofs.Coming.{find_behind}
use Rattle.reservation_plan.proofs.Paired.{EachOther, Other, others_around, pairs_others}
use Rattle.reservation_plan.proofs.Reserved.{IsOf, map_each, own_cases, own_separates}
use Rattle.reservation_plan.specs.Conflicts.{conflicts, is_conflicting}
use Rattle.reservation_plan.specs.Derived.{derived_plan, is_partitioned, locks_at, locks_by, pairs_of, parts_at, parts_by, reservation}
use Rattle.reservation_plan.specs.Drafting.{AddsPair, Drafts, cases_at, line_by}
use Rattle.reservation_plan.specs.Ends.{ends}
use Rattle.reservation_plan.specs.Judging.{IsJudged, case_of}
use Rattle.reservation_plan.specs.declared.drafting.Draft.{Draft}
use Rattle.reservation_plan.specs.declared.judging.Judged.{Judged}
use Rattle.spec_model.specs.declared.plan.LockKind.{LockKind}
use Rattle.spec_model.specs.declared.plan.Pair.{Pair}
use Rattle.spec_model.specs.declared.spec.Spec.{Spec}

-- ---- the lowest, where only one piece of a list can pass

lowest_behind : (f : LockKind → Bool) (n : ℕ) (xs ys : List LockKind) → AllByRecursion (λ x. f x ≡ false) xs → lowest_from n f (xs ++ ys) ≡ lowest_from (n + length xs) f ys
lowest_behind f n [] ys h = ap (λ m. lowest_from m f ys) (let z : n ≡ n + 0 = omega arith in z)
lowest_behind f n (x ∷ xs) ys h =
    ap (λ b. cond b (Some n) (lowest_from (suc n) f (xs ++ ys))) h.0
    ∙ lowest_behind f (suc n) xs ys h.1
    ∙ ap (λ m. lowest_from m f ys) (let z : suc n + length xs ≡ n + suc (length xs) = omega arith in z)

lowest_none : (f : LockKind → Bool) (n : ℕ) (xs : List LockKind) → AllByRecursion (λ x. f x ≡ false) xs → lowest_from n f xs ≡ None
lowest_none f n [] h = refl
lowest_none f n (x ∷ xs) h = ap (λ b. cond b (Some n) (lowest_from (suc n) f xs)) h.0 ∙ lowest_none f (suc n) xs h.1

-- at most one element
abbrev pub IsOne : List LockKind → Type 0
IsOne [] = Unit {0}
IsOne (x ∷ xs) = xs ≡ []

lowest_one : (f : LockKind → Bool) (n : ℕ) (own behind : List LockKind) → IsOne own → AllByRecursion (λ x. f x ≡ false) behind → lowest_from n f (own ++ behind) ≡ cond (list_any f own) (Some n) None
lowest_one f n [] behind one h = lowest_none f n behind h
lowest_one f n (x ∷ xs) behind one h =
    ap (λ ys. lowest_from n f (x ∷ (ys ++ behind))) one
    ∙ by_test (f x)
    ∙ ap (λ ys. cond (f x || list_any f ys) (Some n) None) (sym one)
  where
    by_test : (b : Bool) → cond b (Some n) (lowest_from (suc n) f behind) ≡ cond (b || false) (Some n) None
    by_test true = refl
    by_test false = lowest_none f (suc n) behind h

pub lowest_own : (f : LockKind → Bool) (before own behind : List LockKind) → IsOne own → AllByRecursion (λ x. f x ≡ false) before → AllByRecursion (λ x. f x ≡ false) behind
    → lowest_from 0 f (before ++ (own ++ behind)) ≡ cond (list_any f own) (Some (length before)) None
lowest_own f before own behind one h k =
    lowest_behind f 0 before (own ++ behind) h
    ∙ lowest_one f (0 + length before) own behind one k
    ∙ ap (λ n. cond (list_any f own) (Some n) None) (let z : 0 + length before ≡ length before = omega arith in z)

-- ---- a pair's reservation

pub locks_one : (spec : Spec) (a b : ℕ) (ks : List Case) → IsOne (locks_by spec a b ks)
locks_one spec a b ks = by (is_nil ks) (is_partitioned spec a b ks)
  where
    by : (n p : Bool) → IsOne (cond n [] (cond p [] (reservation spec a b ks ∷ [])))
    by true p = tt
    by false true = tt
    by false false = refl

pub parts_one : (spec : Spec) (a b : ℕ) (ks : List Case) → IsOne (parts_by spec a b ks)
parts_one spec a b ks = by (is_nil ks) (is_partitioned spec a b ks)
  where
    by : (n p : Bool) → IsOne (cond n [] (cond p (reservation spec a b ks ∷ []) []))
    by true p = tt
    by false true = refl
    by false false = tt

-- a reservation of a pair
abbrev pub IsOn : ℕ → ℕ → LockKind → Type 0
IsOn a b l = (l.a ≡ a) × (l.b ≡ b)

pub locks_own : (spec : Spec) (a b : ℕ) (ks : List Case) → AllByRecursion (IsOn a b) (locks_by spec a b ks)
locks_own spec a b ks = by (is_nil ks) (is_partitioned spec a b ks)
  where
    by : (n p : Bool) → AllByRecursion (IsOn a b) (cond n [] (cond p [] (reservation spec a b ks ∷ [])))
    by true p = tt
    by false true = tt
    by false false = ((refl, refl), tt)

pub parts_own : (spec : Spec) (a b : ℕ) (ks : List Case) → AllByRecursion (IsOn a b) (parts_by spec a b ks)
parts_own spec a b ks = by (is_nil ks) (is_partitioned spec a b ks)
  where
    by : (n p : Bool) → AllByRecursion (IsOn a b) (cond n [] (cond p (reservation spec a b ks ∷ []) []))
    by true p = tt
    by false true = ((refl, refl), tt)
    by false false = tt

-- a lock of another pair doesn't fit
other_lock : (spec : Spec) (k : Case) (l : LockKind) → (l.a ≡ k.a → l.b ≡ k.b → ⊥) → lock_fits spec k l ≡ false
other_lock spec k l other = elim (cases_Bool (lock_fits spec k l)) [
  | inl fits ↦
      let p = and_parts (eqb l.a k.a) (eqb l.b k.b && list_all (pair_meets spec k) l.key) fits in
      absurd (other (eqb-true l.a k.a p.0) (eqb-true l.b k.b (and_parts (eqb l.b k.b) (list_all (pair_meets spec k) l.key) p.1).0))
  | inr no' ↦ no'
]

other_part : (spec : Spec) (k : Case) (l : LockKind) → (l.a ≡ k.a → l.b ≡ k.b → ⊥) → part_fits spec k l ≡ false
other_part spec k l other = ap (λ b. b && shares k) (other_lock spec k l other)

-- those of other pairs don't fit a case of this one
pub none_fit : (f : LockKind → Bool) (of : Pair → List LockKind) (k : Case) (ps : List Pair)
    → ((l : LockKind) → (l.a ≡ k.a → l.b ≡ k.b → ⊥) → f l ≡ false) → ((q : Pair) → AllByRecursion (IsOn q.a q.b) (of q))
    → AllByRecursion (λ q. q.a ≡ k.a → q.b ≡ k.b → ⊥) ps → AllByRecursion (λ l. f l ≡ false) (flat_map of ps)
none_fit f of k ps fails own others =
    each_flat_map (λ l. f l ≡ false) of ps
    (each_weaker (λ q. q.a ≡ k.a → q.b ≡ k.b → ⊥) (λ q. AllByRecursion (λ l. f l ≡ false) (of q)) ps
    (λ q other. each_weaker (IsOn q.a q.b) (λ l. f l ≡ false) (of q) (λ l on. fails l (λ same_a same_b. other (sym on.0 ∙ same_a) (sym on.1 ∙ same_b))) (own q)) others)

pub record IsPlaced (spec : Spec) (k : Case) (p : Pair) (lock part : ℕ) : Type 0 where
  pub lock_is : lock_of spec (derived_plan spec) k ≡ cond (list_any (lock_fits spec k) (locks_at spec p)) (Some lock) None
  pub part_is : part_of spec (derived_plan spec) k ≡ cond (list_any (part_fits spec k) (parts_at spec p)) (Some part) None

pieces : {X : Type 0} (of : Pair → List X) (all before : List Pair) (p : Pair) (behind : List Pair) → all ≡ before ++ p ∷ behind → flat_map of all ≡ flat_map of before ++ (of p ++ flat_map of behind)
pieces of all before p behind is = ap (flat_map of) is ∙ flat_map-append of before (p ∷ behind)

pub placed : (spec : Spec) (before : List Pair) (p : Pair) (behind : List Pair) (k : Case) → pairs_of spec ≡ before ++ p ∷ behind → IsOf p.a p.b k
    → IsPlaced spec k p (length (flat_map (locks_at spec) before)) (length (flat_map (parts_at spec) before))
placed spec before p behind k whole own =
    let o : AllByRecursion (λ q. Other q p) before × AllByRecursion (Other p) behind = others_around before p behind (subst EachOther whole (pairs_others spec)) in
    let ob : AllByRecursion (λ q. q.a ≡ k.a → q.b ≡ k.b → ⊥) before = each_weaker (λ q. Other q p) (λ q. q.a ≡ k.a → q.b ≡ k.b → ⊥) before (λ q h same_a same_b. h (same_a ∙ own.0) (same_b ∙ own.1)) o.0 in
    let oa : AllByRecursion (λ q. q.a ≡ k.a → q.b ≡ k.b → ⊥) behind = each_weaker (Other p) (λ q. q.a ≡ k.a → q.b ≡ k.b → ⊥) behind (λ q h same_a same_b. h (sym (same_a ∙ own.0)) (sym (same_b ∙ own.1))) o.1 in
    record {
      lock_is = ap (lowest_from 0 (lock_fits spec k)) (pieces (locks_at spec) (pairs_of spec) before p behind whole)
          ∙ lowest_own (lock_fits spec k) (flat_map (locks_at spec) before) (locks_at spec p) (flat_map (locks_at spec) behind) (locks_one spec p.a p.b (conflicts spec p.a p.b))
          (none_fit (lock_fits spec k) (locks_at spec) k before (other_lock spec k) (λ q. locks_own spec q.a q.b (conflicts spec q.a q.b)) ob)
          (none_fit (lock_fits spec k) (locks_at spec) k behind (other_lock spec k) (λ q. locks_own spec q.a q.b (conflicts spec q.a q.b)) oa);
      part_is = ap (lowest_from 0 (part_fits spec k)) (pieces (parts_at spec) (pairs_of spec) before p behind whole)
          ∙ lowest_own (part_fits spec k) (flat_map (parts_at spec) before) (parts_at spec p) (flat_map (parts_at spec) behind) (parts_one spec p.a p.b (conflicts spec p.a p.b))
          (none_fit (part_fits spec k) (parts_at spec) k before (other_part spec k) (λ q. parts_own spec q.a q.b (conflicts spec q.a q.b)) ob)
          (none_fit (part_fits spec k) (parts_at spec) k behind (other_part spec k) (λ q. parts_own spec q.a q.b (conflicts spec q.a q.b)) oa);
    }

-- ---- one line

at_itself : (n : ℕ) → is_at (Some n) n ≡ true
at_itself n = eq-eqb n n refl

pub line_right : (spec : Spec) (p : Pair) (lock part : ℕ) (j : Judged) → IsPlaced spec j.case p lock part → IsJudged spec j → IsOf p.a p.b j.case → Among j.case (pair_cases spec p.a p.b)
    → line_fits spec (derived_plan spec) j.case (line_by spec (locks_at spec p) (parts_at spec p) lock part j) ≡ true
line_right spec p lock part j place judged own is = by_lock (list_any (lock_fits spec j.case) (locks_at spec p)) refl (list_any (part_fits spec j.case) (parts_at spec p)) refl
  where
    by_lock : (x : Bool) → list_any (lock_fits spec j.case) (locks_at spec p) ≡ x → (y : Bool) → list_any (part_fits spec j.case) (parts_at spec p) ≡ y
        → line_fits spec (derived_plan spec) j.case (cond x (SepLock lock) (cond y (SepPart part) (Refuted j.derivation))) ≡ true
    by_lock true x_is y y_is = ap (λ o. is_at o lock) (place.lock_is ∙ ap (λ b. cond b (Some lock) None) x_is) ∙ at_itself lock
    by_lock false x_is true y_is =
        and_from (not (is_some (lock_of spec (derived_plan spec) j.case))) (is_at (part_of spec (derived_plan spec) j.case) part)
        (ap (λ o. not (is_some o)) (place.lock_is ∙ ap (λ b. cond b (Some lock) None) x_is))
        (ap (λ o. is_at o part) (place.part_is ∙ ap (λ b. cond b (Some part) None) y_is) ∙ at_itself part)
    by_lock false x_is false y_is =
        and_from (not (is_separated spec (derived_plan spec) j.case)) (target_refuted spec j.case j.case.target j.derivation.steps)
        (ap (λ o. not (is_some o || is_some (part_of spec (derived_plan spec) j.case))) (place.lock_is ∙ ap (λ b. cond b (Some lock) None) x_is)
        ∙ ap (λ o. not (is_some o)) (place.part_is ∙ ap (λ b. cond b (Some part) None) y_is))
        (elim judged.known [
          | inl conflicting ↦ elim (own_separates spec p.a p.b (conflicts spec p.a p.b) j.case own (among_filter (is_conflicting spec) j.case (pair_cases spec p.a p.b) conflicting is)) [
            | inl locked ↦ absurd (true≢false (sym locked ∙ x_is))
            | inr parted ↦ absurd (true≢false (sym parted ∙ y_is))
          ]
          | inr refuted ↦ refuted
        ])

line_short : (spec : Spec) (locks parts : List LockKind) (lock part : ℕ) (j : Judged) → length j.derivation.steps ≤ 4294967294 → FewSteps (line_by spec locks parts lock part j)
line_short spec locks parts lock part j few = by (list_any (lock_fits spec j.case) locks) (list_any (part_fits spec j.case) parts)
  where
    by : (x y : Bool) → FewSteps (cond x (SepLock lock) (cond y (SepPart part) (Refuted j.derivation)))
    by true y = tt
    by false true = tt
    by false false = few

-- ---- one pair more

zip_append : {X Y : Type 0} (R : X → Y → Type 0) (xs us : List X) (ys vs : List Y) → AllZip R xs ys → AllZip R us vs → AllZip R (xs ++ us) (ys ++ vs)
zip_append R [] us [] vs h k = k
zip_append R [] us (y ∷ ys) vs h k = absurd h
zip_append R (x ∷ xs) us [] vs h k = absurd h
zip_append R (x ∷ xs) us (y ∷ ys) vs h k = (h.0, zip_append R xs us ys vs h.1 k)

zip_maps : {J X Y : Type 0} (R : X → Y → Type 0) (f : J → X) (g : J → Y) (js : List J) → AllByRecursion (λ j. R (f j) (g j)) js → AllZip R (map f js) (map g js)
zip_maps R f g [] h = tt
zip_maps R f g (j ∷ js) h = (h.0, zip_maps R f g js h.1)

-- what is known of a case that was judged
pub record IsListed (spec : Spec) (p : Pair) (j : Judged) : Type 0 where
  pub judged : IsJudged spec j
  pub own : IsOf p.a p.b j.case
  pub among : Among j.case (pair_cases spec p.a p.b)

each_listed : (spec : Spec) (p : Pair) (js : List Judged) → AllByRecursion (IsJudged spec) js → map case_of js ≡ pair_cases spec p.a p.b → AllByRecursion (IsListed spec p) js
each_listed spec p js sound is =
    each_weaker (λ j. IsJudged spec j × (IsOf p.a p.b j.case × Among j.case (pair_cases spec p.a p.b))) (IsListed spec p) js (λ j h. record { judged = h.0; own = h.1.0; among = h.1.1 })
    (each_both (IsJudged spec) (λ j. IsOf p.a p.b j.case × Among j.case (pair_cases spec p.a p.b)) js sound
    (map_each (λ k. IsOf p.a p.b k × Among k (pair_cases spec p.a p.b)) case_of js
    (subst (AllByRecursion (λ k. IsOf p.a p.b k × Among k (pair_cases spec p.a p.b))) (sym is)
    (each_both (IsOf p.a p.b) (λ k. Among k (pair_cases spec p.a p.b)) (pair_cases spec p.a p.b) (own_cases spec p.a p.b) (each_among (pair_cases spec p.a p.b) (pair_cases spec p.a p.b) (λ k h. h))))))

flat_more : {X : Type 0} (f : Pair → List X) (before : List Pair) (p : Pair) → flat_map f (before ++ p ∷ []) ≡ flat_map f before ++ f p
flat_more f before p = flat_map-append f before (p ∷ []) ∙ ap (λ xs. flat_map f before ++ xs) (append-nil (f p))

pub drafts_more : (spec : Spec) (before : List Pair) (p : Pair) (behind : List Pair) (old new : Draft) → pairs_of spec ≡ before ++ p ∷ behind → Drafts spec before old → AddsPair spec p old new → Drafts spec (before ++ p ∷ []) new
drafts_more spec before p behind old new whole h adds =
    let listed : AllByRecursion (IsListed spec p) adds.judged = each_listed spec p adds.judged adds.sound adds.cases in
    record {
      goes = ap (find (ends spec)) (flat_more (cases_at spec) before p) ∙ find_behind (ends spec) (flat_map (cases_at spec) before) (cases_at spec p) h.goes ∙ adds.goes;
      locks = adds.locks ∙ ap (λ ls. ls ++ locks_at spec p) h.locks ∙ sym (flat_more (locks_at spec) before p);
      parts = adds.parts ∙ ap (λ ls. ls ++ parts_at spec p) h.parts ∙ sym (flat_more (parts_at spec) before p);
      lines = subst (λ ls. AllZip (λ k l. line_fits spec (derived_plan spec) k l ≡ true) (flat_map (cases_at spec) (before ++ p ∷ [])) ls) (sym adds.lines)
          (subst (λ ks. AllZip (λ k l. line_fits spec (derived_plan spec) k l ≡ true) ks (old.lines ++ map (line_by spec (locks_at spec p) (parts_at spec p) (length old.locks) (length old.parts)) adds.judged))
          (ap (λ ks. flat_map (cases_at spec) before ++ ks) adds.cases ∙ sym (flat_more (cases_at spec) before p))
          (zip_append (λ k l. line_fits spec (derived_plan spec) k l ≡ true) (flat_map (cases_at spec) before) (map case_of adds.judged) old.lines (map (line_by spec (locks_at spec p) (parts_at spec p) (length old.locks) (length old.parts)) adds.judged) h.lines
          (zip_maps (λ k l. line_fits spec (derived_plan spec) k l ≡ true) case_of (line_by spec (locks_at spec p) (parts_at spec p) (length old.locks) (length old.parts)) adds.judged
          (each_weaker (IsListed spec p) (λ j. line_fits spec (derived_plan spec) j.case (line_by spec (locks_at spec p) (parts_at spec p) (length old.locks) (length old.parts) j) ≡ true) adds.judged
          (λ j l. line_right spec p (length old.locks) (length old.parts) j
          (subst (λ ls. IsPlaced spec j.case p (length ls) (length old.parts)) (sym h.locks) (subst (λ ls. IsPlaced spec j.case p (length (flat_map (locks_at spec) before)) (length ls)) (sym h.parts) (placed spec before p behind j.case whole l.own)))
          l.judged l.own l.among) listed))));
      short = subst (AllByRecursion FewSteps) (sym adds.lines)
          (each_append FewSteps old.lines (map (line_by spec (locks_at spec p) (parts_at spec p) (length old.locks) (length old.parts)) adds.judged) h.short
          (each_map FewSteps (line_by spec (locks_at spec p) (parts_at spec p) (length old.locks) (length old.parts)) adds.judged
          (each_weaker (IsListed spec p) (λ j. FewSteps (line_by spec (locks_at spec p) (parts_at spec p) (length old.locks) (length old.parts) j)) adds.judged
          (λ j l. line_short spec (locks_at spec p) (parts_at spec p) (length old.locks) (length old.parts) j l.judged.short) listed)));
    }
