-- A plan that separates a case separates the instances that it stands for.
use Rattle.std.proofs.Common.{◌≡◌, ◌⊎◌, inl, inr, ℕ, zero, suc, ◌≤◌, Bool, true, false, ◌&&◌, ◌||◌, cond, eqb, leb, List, [], ◌∷◌, length, get_or, take, drop, refl, sym, ap, subst, ◌∙◌, arith}
use Rattle.std.specs.Prelude.{Some, is_some}
use Rattle.std.specs.List.{list_any, list_all, AllByRecursion, AllZip}
use Rattle.std.proofs.lemmas.Bool.{true≢false, and_parts, or_cases, eqb-true, eq-eqb, leb-true}
use Rattle.certificate_check.specs.Separation.{is_separated, lock_fits, lowest, lowest_from, part_fits, same_class, shares}
use Rattle.ground_clauses.proofs.Hypotheses.{Among, among_each}
use Rattle.ground_clauses.proofs.Keeps.{among_from_contains, contains_from_among}
use Rattle.ground_clauses.specs.Bits.{has_bit}
use Rattle.ground_clauses.specs.Cases.{Reach, bits, count_a, count_b, point, reach_has, reaches, reaches_a, reaches_b, reaches_have, upto_from}
use Rattle.ground_clauses.specs.Instances.{meets}
use Rattle.ground_clauses.specs.Laws.{StandsFor}
use Rattle.ground_clauses.specs.declared.case.Case.{Case}
use Rattle.ind_base.specs.declared.span.Span.{Span}
use Rattle.spec_model.specs.Fits.{ArgFits, InstFits, KeyFits, LockFits, PartFits, PlanFits, has_interval}
use Rattle.spec_model.specs.Separated.{Meets, Separates, SharePoint, interval_place}
use Rattle.spec_model.specs.Truths.{arg, inst_has, no_span, op_at, sort_of, span_has}
use Rattle.spec_model.specs.declared.clause.Var.{Var}
use Rattle.spec_model.specs.declared.instance.Inst.{Inst}
use Rattle.spec_model.specs.declared.plan.LockKind.{LockKind}
use Rattle.spec_model.specs.declared.plan.Pair.{Pair}
use Rattle.spec_model.specs.declared.plan.Plan.{Plan}
use Rattle.spec_model.specs.declared.spec.Spec.{Spec}

-- a parameter that reaches one class is plain
plain_here : (spec : Spec) (params : List Var) (args : List Span) (cs : List ℕ) (bs : ℕ) (i c : ℕ) → AllZip (ArgFits spec) params args → get_or (reaches params cs bs) i (bits 0) ≡ point c
    → (get_or args i no_span).lo ≡ (get_or args i no_span).hi
plain_here spec [] [] cs bs i c fits is = cc
plain_here spec [] (a ∷ args) cs bs i c fits is = absurd fits
plain_here spec (p ∷ params) [] cs bs i c fits is = absurd fits
plain_here spec (p ∷ params) (a ∷ args) cs bs i c fits is = by_kind (p.interval) refl i (λ j ds g. plain_here spec params args ds bs j c fits.1 g) is
  where
    by_kind : (b : Bool) → p.interval ≡ b → (i : ℕ) → ((j : ℕ) (ds : List ℕ) → get_or (reaches params ds bs) j (bits 0) ≡ point c → (get_or args j no_span).lo ≡ (get_or args j no_span).hi)
        → get_or (cond b (bits bs ∷ reaches params cs bs) (point (get_or cs 0 0) ∷ reaches params (drop 1 cs) bs)) i (bits 0) ≡ point c → (get_or (a ∷ args) i no_span).lo ≡ (get_or (a ∷ args) i no_span).hi
    by_kind true k zero rest g = cc
    by_kind true k (suc j) rest g = rest j cs g
    by_kind false k zero rest g = fits.0.plain k
    by_kind false k (suc j) rest g = rest j (drop 1 cs) g

-- the argument at a point is the name of its class
value_here : (a : Span) (x : ℕ) → a.lo ≡ a.hi → span_has a x ≡ true → a.lo ≡ x
value_here a x plain has =
    let k = and_parts (leb a.lo x) (leb x a.hi) has in
    let l : a.lo ≤ x = leb-true a.lo x k.0 in
    let h : x ≤ a.hi = leb-true x a.hi k.1 in
    omega arith

point_arg : (spec : Spec) (params : List Var) (e : Inst) (cs : List ℕ) (bs : ℕ) (n : ℕ → ℕ → ℕ) (i c : ℕ) → AllZip (ArgFits spec) params e.args
    → ((i c : ℕ) → reaches_have (reaches params cs bs) i c ≡ inst_has e i (n (sort_of params i) c))
    → get_or (reaches params cs bs) i (bits 0) ≡ point c → (arg e i).lo ≡ n (sort_of params i) c
point_arg spec params e cs bs n i c fits has is =
    value_here (arg e i) (n (sort_of params i) c) (plain_here spec params e.args cs bs i c fits is)
    (sym (has i c) ∙ ap (λ r. reach_has r c) is ∙ eq-eqb c c refl)

-- two points of one class
pub record IsMeeting (x y : Reach) : Type 0 where
  pub class : ℕ
  pub x_is : x ≡ point class
  pub y_is : y ≡ point class

meeting : (x y : Reach) → same_class x y ≡ true → IsMeeting x y
meeting (point c) (point d) h = record { class = c; x_is = refl; y_is = ap point (sym (eqb-true c d h)) }
meeting (point c) (bits d) h = absurd (true≢false (sym h))
meeting (bits c) y h = absurd (true≢false (sym h))

each_all : {X : Type 0} (p : X → Bool) (xs : List X) → list_all p xs ≡ true → AllByRecursion (λ x. p x ≡ true) xs
each_all p [] h = tt
each_all p (x ∷ xs) h = let k = and_parts (p x) (list_all p xs) h in (k.0, each_all p xs k.1)

fit_at : (spec : Spec) (e : Inst) (a : ℕ) → e.op ≡ a → InstFits spec e → AllZip (ArgFits spec) (op_at spec a).params e.args
fit_at spec e a is fits = subst (λ i. AllZip (ArgFits spec) (op_at spec i).params e.args) is fits.args_fit

keys_agree : (spec : Spec) (k : Case) (n : ℕ → ℕ → ℕ) (e o : Inst) (xs : List ℕ) (key : List Pair) → StandsFor spec k n e o xs → InstFits spec e → InstFits spec o
    → AllByRecursion (λ p. KeyFits (op_at spec k.a).params (op_at spec k.b).params p) key
    → AllByRecursion (λ p. same_class (get_or (reaches_a spec k) p.a (bits 0)) (get_or (reaches_b spec k) p.b (bits 0)) ≡ true) key
    → AllByRecursion (λ p. (arg e p.a).lo ≡ (arg o p.b).lo) key
keys_agree spec k n e o xs [] stands fe fo sorts equal_at = tt
keys_agree spec k n e o xs (p ∷ key) stands fe fo sorts equal_at =
    let m : IsMeeting (get_or (reaches_a spec k) p.a (bits 0)) (get_or (reaches_b spec k) p.b (bits 0)) =
    meeting (get_or (reaches_a spec k) p.a (bits 0)) (get_or (reaches_b spec k) p.b (bits 0)) equal_at.0 in
    let left : (arg e p.a).lo ≡ n (sort_of (op_at spec k.a).params p.a) m.class =
    point_arg spec (op_at spec k.a).params e (take (count_a spec k) k.classes) k.bits_a n p.a m.class (fit_at spec e k.a stands.op_a fe) stands.args_a m.x_is in
    let right : (arg o p.b).lo ≡ n (sort_of (op_at spec k.b).params p.b) m.class =
    point_arg spec (op_at spec k.b).params o (take (count_b spec k) (drop (count_a spec k) k.classes)) k.bits_b n p.b m.class (fit_at spec o k.b stands.op_b fo) stands.args_b m.y_is in
    (left ∙ ap (λ s. n s m.class) sorts.0.one_sort ∙ sym right, keys_agree spec k n e o xs key stands fe fo sorts.1 equal_at.1)

lock_meets : (spec : Spec) (k : Case) (n : ℕ → ℕ → ℕ) (e o : Inst) (xs : List ℕ) (l : LockKind) → StandsFor spec k n e o xs → InstFits spec e → InstFits spec o → LockFits spec l
    → lock_fits spec k l ≡ true → Meets l e o
lock_meets spec k n e o xs l stands fe fo fits h =
    let p = and_parts (eqb l.a k.a) (eqb l.b k.b && list_all (λ p. same_class (get_or (reaches_a spec k) p.a (bits 0)) (get_or (reaches_b spec k) p.b (bits 0))) l.key) h in
    let q = and_parts (eqb l.b k.b) (list_all (λ p. same_class (get_or (reaches_a spec k) p.a (bits 0)) (get_or (reaches_b spec k) p.b (bits 0))) l.key) p.1 in
    let a_is : l.a ≡ k.a = eqb-true l.a k.a p.0 in
    let b_is : l.b ≡ k.b = eqb-true l.b k.b q.0 in
    let sorts : AllByRecursion (λ p. KeyFits (op_at spec k.a).params (op_at spec k.b).params p) l.key =
    subst (λ b. AllByRecursion (λ p. KeyFits (op_at spec k.a).params (op_at spec b).params p) l.key) b_is
    (subst (λ a. AllByRecursion (λ p. KeyFits (op_at spec a).params (op_at spec l.b).params p) l.key) a_is fits.key_fits) in
    let agree : AllByRecursion (λ p. (arg e p.a).lo ≡ (arg o p.b).lo) l.key =
    keys_agree spec k n e o xs l.key stands fe fo sorts (each_all (λ p. same_class (get_or (reaches_a spec k) p.a (bits 0)) (get_or (reaches_b spec k) p.b (bits 0))) l.key q.1) in
    record {
      a_is = a_is ∙ sym stands.op_a;
      b_is = b_is ∙ sym stands.op_b;
      key = λ p is. among_each (λ p. (arg e p.a).lo ≡ (arg o p.b).lo) p l.key agree (among_from_contains l.key p is);
    }

bits_here : (params : List Var) (cs : List ℕ) (mask : ℕ) → has_interval params ≡ true → get_or (reaches params cs mask) (interval_place params) (bits 0) ≡ bits mask
bits_here [] cs mask h = absurd (true≢false (sym h))
bits_here (p ∷ params) cs mask h = by_kind (p.interval) (λ ds g. bits_here params ds mask g) h
  where
    by_kind : (b : Bool) → ((ds : List ℕ) → has_interval params ≡ true → get_or (reaches params ds mask) (interval_place params) (bits 0) ≡ bits mask)
        → (b || has_interval params) ≡ true
        → get_or (cond b (bits mask ∷ reaches params cs mask) (point (get_or cs 0 0) ∷ reaches params (drop 1 cs) mask)) (cond b 0 (suc (interval_place params))) (bits 0) ≡ bits mask
    by_kind true rest g = refl
    by_kind false rest g = rest (drop 1 cs) g

pub record IsShared (x y : ℕ) : Type 0 where
  pub class : ℕ
  pub in_x : has_bit x class ≡ true
  pub in_y : has_bit y class ≡ true

shared_class : (x y : ℕ) (cs : List ℕ) → list_any (λ c. has_bit x c && has_bit y c) cs ≡ true → IsShared x y
shared_class x y [] h = absurd (true≢false (sym h))
shared_class x y (c ∷ cs) h = elim (or_cases (has_bit x c && has_bit y c) (list_any (λ c. has_bit x c && has_bit y c) cs) h) [
  | inl here ↦ let k = and_parts (has_bit x c) (has_bit y c) here in record { class = c; in_x = k.0; in_y = k.1 }
  | inr there ↦ shared_class x y cs there
]

interval_has : (params : List Var) (e : Inst) (cs : List ℕ) (mask : ℕ) (n : ℕ → ℕ → ℕ) (c : ℕ) → has_interval params ≡ true
    → ((i c : ℕ) → reaches_have (reaches params cs mask) i c ≡ inst_has e i (n (sort_of params i) c)) → has_bit mask c ≡ true
    → span_has (arg e (interval_place params)) (n (sort_of params (interval_place params)) c) ≡ true
interval_has params e cs mask n c is has h = sym (has (interval_place params) c) ∙ ap (λ r. reach_has r c) (bits_here params cs mask is) ∙ h

share_point : (spec : Spec) (k : Case) (n : ℕ → ℕ → ℕ) (e o : Inst) (xs : List ℕ) (l : LockKind) → StandsFor spec k n e o xs → Meets l e o → PartFits spec l → shares k ≡ true → SharePoint spec e o
share_point spec k n e o xs l stands meets fits h =
    let s : IsShared k.bits_a k.bits_b = shared_class k.bits_a k.bits_b (upto_from 0 (length k.classes)) h in
    let a_is : l.a ≡ k.a = meets.a_is ∙ stands.op_a in
    let b_is : l.b ≡ k.b = meets.b_is ∙ stands.op_b in
    let ia : has_interval (op_at spec k.a).params ≡ true = subst (λ a. has_interval (op_at spec a).params ≡ true) a_is fits.interval_a in
    let ib : has_interval (op_at spec k.b).params ≡ true = subst (λ b. has_interval (op_at spec b).params ≡ true) b_is fits.interval_b in
    let sort : sort_of (op_at spec k.a).params (interval_place (op_at spec k.a).params) ≡ sort_of (op_at spec k.b).params (interval_place (op_at spec k.b).params) =
    subst (λ b. sort_of (op_at spec k.a).params (interval_place (op_at spec k.a).params) ≡ sort_of (op_at spec b).params (interval_place (op_at spec b).params)) b_is
    (subst (λ a. sort_of (op_at spec a).params (interval_place (op_at spec a).params) ≡ sort_of (op_at spec l.b).params (interval_place (op_at spec l.b).params)) a_is fits.one_sort) in (
      n (sort_of (op_at spec k.a).params (interval_place (op_at spec k.a).params)) s.class,
      subst (λ a. span_has (arg e (interval_place (op_at spec a).params)) (n (sort_of (op_at spec k.a).params (interval_place (op_at spec k.a).params)) s.class) ≡ true) (sym stands.op_a)
          (interval_has (op_at spec k.a).params e (take (count_a spec k) k.classes) k.bits_a n s.class ia stands.args_a s.in_x),
      subst (λ b. span_has (arg o (interval_place (op_at spec b).params)) (n (sort_of (op_at spec k.a).params (interval_place (op_at spec k.a).params)) s.class) ≡ true) (sym stands.op_b)
          (subst (λ z. span_has (arg o (interval_place (op_at spec k.b).params)) (n z s.class) ≡ true) (sym sort)
          (interval_has (op_at spec k.b).params o (take (count_b spec k) (drop (count_a spec k) k.classes)) k.bits_b n s.class ib stands.args_b s.in_y)),
    )

-- an element that passes a test
pub record Found {X : Type 0} (test : X → Bool) (xs : List X) : Type 0 where
  pub item : X
  pub among : Among item xs
  pub passes : test item ≡ true

found : {X : Type 0} (test : X → Bool) (xs : List X) → list_any test xs ≡ true → Found test xs
found test [] h = absurd (true≢false (sym h))
found test (x ∷ xs) h = elim (or_cases (test x) (list_any test xs) h) [
  | inl here ↦ record { item = x; among = inl refl; passes = here }
  | inr there ↦ let f : Found test xs = found test xs there in record { item = f.item; among = inr f.among; passes = f.passes }
]

lowest_any : (n : ℕ) (test : LockKind → Bool) (xs : List LockKind) → is_some (lowest_from n test xs) ≡ true → list_any test xs ≡ true
lowest_any n test [] h = h
lowest_any n test (x ∷ xs) h = by_test (test x) (λ g. lowest_any (suc n) test xs g) h
  where
    by_test : (b : Bool) → (is_some (lowest_from (suc n) test xs) ≡ true → list_any test xs ≡ true) → is_some (cond b (Some n) (lowest_from (suc n) test xs)) ≡ true → (b || list_any test xs) ≡ true
    by_test true rest g = refl
    by_test false rest g = rest g

pub separated : (spec : Spec) (plan : Plan) (k : Case) (n : ℕ → ℕ → ℕ) (e o : Inst) (xs : List ℕ) → StandsFor spec k n e o xs → InstFits spec e → InstFits spec o → PlanFits spec plan
    → is_separated spec plan k ≡ true → Separates spec plan e o
separated spec plan k n e o xs stands fe fo fits h = elim (or_cases (is_some (lowest (lock_fits spec k) plan.locks)) (is_some (lowest (part_fits spec k) plan.parts)) h) [
  | inl by_lock ↦
      let f : Found (lock_fits spec k) plan.locks = found (lock_fits spec k) plan.locks (lowest_any 0 (lock_fits spec k) plan.locks by_lock) in
      inl (
        f.item,
        contains_from_among plan.locks f.item f.among,
        inl (lock_meets spec k n e o xs f.item stands fe fo (among_each (LockFits spec) f.item plan.locks fits.locks_fit f.among) f.passes),
      )
  | inr by_part ↦
      let f : Found (part_fits spec k) plan.parts = found (part_fits spec k) plan.parts (lowest_any 0 (part_fits spec k) plan.parts by_part) in
      let p = and_parts (lock_fits spec k f.item) (shares k) f.passes in
      let fit : PartFits spec f.item = among_each (PartFits spec) f.item plan.parts fits.parts_fit f.among in
      let lock_is : Meets f.item e o = lock_meets spec k n e o xs f.item stands fe fo fit.lock p.0 in
      inr (f.item, contains_from_among plan.parts f.item f.among, inl lock_is, share_point spec k n e o xs f.item stands lock_is fit p.1)
]

-- the plan separates two instances in either order
pub separates_back : (spec : Spec) (plan : Plan) (e o : Inst) → Separates spec plan o e → Separates spec plan e o
separates_back spec plan e o (inl h) = inl (h.0, h.1, other_way (Meets h.0 o e) (Meets h.0 e o) h.2)
  where
    other_way : (A B : Type 0) → A ⊎ B → B ⊎ A
    other_way A B (inl x) = inr x
    other_way A B (inr y) = inl y
separates_back spec plan e o (inr h) = inr (h.0, h.1, other_way (Meets h.0 o e) (Meets h.0 e o) h.2, (h.3.0, h.3.2, h.3.1))
  where
    other_way : (A B : Type 0) → A ⊎ B → B ⊎ A
    other_way A B (inl x) = inr x
    other_way A B (inr y) = inl y
