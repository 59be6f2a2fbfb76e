-- Literals among others, and literals that are false.
use Rattle.std.proofs.Common.{◌≡◌, ◌≢◌, ℕ, zero, suc, ◌<◌, ◌≤◌, Bool, true, false, cond, not, eqb, List, [], ◌∷◌, ◌++◌, length, get_or, set, refl, sym, ap, subst, ◌∙◌, ◌⊎◌, inl, inr}
use Rattle.std.specs.Prelude.{filter, slice_get, None}
use Rattle.std.specs.List.{list_any, AllByRecursion}
use mathlib.Core.Bool.{beq}
use Rattle.std.proofs.lemmas.Bool.{and_from, and_parts, cases_Bool, cases_eq, cases_lt, eq-eqb, eqb-true, ne_eqb, or_cases, or_from, or_left, or_parts, or_right, true≢false}
use Rattle.std.proofs.lemmas.List.{get_or-set_other, get_or-set_same, get_or_past, length-set}
use Rattle.ground_clauses.proofs.Lists.{any_append_right}
use Rattle.ground_clauses.specs.Derivations.{opposite_num, repeats, same_num}
use Rattle.ground_clauses.specs.declared.clauses.Lit.{Lit}
use Rattle.clause_solver.specs.Assigning.{is_truth, left, lit_false, value_at, value_of, with_lit}
use Rattle.clause_solver.specs.Refuting.{IsMarked, among}
use Rattle.clause_solver.specs.Trails.{blank}
use Rattle.clause_solver.specs.declared.assignment.Value.{Value}
use Rattle.clause_solver.specs.declared.assignment.Value.TheVariants.{Open}

beq_same : (b : Bool) → beq b b ≡ true
beq_same true = refl
beq_same false = refl

beq_true : (x y : Bool) → beq x y ≡ true → x ≡ y
beq_true true true h = refl
beq_true false false h = refl
beq_true true false h = absurd (true≢false (sym h))
beq_true false true h = absurd (true≢false (sym h))

pub same_self : (x : Lit) → same_num x x ≡ true
same_self x = and_from (eqb x.var x.var) (beq x.yes x.yes) (eq-eqb x.var x.var refl) (beq_same x.yes)

pub same_parts : (x y : Lit) → same_num x y ≡ true → (x.var ≡ y.var) × (x.yes ≡ y.yes)
same_parts x y h =
    let k = and_parts (eqb x.var y.var) (beq x.yes y.yes) h in
    (eqb-true x.var y.var k.0, beq_true x.yes y.yes k.1)

pub any_cases : {X : Type 0} (p : X → Bool) (xs ys : List X) → list_any p (xs ++ ys) ≡ true → (list_any p xs ≡ true) ⊎ (list_any p ys ≡ true)
any_cases p [] ys h = inr h
any_cases p (x ∷ xs) ys h = elim (or_cases (p x) (list_any p (xs ++ ys)) h) [
  | inl here ↦ inl (or_left (p x) (list_any p xs) here)
  | inr there ↦ elim (any_cases p xs ys there) [
    | inl a ↦ inl (or_right (p x) (list_any p xs) a)
    | inr b ↦ inr b
  ]
]

-- among one literal more
pub among_push : (xs : List Lit) (z x : Lit) → among (xs ++ z ∷ []) x ≡ true → (among xs x ≡ true) ⊎ (same_num x z ≡ true)
among_push xs z x h = elim (any_cases (same_num x) xs (z ∷ []) h) [
  | inl a ↦ inl a
  | inr b ↦ elim (or_cases (same_num x z) false b) [
    | inl c ↦ inr c
    | inr d ↦ absurd (true≢false (sym d))
  ]
]

pub among_last : (xs : List Lit) (z x : Lit) → same_num x z ≡ true → among (xs ++ z ∷ []) x ≡ true
among_last xs z x h = any_append_right (same_num x) xs (z ∷ []) (or_left (same_num x z) false h)

-- what holds of each literal that is among these
pub each_among : (P : Lit → Type 0) (xs : List Lit) → ((x : Lit) → among xs x ≡ true → P x) → AllByRecursion P xs
each_among P [] f = tt
each_among P (x ∷ xs) f =
    (f x (or_left (same_num x x) (among xs x) (same_self x)), each_among P xs (λ y h. f y (or_right (same_num y x) (among xs y) h)))

-- what holds of each variable of these literals holds of one that is among them
pub among_each : (P : ℕ → Type 0) (xs : List Lit) (x : Lit) → AllByRecursion (λ (y : Lit). P y.var) xs → among xs x ≡ true → P x.var
among_each P [] x h k = absurd (true≢false (sym k))
among_each P (y ∷ ys) x h k = elim (or_cases (same_num x y) (among ys x) k) [
  | inl here ↦ subst P (sym (same_parts x y here).0) h.0
  | inr there ↦ among_each P ys x h.1 there
]

pub filter_same : {X : Type 0} (p q : X → Bool) (xs : List X) → AllByRecursion (λ x. p x ≡ q x) xs → filter p xs ≡ filter q xs
filter_same p q [] h = refl
filter_same p q (x ∷ xs) h = ap (λ b. cond b (x ∷ filter p xs) (filter p xs)) h.0 ∙ ap (λ ys. cond (q x) (x ∷ ys) ys) (filter_same p q xs h.1)

-- a literal that isn't false is left
pub left_among : (vs : List Value) (c : List Lit) (x : Lit) → among c x ≡ true → lit_false vs x ≡ false → among (left vs c) x ≡ true
left_among vs [] x h k = h
left_among vs (y ∷ c) x h k = elim (or_cases (same_num x y) (among c x) h) [
  | inl here ↦ let e = same_parts x y here in
      let kept : lit_false vs y ≡ false = ap (λ n. is_truth (value_at vs n) (not y.yes)) (sym e.0) ∙ ap (λ b. is_truth (value_at vs x.var) (not b)) (sym e.1) ∙ k in
      subst (λ b. among (cond (not b) (y ∷ left vs c) (left vs c)) x ≡ true) (sym kept) (or_left (same_num x y) (among (left vs c) x) here)
  | inr there ↦ elim (cases_Bool (lit_false vs y)) [
    | inl gone ↦ subst (λ b. among (cond (not b) (y ∷ left vs c) (left vs c)) x ≡ true) (sym gone) (left_among vs c x there k)
    | inr kept ↦ subst (λ b. among (cond (not b) (y ∷ left vs c) (left vs c)) x ≡ true) (sym kept)
        (or_right (same_num x y) (among (left vs c) x) (left_among vs c x there k))
  ]
]

-- ---- false literals, before and after one more is made true

open_true : (b : Bool) (v : Value) → v ≡ Open → is_truth v b ≡ true → ⊥
open_true b v e h = true≢false (sym h ∙ ap (λ w. is_truth w b) e)

-- a false literal's variable has a value
pub false_known : (vs : List Value) (x : Lit) → lit_false vs x ≡ true → value_at vs x.var ≢ Open
false_known vs x h e = open_true (not x.yes) (value_at vs x.var) e h

pub false_within : (vs : List Value) (x : Lit) → lit_false vs x ≡ true → x.var < length vs
false_within vs x h = elim (cases_lt x.var (length vs)) [
  | inl lt ↦ lt
  | inr le ↦ absurd (false_known vs x h (get_or_past vs x.var Open le))
]

pub false_later : (vs : List Value) (l x : Lit) → value_at vs l.var ≡ Open → lit_false vs x ≡ true → lit_false (with_lit vs l) x ≡ true
false_later vs l x free h = elim (cases_eq x.var l.var) [
  | inl same ↦ absurd (false_known vs x h (ap (value_at vs) same ∙ free))
  | inr other ↦ ap (λ v. is_truth v (not x.yes)) (get_or-set_other vs l.var x.var (value_of l.yes) Open other) ∙ h
]

truth_sign : (a b : Bool) → is_truth (value_of a) (not b) ≡ true → beq b (not a) ≡ true
truth_sign true true h = h
truth_sign true false h = refl
truth_sign false true h = refl
truth_sign false false h = h

sign_truth : (a : Bool) → is_truth (value_of a) (not (not a)) ≡ true
sign_truth true = refl
sign_truth false = refl

pub false_before : (vs : List Value) (l x : Lit) → l.var < length vs → lit_false (with_lit vs l) x ≡ true → (lit_false vs x ≡ true) ⊎ (same_num x (opposite_num l) ≡ true)
false_before vs l x lt h = elim (cases_eq x.var l.var) [
  | inl same ↦ inr (and_from (eqb x.var l.var) (beq x.yes (not l.yes)) (eq-eqb x.var l.var same)
      (truth_sign l.yes x.yes (ap (λ v. is_truth v (not x.yes)) (sym (get_or-set_same vs l.var (value_of l.yes) Open lt) ∙ ap (λ n. value_at (with_lit vs l) n) (sym same)) ∙ h)))
  | inr other ↦ inl (ap (λ v. is_truth v (not x.yes)) (sym (get_or-set_other vs l.var x.var (value_of l.yes) Open other)) ∙ h)
]

-- the denial of a literal that was made true is false
pub opposite_false : (vs : List Value) (l x : Lit) → l.var < length vs → same_num x (opposite_num l) ≡ true → lit_false (with_lit vs l) x ≡ true
opposite_false vs l x lt h =
    let e = same_parts x (opposite_num l) h in
    ap (λ n. is_truth (value_at (with_lit vs l) n) (not x.yes)) e.0
    ∙ ap (λ b. is_truth (value_at (with_lit vs l) l.var) (not b)) e.1
    ∙ ap (λ v. is_truth v (not (not l.yes))) (get_or-set_same vs l.var (value_of l.yes) Open lt)
    ∙ sign_truth l.yes

pub blank_open : (n u : ℕ) → value_at (blank n) u ≡ Open
blank_open zero u = refl
blank_open (suc n) zero = refl
blank_open (suc n) (suc u) = blank_open n u

-- ---- marks

pub marked_none : (marks : List Bool) → IsMarked marks marks []
marked_none marks = record { size = refl; kept = λ v h. h; more = λ x h lt. absurd (true≢false (sym h)) }

set_mark : (marks : List Bool) (v u : ℕ) → get_or marks u false ≡ true → get_or (set marks v true) u false ≡ true
set_mark marks v u h = elim (cases_eq u v) [
  | inl same ↦ elim (cases_lt v (length marks)) [
    | inl lt ↦ ap (λ n. get_or (set marks v true) n false) same ∙ get_or-set_same marks v true false lt
    | inr le ↦ absurd (true≢false (sym h ∙ (get_or_past marks u false (subst (λ n. length marks ≤ n) (sym same) le))))
  ]
  | inr other ↦ get_or-set_other marks v u true false other ∙ h
]

pub marked_more : (old mid : List Bool) (c : List Lit) (x : Lit) → IsMarked old mid c → IsMarked old (set mid x.var true) (c ++ x ∷ [])
marked_more old mid c x m = record {
  size = length-set mid x.var true ∙ m.size;
  kept = λ v h. set_mark mid x.var v (m.kept v h);
  more = λ y h lt. elim (among_push c x y h) [
    | inl there ↦ set_mark mid x.var y.var (m.more y there (subst (λ n. y.var < n) (length-set mid x.var true) lt))
    | inr here ↦ let e : y.var ≡ x.var = (same_parts y x here).0 in
        ap (λ n. get_or (set mid x.var true) n false) e ∙ get_or-set_same mid x.var true false (subst (λ n. n < length mid) e (subst (λ n. y.var < n) (length-set mid x.var true) lt))
  ];
}

-- ---- variables that stand once

differs : (x z : Lit) → x.var ≢ z.var → eqb x.var z.var ≡ false
differs x z h = ne_eqb x.var z.var h

none_more : (v : ℕ) (xs : List Lit) (z : Lit) → v ≢ z.var → list_any (λ (y : Lit). eqb v y.var) xs ≡ false → list_any (λ (y : Lit). eqb v y.var) (xs ++ z ∷ []) ≡ false
none_more v [] z other h = or_from (eqb v z.var) false (ne_eqb v z.var other) refl
none_more v (x ∷ xs) z other h =
    let k = or_parts (eqb v x.var) (list_any (λ (y : Lit). eqb v y.var) xs) h in
    or_from (eqb v x.var) (list_any (λ (y : Lit). eqb v y.var) (xs ++ z ∷ [])) k.0 (none_more v xs z other k.1)

pub repeats_push : (xs : List Lit) (z : Lit) → repeats xs ≡ false → AllByRecursion (λ (x : Lit). x.var ≢ z.var) xs → repeats (xs ++ z ∷ []) ≡ false
repeats_push [] z h k = refl
repeats_push (x ∷ xs) z h k =
    let p = or_parts (list_any (λ (y : Lit). eqb x.var y.var) xs) (repeats xs) h in
    or_from (list_any (λ (y : Lit). eqb x.var y.var) (xs ++ z ∷ [])) (repeats (xs ++ z ∷ [])) (none_more x.var xs z k.0 p.0) (repeats_push xs z p.1 k.1)

-- ---- reading marks

pub past_bare : (marks : List Bool) (v : ℕ) → slice_get marks v ≡ None → get_or marks v false ≡ false
past_bare [] v is = refl
past_bare (x ∷ marks) zero is = cc
past_bare (x ∷ marks) (suc v) is = past_bare marks v is
