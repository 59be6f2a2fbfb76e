-- Lists, by recursion.
use Rattle.std.proofs.Common.{◌≡◌, ◌⊎◌, inl, inr, suc, Bool, true, false, ◌||◌, cond, List, [], ◌∷◌, ◌++◌, map, refl, sym, ap, subst, ◌∙◌}
use Rattle.std.specs.List.{list_any, AllByRecursion, flat_map, filter}
use Rattle.std.proofs.lemmas.Bool.{or_cases, or_parts, or_left, or_right, cases_Bool, true≢false}
use Rattle.ground_clauses.proofs.Values.{value_at}
use Rattle.ground_clauses.specs.Query.{dedup, dedup_after, index_of}

pub each_append : {X : Type 0} (P : X → Type 0) (xs ys : List X) → AllByRecursion P xs → AllByRecursion P ys → AllByRecursion P (xs ++ ys)
each_append P [] ys h k = k
each_append P (x ∷ xs) ys h k = (h.0, each_append P xs ys h.1 k)

pub each_flat_map : {X Y : Type 0} (P : Y → Type 0) (f : X → List Y) (xs : List X) → AllByRecursion (λ x. AllByRecursion P (f x)) xs → AllByRecursion P (flat_map f xs)
each_flat_map P f [] h = tt
each_flat_map P f (x ∷ xs) h = each_append P (f x) (flat_map f xs) h.0 (each_flat_map P f xs h.1)

pub each_map : {X Y : Type 0} (P : Y → Type 0) (f : X → Y) (xs : List X) → AllByRecursion (λ x. P (f x)) xs → AllByRecursion P (map f xs)
each_map P f [] h = tt
each_map P f (x ∷ xs) h = (h.0, each_map P f xs h.1)

pub each_weaker : {X : Type 0} (P Q : X → Type 0) (xs : List X) → ((x : X) → P x → Q x) → AllByRecursion P xs → AllByRecursion Q xs
each_weaker P Q [] f h = tt
each_weaker P Q (x ∷ xs) f h = (f x h.0, each_weaker P Q xs f h.1)

pub each_both : {X : Type 0} (P Q : X → Type 0) (xs : List X) → AllByRecursion P xs → AllByRecursion Q xs → AllByRecursion (λ x. P x × Q x) xs
each_both P Q [] h k = tt
each_both P Q (x ∷ xs) h k = ((h.0, k.0), each_both P Q xs h.1 k.1)

pub each_append_left : {X : Type 0} (P : X → Type 0) (xs ys : List X) → AllByRecursion P (xs ++ ys) → AllByRecursion P xs
each_append_left P [] ys h = tt
each_append_left P (x ∷ xs) ys h = (h.0, each_append_left P xs ys h.1)

pub each_append_right : {X : Type 0} (P : X → Type 0) (xs ys : List X) → AllByRecursion P (xs ++ ys) → AllByRecursion P ys
each_append_right P [] ys h = h
each_append_right P (x ∷ xs) ys h = each_append_right P xs ys h.1

pub flat_map_each : {X Y : Type 0} (P : Y → Type 0) (f : X → List Y) (xs : List X) → AllByRecursion P (flat_map f xs) → AllByRecursion (λ x. AllByRecursion P (f x)) xs
flat_map_each P f [] h = tt
flat_map_each P f (x ∷ xs) h = (each_append_left P (f x) (flat_map f xs) h, flat_map_each P f xs (each_append_right P (f x) (flat_map f xs) h))

pub each_filter : {X : Type 0} (P : X → Type 0) (t : X → Bool) (xs : List X) → AllByRecursion P xs → AllByRecursion P (filter t xs)
each_filter P t [] h = tt
each_filter P t (x ∷ xs) h = elim (cases_Bool (t x)) [
  | inl yes' ↦ subst (λ b. AllByRecursion P (cond b (x ∷ filter t xs) (filter t xs))) (sym yes') (h.0, each_filter P t xs h.1)
  | inr no' ↦ subst (λ b. AllByRecursion P (cond b (x ∷ filter t xs) (filter t xs))) (sym no') (each_filter P t xs h.1)
]

pub none_each : {X : Type 0} (p : X → Bool) (xs : List X) → list_any p xs ≡ false → AllByRecursion (λ x. p x ≡ false) xs
none_each p [] h = tt
none_each p (x ∷ xs) h = let k = or_parts (p x) (list_any p xs) h in (k.0, none_each p xs k.1)

pub any_map : {X Y : Type 0} (p : Y → Bool) (f : X → Y) (xs : List X) → list_any p (map f xs) ≡ list_any (λ x. p (f x)) xs
any_map p f [] = refl
any_map p f (x ∷ xs) = ap (λ b. p (f x) || b) (any_map p f xs)

pub any_same : {X : Type 0} (p q : X → Bool) (xs : List X) → AllByRecursion (λ x. p x ≡ q x) xs → list_any p xs ≡ list_any q xs
any_same p q [] h = refl
any_same p q (x ∷ xs) h = ap (λ b. b || list_any p xs) h.0 ∙ ap (λ b. q x || b) (any_same p q xs h.1)

pub any_append_left : {X : Type 0} (p : X → Bool) (xs ys : List X) → list_any p xs ≡ true → list_any p (xs ++ ys) ≡ true
any_append_left p [] ys h = absurd (true≢false (sym h))
any_append_left p (x ∷ xs) ys h = elim (or_cases (p x) (list_any p xs) h) [
  | inl here ↦ or_left (p x) (list_any p (xs ++ ys)) here
  | inr there ↦ or_right (p x) (list_any p (xs ++ ys)) (any_append_left p xs ys there)
]

pub any_append_right : {X : Type 0} (p : X → Bool) (xs ys : List X) → list_any p ys ≡ true → list_any p (xs ++ ys) ≡ true
any_append_right p [] ys h = h
any_append_right p (x ∷ xs) ys h = or_right (p x) (list_any p (xs ++ ys)) (any_append_right p xs ys h)

-- where an element of xs passes, an element of a piece of it passes
pub any_flat_map : {X Y : Type 0} (p : X → Bool) (q : Y → Bool) (f : X → List Y) (xs : List X) → ((x : X) → p x ≡ true → list_any q (f x) ≡ true) → list_any p xs ≡ true → list_any q (flat_map f xs) ≡ true
any_flat_map p q f [] g h = h
any_flat_map p q f (x ∷ xs) g h = elim (or_cases (p x) (list_any p xs) h) [
  | inl here ↦ any_append_left q (f x) (flat_map f xs) (g x here)
  | inr there ↦ any_append_right q (f x) (flat_map f xs) (any_flat_map p q f xs g there)
]

-- one element that passes
any_one : {X : Type 0} (eq : X → X → Bool) (p : X → Bool) (x : X) (xs : List X) → ((y : X) → eq x y ≡ true → p x ≡ p y) → list_any (eq x) xs ≡ true → p x ≡ true → list_any p xs ≡ true
any_one eq p x [] f h t = absurd (true≢false (sym h))
any_one eq p x (y ∷ ys) f h t = elim (or_cases (eq x y) (list_any (eq x) ys) h) [
  | inl here ↦ or_left (p y) (list_any p ys) (sym (f y here) ∙ t)
  | inr there ↦ or_right (p y) (list_any p ys) (any_one eq p x ys f there t)
]

any_append_cases : {X : Type 0} (p : X → Bool) (xs ys : List X) → list_any p (xs ++ ys) ≡ true → (list_any p xs ≡ true) ⊎ (list_any p ys ≡ true)
any_append_cases p [] ys h = inr h
any_append_cases p (x ∷ xs) ys h = elim (or_cases (p x) (list_any p (xs ++ ys)) h) [
  | inl here ↦ inl (or_left (p x) (list_any p xs) here)
  | inr there ↦ elim (any_append_cases p xs ys there) [
    | inl is ↦ inl (or_right (p x) (list_any p xs) is)
    | inr is ↦ inr is
  ]
]

any_dedup_after : {X : Type 0} (eq : X → X → Bool) (p : X → Bool) (seen xs : List X) → ((x y : X) → eq x y ≡ true → p x ≡ p y)
    → list_any p xs ≡ true → (list_any p (dedup_after eq seen xs) ≡ true) ⊎ (list_any p seen ≡ true)
any_dedup_after eq p seen [] f h = absurd (true≢false (sym h))
any_dedup_after eq p seen (x ∷ xs) f h = elim (cases_Bool (list_any (eq x) seen)) [
  | inl old ↦ elim (or_cases (p x) (list_any p xs) h) [
    | inl here ↦ inr (any_one eq p x seen (f x) old here)
    | inr there ↦ subst (λ b. (list_any p (cond b (dedup_after eq seen xs) (x ∷ dedup_after eq (seen ++ x ∷ []) xs)) ≡ true) ⊎ (list_any p seen ≡ true)) (sym old) (any_dedup_after eq p seen xs f there)
  ]
  | inr new ↦ subst (λ b. (list_any p (cond b (dedup_after eq seen xs) (x ∷ dedup_after eq (seen ++ x ∷ []) xs)) ≡ true) ⊎ (list_any p seen ≡ true)) (sym new)
      (elim (or_cases (p x) (list_any p xs) h) [
        | inl here ↦ inl (or_left (p x) (list_any p (dedup_after eq (seen ++ x ∷ []) xs)) here)
        | inr there ↦ elim (any_dedup_after eq p (seen ++ x ∷ []) xs f there) [
          | inl later ↦ inl (or_right (p x) (list_any p (dedup_after eq (seen ++ x ∷ []) xs)) later)
          | inr before ↦ elim (any_append_cases p seen (x ∷ []) before) [
            | inl far ↦ inr far
            | inr here ↦ elim (or_cases (p x) false here) [
              | inl is ↦ inl (or_left (p x) (list_any p (dedup_after eq (seen ++ x ∷ []) xs)) is)
              | inr none ↦ absurd (true≢false (sym none))
            ]
          ]
        ]
      ])
]

pub any_dedup : {X : Type 0} (eq : X → X → Bool) (p : X → Bool) (xs : List X) → ((x y : X) → eq x y ≡ true → p x ≡ p y) → list_any p xs ≡ true → list_any p (dedup eq xs) ≡ true
any_dedup eq p xs f h = elim (any_dedup_after eq p [] xs f h) [
  | inl is ↦ is
  | inr none ↦ absurd (true≢false (sym none))
]

each_dedup_after : {X : Type 0} (P : X → Type 0) (eq : X → X → Bool) (seen xs : List X) → AllByRecursion P xs → AllByRecursion P (dedup_after eq seen xs)
each_dedup_after P eq seen [] h = tt
each_dedup_after P eq seen (x ∷ xs) h = elim (cases_Bool (list_any (eq x) seen)) [
  | inl old ↦ subst (λ b. AllByRecursion P (cond b (dedup_after eq seen xs) (x ∷ dedup_after eq (seen ++ x ∷ []) xs))) (sym old) (each_dedup_after P eq seen xs h.1)
  | inr new ↦ subst (λ b. AllByRecursion P (cond b (dedup_after eq seen xs) (x ∷ dedup_after eq (seen ++ x ∷ []) xs))) (sym new) (h.0, each_dedup_after P eq (seen ++ x ∷ []) xs h.1)
]

pub each_dedup : {X : Type 0} (P : X → Type 0) (eq : X → X → Bool) (xs : List X) → AllByRecursion P xs → AllByRecursion P (dedup eq xs)
each_dedup P eq xs h = each_dedup_after P eq [] xs h

-- each element of a list is in it
pub each_within : {X : Type 0} (eq : X → X → Bool) (all xs : List X) → ((x : X) → eq x x ≡ true) → ((x : X) → list_any (eq x) xs ≡ true → list_any (eq x) all ≡ true) → AllByRecursion (λ x. list_any (eq x) all ≡ true) xs
each_within eq all [] r f = tt
each_within eq all (x ∷ xs) r f = (f x (or_left (eq x x) (list_any (eq x) xs) (r x)), each_within eq all xs r (λ y h. f y (or_right (eq y x) (list_any (eq y) xs) h)))

pub each_itself : {X : Type 0} (eq : X → X → Bool) (xs : List X) → ((x : X) → eq x x ≡ true) → AllByRecursion (λ x. list_any (eq x) xs ≡ true) xs
each_itself eq xs r = each_within eq xs xs r (λ x h. h)

-- the value at the place of an element
pub value_at_index : {X : Type 0} (f : X → Bool) (test : X → Bool) (b : Bool) (xs : List X) → ((y : X) → test y ≡ true → f y ≡ b) → list_any test xs ≡ true → value_at f xs (index_of test xs) ≡ b
value_at_index f test b [] g h = absurd (true≢false (sym h))
value_at_index f test b (x ∷ xs) g h = elim (cases_Bool (test x)) [
  | inl here ↦ subst (λ t. value_at f (x ∷ xs) (cond t 0 (suc (index_of test xs))) ≡ b) (sym here) (g x here)
  | inr not_here ↦ elim (or_cases (test x) (list_any test xs) h) [
    | inl here ↦ absurd (true≢false (sym here ∙ not_here))
    | inr there ↦ subst (λ t. value_at f (x ∷ xs) (cond t 0 (suc (index_of test xs))) ≡ b) (sym not_here) (value_at_index f test b xs g there)
  ]
]
