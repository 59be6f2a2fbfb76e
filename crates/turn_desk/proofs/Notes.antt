-- What a pass noted of the line.
use Rattle.std.proofs.Common.{◌≡◌, ◌+◌, ◌≤◌, ◌<◌, ℕ, zero, suc, Bool, true, false, List, [], ◌∷◌, ◌++◌, map, length, Some, sym, refl, ap, ◌∙◌, arith, length-append}
use Rattle.std.proofs.lemmas.Bool.Decides.{nat_tests}
use Rattle.std.proofs.lemmas.List.{append-nil, map-append, length-map}
use Rattle.std.proofs.lemmas.List.Elements.{filter-append}
use Rattle.std.specs.Prelude.{cond, filter}
use Rattle.turn_desk.specs.declared.line.Entry.{Entry}
use Rattle.turn_desk.specs.declared.line.Entry.TheVariants.{Served, Blank}
use Rattle.turn_desk.specs.declared.line.Noted.{Noted}
use Rattle.turn_desk.specs.Line.{served, entries, own, others, owns_at, noted}
use Rattle.turn_desk.specs.Views.{one_if}

-- x and then xs, or xs alone
abbrev pub kept_if : {X : Type 0} → Bool → X → List X → List X
kept_if true x xs = x ∷ xs
kept_if false x xs = xs

abbrev pub counted : Bool → ℕ
counted b = cond b 1 0

map_kept : {X Y : Type 0} (f : X → Y) (b : Bool) (x : X) (xs : List X)
    → map f (cond b (x ∷ xs) xs) ≡ kept_if b (f x) (map f xs)
map_kept f true x xs = refl
map_kept f false x xs = refl

counted_one : (b : Bool) → counted b ≡ 1 → b ≡ true
counted_one true e = refl
counted_one false e = absurd (omega (arith, e))

none_kept : {X : Type 0} (b : Bool) (x : X) (xs : List X) → length (kept_if b x xs) ≡ 0
    → (counted b ≡ 0) × (length xs ≡ 0)
none_kept true x xs e = absurd (omega (arith, e))
none_kept false x xs e = (refl, e)

module _ {A B : Type 0} where
  pub entries_append : (xs ys : List (Noted A B)) → entries (xs ++ ys) ≡ entries xs ++ entries ys
  entries_append xs ys = map-append (λ (n : Noted A B). n.entry) xs ys

  pub entries_length : (xs : List (Noted A B)) → length (entries xs) ≡ length xs
  entries_length xs = length-map xs (λ (n : Noted A B). n.entry)

  pub entries_others : (es : List (Entry A B)) → entries (others es) ≡ es
  entries_others [] = refl
  entries_others (e ∷ es) = ap (λ (fs : List (Entry A B)). e ∷ fs) (entries_others es)

  -- what was seen goes on
  pub entries_more : (xs : List (Noted A B)) (es : List (Entry A B)) → entries (xs ++ others es) ≡ entries xs ++ es
  entries_more xs es =
      entries_append xs (others es) ∙ ap (λ (ys : List (Entry A B)). entries xs ++ ys) (entries_others es)

  pub own_cons : (x : Noted A B) (xs : List (Noted A B)) → own (x ∷ xs) ≡ kept_if x.mine x.entry (own xs)
  own_cons x xs = map_kept (λ (n : Noted A B). n.entry) x.mine x (filter (λ (n : Noted A B). n.mine) xs)

  own_append : (xs ys : List (Noted A B)) → own (xs ++ ys) ≡ own xs ++ own ys
  own_append xs ys =
      let mine : Noted A B → Bool = λ (n : Noted A B). n.mine in
      ap entries (filter-append mine xs ys) ∙ entries_append (filter mine xs) (filter mine ys)

  pub own_others : (es : List (Entry A B)) → own (others es) ≡ []
  own_others [] = refl
  own_others (e ∷ es) = own_others es

  -- turns of others are none of its own
  pub own_more : (xs : List (Noted A B)) (es : List (Entry A B)) → own (xs ++ others es) ≡ own xs
  own_more xs es =
      own_append xs (others es) ∙ ap (λ (ys : List (Entry A B)). own xs ++ ys) (own_others es) ∙ append-nil (own xs)

  pub own_last : (xs : List (Noted A B)) (e : Entry A B) → own (xs ++ noted true e ∷ []) ≡ own xs ++ e ∷ []
  own_last xs e = own_append xs (noted true e ∷ [])

  pub own_count : (xs : List (Noted A B)) (e : Entry A B) → length (own (xs ++ noted true e ∷ [])) ≡ length (own xs) + 1
  own_count xs e = ap length (own_last xs e) ∙ length-append (own xs) (e ∷ [])

  pub owns_others : (p : ℕ) (es : List (Entry A B)) → owns_at p (others es) ≡ 0
  owns_others p [] = refl
  owns_others zero (e ∷ es) = refl
  owns_others (suc p) (e ∷ es) = owns_others p es

  pub owns_more : (p : ℕ) (xs : List (Noted A B)) (es : List (Entry A B)) → owns_at p (xs ++ others es) ≡ owns_at p xs
  owns_more p [] es = owns_others p es
  owns_more zero (x ∷ xs) es = refl
  owns_more (suc p) (x ∷ xs) es = owns_more p xs es

  -- a turn of its own is added at the end
  pub owns_last : (p : ℕ) (xs : List (Noted A B)) (e : Entry A B)
      → owns_at p (xs ++ noted true e ∷ []) ≡ owns_at p xs + one_if p (Some (length xs))
  owns_last zero [] e = refl
  owns_last (suc p) [] e = grind (arith, nat_tests)
  owns_last zero (x ∷ xs) e = grind (arith, nat_tests)
  owns_last (suc p) (x ∷ xs) e = let h = owns_last p xs e in grind (arith, nat_tests)

  pub owns_beyond : (p : ℕ) (xs : List (Noted A B)) → length xs ≤ p → owns_at p xs ≡ 0
  owns_beyond p [] le = refl
  owns_beyond zero (x ∷ xs) le = absurd (omega arith)
  owns_beyond (suc p) (x ∷ xs) le = owns_beyond p xs (omega arith)

  pub owns_none : (p : ℕ) (xs : List (Noted A B)) → length (own xs) ≡ 0 → owns_at p xs ≡ 0
  owns_none p [] e = refl
  owns_none zero (x ∷ xs) e = (none_kept x.mine x.entry (own xs) (ap length (sym (own_cons x xs)) ∙ e)).0
  owns_none (suc p) (x ∷ xs) e =
      owns_none p xs (none_kept x.mine x.entry (own xs) (ap length (sym (own_cons x xs)) ∙ e)).1

  -- where each turn is its own, its own turns are all
  pub all_own : (xs : List (Noted A B)) → ((p : ℕ) → p < length xs → owns_at p xs ≡ 1) → own xs ≡ entries xs
  all_own [] each = refl
  all_own (x ∷ xs) each =
      own_cons x xs
      ∙ ap (λ (b : Bool). kept_if b x.entry (own xs)) (counted_one x.mine (each 0 (omega arith)))
      ∙ ap (λ (es : List (Entry A B)). x.entry ∷ es) (all_own xs (λ p below. each (suc p) (omega arith)))

  -- blank turns are in no history
  pub served_most : (es : List (Entry A B)) → length (served es) ≤ length es
  served_most [] = omega arith
  served_most (Served a b ∷ es) = let h = served_most es in omega arith
  served_most (Blank ∷ es) = let h = served_most es in omega arith
