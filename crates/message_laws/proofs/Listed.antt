-- What holds of each element of lists that are made of others, and what stands in them.
use Rattle.std.proofs.Common.{◌≡◌, zero, suc, Bool, true, List, [], ◌∷◌, map, filter, refl, sym, ap, subst, ◌∙◌}
use Rattle.std.specs.Prelude.{Some, Contains}
use Rattle.std.specs.List.{AllByRecursion, flat_map}
use Rattle.std.proofs.lemmas.Option.{same_Some, slice_get-get_or, slice_get_within, get_or_from_slice_get}
use Rattle.std.proofs.lemmas.Bool.{cond-true, cond_both}
use Rattle.run_model.proofs.Lists.{each_append}
use Rattle.run_model.proofs.Members.{In, in_cons}

-- ---- of each element

-- what holds of what stands in a list
pub each_in : {X : Type 0} (P : X → Type 0) (xs : List X) → ((x : X) → In xs x → P x) → AllByRecursion P xs
each_in P [] h = tt
each_in P (x ∷ xs) h = (h x (0, refl), each_in P xs (λ y there. h y (in_cons x xs y there)))

-- of each that a list is mapped to
pub each_map : {X Y : Type 0} (P : Y → Type 0) (f : X → Y) (xs : List X) → ((x : X) → In xs x → P (f x)) → AllByRecursion P (map f xs)
each_map P f [] h = tt
each_map P f (x ∷ xs) h = (h x (0, refl), each_map P f xs (λ y there. h y (in_cons x xs y there)))

-- of each of the lists joined
pub each_flat_map : {X Y : Type 0} (P : Y → Type 0) (f : X → List Y) (xs : List X) → ((x : X) → In xs x → AllByRecursion P (f x)) → AllByRecursion P (flat_map f xs)
each_flat_map P f [] h = tt
each_flat_map P f (x ∷ xs) h = each_append P (f x) (flat_map f xs) (h x (0, refl)) (each_flat_map P f xs (λ y there. h y (in_cons x xs y there)))

-- ---- what stands in a list

-- what passes the test is kept
pub in_filter : {X : Type 0} (p : X → Bool) (xs : List X) (x : X) → In xs x → p x ≡ true → In (filter p xs) x
in_filter p [] x h passes = absurd cc
in_filter {X} p (y ∷ xs) x (zero, is) passes =
    let first : p y ≡ true = ap p (same_Some y x is) ∙ passes in
    subst (λ (zs : List X). In zs x) (sym (cond-true (p y) (y ∷ filter p xs) (filter p xs) first)) (0, is)
in_filter {X} p (y ∷ xs) x (suc k, is) passes =
    let later = in_filter p xs x (k, is) passes in
    cond_both (p y) (y ∷ filter p xs) (filter p xs) (λ (zs : List X). In zs x) (λ passed. in_cons y (filter p xs) x later) (λ failed. later)

-- it is contained
pub contains_in : {X : Type 0} (xs : List X) (x : X) → In xs x → Contains xs x
contains_in xs x h = (h.0, slice_get_within xs h.0 x h.1, get_or_from_slice_get xs h.0 x x h.1)

-- and what is contained stands there
pub in_contained : {X : Type 0} (xs : List X) (x : X) → Contains xs x → In xs x
in_contained {X} xs x h = (h.0, slice_get-get_or xs h.0 x h.1 ∙ ap (λ (y : X). Some y) h.2)
