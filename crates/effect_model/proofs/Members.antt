-- What is a member of a list, by how the list was made.
use Rattle.std.proofs.Common.{◌≡◌, inl, inr, ℕ, zero, suc, Bool, true, false, List, [], ◌∷◌, ◌++◌, map, cond, refl, sym, ap, subst, arith, Some, ◌⊎◌}
use Rattle.std.specs.List.{flat_map, filter, slice_get, Contains}
use Rattle.std.proofs.lemmas.Option.{slice_get_within}
use Rattle.spec_model.specs.Universe.{tuples}
use Rattle.effect_model.specs.Tuples.{rank}
use Rattle.effect_model.proofs.Tuples.{Below, get-rank, got_tuple, length-tuples}
use Rattle.effect_model.proofs.Whole.{got, among}

abbrev pub Member : {X : Type 0} → List X → X → Type 0
Member [] x = ⊥
Member (y ∷ ys) x = (y ≡ x) ⊎ Member ys x

pub at_place : {X : Type 0} (xs : List X) (x : X) → Member xs x → (i : ℕ) × (slice_get xs i ≡ Some x)
at_place [] x m = absurd m
at_place (y ∷ ys) x (inl is) = (0, ap Some is)
at_place (y ∷ ys) x (inr later) = let t = at_place ys x later in (suc t.0, t.1)

pub member_at : {X : Type 0} (xs : List X) (i : ℕ) (x : X) → slice_get xs i ≡ Some x → Member xs x
member_at [] i x at = absurd cc
member_at (y ∷ ys) zero x at = inl cc
member_at (y ∷ ys) (suc i) x at = inr (member_at ys i x at)

pub contains : {X : Type 0} (xs : List X) (x : X) → Member xs x → Contains xs x
contains xs x m = let t = at_place xs x m in among xs t.0 x t.1

pub member : {X : Type 0} (xs : List X) (x : X) → Contains xs x → Member xs x
member xs x c = let t = got xs x c in member_at xs t.0 x t.1

-- of two lists joined
pub on_left : {X : Type 0} (a b : List X) (x : X) → Member a x → Member (a ++ b) x
on_left [] b x m = absurd m
on_left (y ∷ a) b x (inl is) = inl is
on_left (y ∷ a) b x (inr later) = inr (on_left a b x later)

pub on_right : {X : Type 0} (a b : List X) (x : X) → Member b x → Member (a ++ b) x
on_right [] b x m = m
on_right (y ∷ a) b x m = inr (on_right a b x m)

pub on_either : {X : Type 0} (a b : List X) (x : X) → Member (a ++ b) x → Member a x ⊎ Member b x
on_either [] b x m = inr m
on_either (y ∷ a) b x (inl is) = inl (inl is)
on_either (y ∷ a) b x (inr later) = elim (on_either a b x later) [
  | inl l ↦ inl (inr l)
  | inr r ↦ inr r
]

-- of what a function gives
pub mapped : {X Y : Type 0} (f : X → Y) (xs : List X) (x : X) → Member xs x → Member (map f xs) (f x)
mapped f [] x m = absurd m
mapped f (y ∷ ys) x (inl is) = inl (ap f is)
mapped f (y ∷ ys) x (inr later) = inr (mapped f ys x later)

pub from_map : {X Y : Type 0} (f : X → Y) (xs : List X) (y : Y) → Member (map f xs) y → (x : X) × Member xs x × (f x ≡ y)
from_map f [] y m = absurd m
from_map f (x ∷ xs) y (inl is) = (x, inl refl, is)
from_map f (x ∷ xs) y (inr later) = let t = from_map f xs y later in (t.0, inr t.1, t.2)

pub flat : {X Y : Type 0} (f : X → List Y) (xs : List X) (x : X) (y : Y) → Member xs x → Member (f x) y → Member (flat_map f xs) y
flat f [] x y m h = absurd m
flat f (z ∷ zs) x y (inl is) h = on_left (f z) (flat_map f zs) y (subst (λ w. Member (f w) y) (sym is) h)
flat f (z ∷ zs) x y (inr later) h = on_right (f z) (flat_map f zs) y (flat f zs x y later h)

pub from_flat : {X Y : Type 0} (f : X → List Y) (xs : List X) (y : Y) → Member (flat_map f xs) y → (x : X) × Member xs x × Member (f x) y
from_flat f [] y m = absurd m
from_flat f (x ∷ xs) y m = elim (on_either (f x) (flat_map f xs) y m) [
  | inl here ↦ (x, inl refl, here)
  | inr later ↦ let t = from_flat f xs y later in (t.0, inr t.1, t.2)
]

-- of what passes a test
pub kept : {X : Type 0} (p : X → Bool) (xs : List X) (x : X) → Member xs x → p x ≡ true → Member (filter p xs) x
kept p [] x m yes_is = absurd m
kept p (y ∷ ys) x m yes_is = by (λ later. kept p ys x later yes_is) m (p y) refl
  where
    by : (Member ys x → Member (filter p ys) x) → Member (y ∷ ys) x → (b : Bool) → p y ≡ b → Member (cond b (y ∷ filter p ys) (filter p ys)) x
    by rest (inl is) true test = inl is
    by rest (inl is) false test = let both : p x ≡ false = subst (λ z. p z ≡ false) is test in absurd cc
    by rest (inr later) true test = inr (rest later)
    by rest (inr later) false test = rest later

pub from_kept : {X : Type 0} (p : X → Bool) (xs : List X) (x : X) → Member (filter p xs) x → Member xs x × (p x ≡ true)
from_kept p [] x m = absurd m
from_kept p (y ∷ ys) x m = by (λ later. from_kept p ys x later) (p y) refl m
  where
    by : (Member (filter p ys) x → Member ys x × (p x ≡ true)) → (b : Bool) → p y ≡ b → Member (cond b (y ∷ filter p ys) (filter p ys)) x → Member (y ∷ ys) x × (p x ≡ true)
    by rest true test (inl is) = (inl is, subst (λ z. p z ≡ true) is test)
    by rest true test (inr later) = let t = rest later in (inr t.0, t.1)
    by rest false test later = let t = rest later in (inr t.0, t.1)

-- of the tuples below sizes
pub among_tuples : (sizes xs : List ℕ) → Below sizes xs → Member (tuples sizes) xs
among_tuples sizes xs w = member_at (tuples sizes) (rank sizes xs) xs (get-rank sizes xs w)

pub from_tuples : (sizes xs : List ℕ) → Member (tuples sizes) xs → Below sizes xs
from_tuples sizes xs m =
    let t = at_place (tuples sizes) xs m in
    let inside = slice_get_within (tuples sizes) t.0 xs t.1 in
    (got_tuple sizes xs t.0 (omega (arith, inside, length-tuples sizes)) t.1).within
