-- The hypotheses of a case.
use Rattle.std.proofs.Common.{◌≡◌, ◌⊎◌, inl, inr, ℕ, zero, suc, ◌+◌, ◌<◌, ◌≤◌, Bool, true, false, cond, not, List, [], ◌∷◌, ◌++◌, map, refl, sym, ap, subst, ◌∙◌, arith}
use Rattle.std.specs.Prelude.{Option, is_some}
use Rattle.std.specs.List.{list_any, AllByRecursion, flat_map, filter}
use Rattle.std.proofs.lemmas.Bool.{cases_eq, cases_Bool, and_from, or_left}
use Rattle.ground_clauses.proofs.Lists.{each_filter, each_flat_map, each_itself, each_map, each_weaker}
use Rattle.ground_clauses.proofs.Numbers.{same_atom_itself}
use Rattle.ground_clauses.specs.Cases.{assignments, clause_hypotheses, equalities_true, hypotheses, is_relevant, over, touches, upto_from}
use Rattle.ground_clauses.specs.Query.{Hypothesis, instance_atoms, same_atom}
use Rattle.spec_model.specs.Truths.{Within, var_sorts}
use Rattle.spec_model.specs.declared.instance.Atom.{Atom as ClassAtom}
use Rattle.spec_model.specs.declared.spec.Spec.{Spec}

-- ---- membership by recursion
abbrev pub Among : {X : Type 0} → X → List X → Type 0
Among x [] = ⊥
Among x (y ∷ ys) = (x ≡ y) ⊎ Among x ys

pub among_append_left : {X : Type 0} (x : X) (xs ys : List X) → Among x xs → Among x (xs ++ ys)
among_append_left x [] ys h = absurd h
among_append_left x (y ∷ xs) ys (inl here) = inl here
among_append_left x (y ∷ xs) ys (inr there) = inr (among_append_left x xs ys there)

pub among_append_right : {X : Type 0} (x : X) (xs ys : List X) → Among x ys → Among x (xs ++ ys)
among_append_right x [] ys h = h
among_append_right x (y ∷ xs) ys h = inr (among_append_right x xs ys h)

pub among_flat_map : {X Y : Type 0} (f : X → List Y) (x : X) (y : Y) (xs : List X) → Among x xs → Among y (f x) → Among y (flat_map f xs)
among_flat_map f x y [] h g = absurd h
among_flat_map f x y (z ∷ xs) (inl here) g = among_append_left y (f z) (flat_map f xs) (subst (λ w. Among y (f w)) here g)
among_flat_map f x y (z ∷ xs) (inr there) g = among_append_right y (f z) (flat_map f xs) (among_flat_map f x y xs there g)

pub among_map : {X Y : Type 0} (f : X → Y) (x : X) (xs : List X) → Among x xs → Among (f x) (map f xs)
among_map f x [] h = absurd h
among_map f x (y ∷ xs) (inl here) = inl (ap f here)
among_map f x (y ∷ xs) (inr there) = inr (among_map f x xs there)

pub among_filter : {X : Type 0} (t : X → Bool) (x : X) (xs : List X) → t x ≡ true → Among x xs → Among x (filter t xs)
among_filter t x [] p h = absurd h
among_filter t x (y ∷ xs) p (inl here) = subst (λ b. Among x (cond b (y ∷ filter t xs) (filter t xs))) (sym (ap t (sym here) ∙ p)) (inl here)
among_filter t x (y ∷ xs) p (inr there) = elim (cases_Bool (t y)) [
  | inl y_is ↦ subst (λ b. Among x (cond b (y ∷ filter t xs) (filter t xs))) (sym y_is) (inr (among_filter t x xs p there))
  | inr y_not ↦ subst (λ b. Among x (cond b (y ∷ filter t xs) (filter t xs))) (sym y_not) (among_filter t x xs p there)
]

pub among_each : {X : Type 0} (P : X → Type 0) (x : X) (xs : List X) → AllByRecursion P xs → Among x xs → P x
among_each P x [] h a = absurd a
among_each P x (y ∷ xs) h (inl here) = subst P (sym here) h.0
among_each P x (y ∷ xs) h (inr there) = among_each P x xs h.1 there

pub each_among : {X : Type 0} (all xs : List X) → ((x : X) → Among x xs → Among x all) → AllByRecursion (λ x. Among x all) xs
each_among all [] f = tt
each_among all (x ∷ xs) f = (f x (inl refl), each_among all xs (λ y h. f y (inr h)))

-- ---- assignments

pub each_upto : (k n : ℕ) → AllByRecursion (λ c. c < k + n) (upto_from k n)
each_upto k zero = tt
each_upto k (suc n) = (omega arith, each_weaker (λ c. c < suc k + n) (λ c. c < k + suc n) (upto_from (suc k) n) (λ c h. omega arith) (each_upto (suc k) n))

pub among_upto : (c k n : ℕ) → k ≤ c → c < k + n → Among c (upto_from k n)
among_upto c k zero le lt = absurd (omega arith)
among_upto c k (suc n) le lt = elim (cases_eq c k) [
  | inl is ↦ inl is
  | inr other ↦ inr (among_upto c (suc k) n (omega arith) (omega arith))
]

pub assignments_within : (count : ℕ → ℕ) (sorts : List ℕ) → AllByRecursion (Within count sorts) (assignments count sorts)
assignments_within count [] = (tt, tt)
assignments_within count (s ∷ sorts) =
    each_flat_map (Within count (s ∷ sorts)) (λ c. map (λ cs. c ∷ cs) (assignments count sorts)) (upto_from 0 (count s))
    (each_weaker (λ c. c < 0 + count s) (λ c. AllByRecursion (Within count (s ∷ sorts)) (map (λ cs. c ∷ cs) (assignments count sorts))) (upto_from 0 (count s))
    (λ c lt. each_map (Within count (s ∷ sorts)) (λ cs. c ∷ cs) (assignments count sorts)
    (each_weaker (Within count sorts) (λ cs. Within count (s ∷ sorts) (c ∷ cs)) (assignments count sorts) (λ cs w. (omega arith, w)) (assignments_within count sorts)))
    (each_upto 0 (count s)))

pub among_assignments : (count : ℕ → ℕ) (sorts cs : List ℕ) → Within count sorts cs → Among cs (assignments count sorts)
among_assignments count [] [] w = inl refl
among_assignments count [] (c ∷ cs) w = absurd w
among_assignments count (s ∷ sorts) [] w = absurd w
among_assignments count (s ∷ sorts) (c ∷ cs) w =
    among_flat_map (λ d. map (λ ds. d ∷ ds) (assignments count sorts)) c (c ∷ cs) (upto_from 0 (count s)) (among_upto c 0 (count s) (omega arith) (omega (arith, w.0)))
    (among_map (λ ds. c ∷ ds) cs (assignments count sorts) (among_assignments count sorts cs w.1))

-- ---- hypotheses

pub record IsInstance (spec : Spec) (count : ℕ → ℕ) (h : Hypothesis) : Type 0 where
  pub clause_is : Among h.clause spec.clauses
  pub within : Within count (var_sorts h.clause) h.classes

pub each_hypothesis : (spec : Spec) (count : ℕ → ℕ) (t : Hypothesis) → AllByRecursion (IsInstance spec count) (hypotheses spec count t)
each_hypothesis spec count t =
    each_flat_map (IsInstance spec count) (clause_hypotheses count t) spec.clauses
    (each_weaker (λ c. Among c spec.clauses) (λ c. AllByRecursion (IsInstance spec count) (clause_hypotheses count t c)) spec.clauses
    (λ c is. each_filter (IsInstance spec count) (is_relevant t) (map (over c) (assignments count (var_sorts c)))
    (each_map (IsInstance spec count) (over c) (assignments count (var_sorts c))
    (each_weaker (Within count (var_sorts c)) (λ cs. IsInstance spec count (over c cs)) (assignments count (var_sorts c)) (λ cs w. record { clause_is = is; within = w }) (assignments_within count (var_sorts c)))))
    (each_among spec.clauses spec.clauses (λ x h. h)))

touched_any : (sets : ℕ → List ℕ → Option Bool) (all xs : List ClassAtom) → AllByRecursion (λ a. list_any (same_atom a) all ≡ true) xs → list_any (λ a. is_some (sets a.pred a.args)) xs ≡ true → list_any (λ a. list_any (same_atom a) all) xs ≡ true
touched_any sets all [] h t = t
touched_any sets all (x ∷ xs) h t = or_left (list_any (same_atom x) all) (list_any (λ a. list_any (same_atom a) all) xs) h.0

pub target_among : (spec : Spec) (count : ℕ → ℕ) (t : Hypothesis) (sets : ℕ → List ℕ → Option Bool) → Among t.clause spec.clauses → Within count (var_sorts t.clause) t.classes
    → touches sets t ≡ true → equalities_true t ≡ false → Among t (hypotheses spec count t)
target_among spec count t sets is w touched unequal =
    among_flat_map (clause_hypotheses count t) t.clause t spec.clauses is
    (among_filter (is_relevant t) t (map (over t.clause) (assignments count (var_sorts t.clause)))
    (and_from (list_any (λ a. list_any (same_atom a) (instance_atoms t)) (instance_atoms t)) (not (equalities_true t))
    (touched_any sets (instance_atoms t) (instance_atoms t) (each_itself same_atom (instance_atoms t) same_atom_itself) touched)
    (ap not unequal))
    (among_map (over t.clause) t.classes (assignments count (var_sorts t.clause)) (among_assignments count (var_sorts t.clause) t.classes w)))
