-- What was found of a case, by all truths of its variables.
use Rattle.std.proofs.Common.{◌≡◌, inl, inr, suc, Bool, true, false, ◌||◌, List, [], ◌∷◌, ◌++◌, map, length, ◌≤◌, refl, sym, ap, subst, ◌∙◌}
use Rattle.std.specs.Prelude.{Some}
use Rattle.std.specs.List.{list_any, list_all, AllByRecursion}
use Rattle.std.proofs.lemmas.Bool.{and_from, and_parts, cases_Bool, or_left, or_right}
use Rattle.certificate_check.specs.Checks.{target_refuted}
use Rattle.clause_solver.specs.Models.{IsModel, truth_in}
use Rattle.conflict_pairs.specs.Decisions.{IsFound}
use Rattle.conflict_pairs.specs.declared.decided.Decided.{Decided}
use Rattle.conflict_pairs.specs.declared.decided.Decided.TheVariants.{Model, Refuted}
use Rattle.ground_clauses.proofs.Derives.{no_model}
use Rattle.ground_clauses.proofs.Hypotheses.{Among, among_append_left, among_append_right, among_map}
use Rattle.ground_clauses.specs.Cases.{bit_lists, clause_cnf, target_cnf}
use Rattle.ground_clauses.specs.Derivations.{lit_true, refutes}
use Rattle.ground_clauses.specs.declared.case.Case.{Case}
use Rattle.ground_clauses.specs.declared.case.Target.{Target}
use Rattle.ground_clauses.specs.declared.case.Target.TheVariants.{Clause as of_clause, Locked as of_pred}
use Rattle.ground_clauses.specs.declared.clauses.Cnf.{Cnf}
use Rattle.ground_clauses.specs.declared.clauses.Derivation.{Derivation}
use Rattle.ground_clauses.specs.declared.clauses.Step.{Step}
use Rattle.reservation_plan.specs.Conflicts.{conflicts_at, has_model, is_conflicting, is_solution}
use Rattle.reservation_plan.specs.Ends.{ModelAt}
use Rattle.reservation_plan.specs.Judging.{IsRefuted}
use Rattle.spec_model.specs.declared.spec.Spec.{Spec}

pub any_among : {X : Type 0} (p : X → Bool) (x : X) (xs : List X) → p x ≡ true → Among x xs → list_any p xs ≡ true
any_among p x [] h is = absurd is
any_among p x (y ∷ xs) h (inl here) = or_left (p y) (list_any p xs) (ap p (sym here) ∙ h)
any_among p x (y ∷ xs) h (inr there) = or_right (p y) (list_any p xs) (any_among p x xs h there)

-- every list of truths is among all of its length
among_bits : (m : List Bool) → Among m (bit_lists (length m))
among_bits [] = inl refl
among_bits (b ∷ m) = by_bit b (among_bits m)
  where
    by_bit : (b : Bool) → Among m (bit_lists (length m)) → Among (b ∷ m) (bit_lists (suc (length m)))
    by_bit false h = among_append_left (false ∷ m) (map (λ bs. false ∷ bs) (bit_lists (length m))) (map (λ bs. true ∷ bs) (bit_lists (length m)) ++ []) (among_map (λ bs. false ∷ bs) m (bit_lists (length m)) h)
    by_bit true h =
        among_append_right (true ∷ m) (map (λ bs. false ∷ bs) (bit_lists (length m))) (map (λ bs. true ∷ bs) (bit_lists (length m)) ++ [])
        (among_append_left (true ∷ m) (map (λ bs. true ∷ bs) (bit_lists (length m))) [] (among_map (λ bs. true ∷ bs) m (bit_lists (length m)) h))

all_each : {X : Type 0} (p : X → Bool) (xs : List X) → AllByRecursion (λ x. p x ≡ true) xs → list_all p xs ≡ true
all_each p [] h = refl
all_each p (x ∷ xs) h = and_from (p x) (list_all p xs) h.0 (all_each p xs h.1)

pub each_all : {X : Type 0} (p : X → Bool) (xs : List X) → list_all p xs ≡ true → AllByRecursion (λ x. p x ≡ true) xs
each_all p [] h = tt
each_all p (x ∷ xs) h = let k = and_parts (p x) (list_all p xs) h in (k.0, each_all p xs k.1)

pub model_tells : (cnf : Cnf) (m : List Bool) → IsModel cnf m → has_model cnf ≡ true
model_tells cnf m h =
    any_among (is_solution cnf.clauses) m (bit_lists cnf.vars) (all_each (list_any (lit_true (truth_in m))) cnf.clauses h.solves) (subst (λ n. Among m (bit_lists n)) h.size (among_bits m))

none_passes : {X : Type 0} (p : X → Bool) (xs : List X) → ((x : X) → p x ≡ true → ⊥) → list_any p xs ≡ false
none_passes p [] f = refl
none_passes p (x ∷ xs) f = elim (cases_Bool (p x)) [
  | inl yes' ↦ absurd (f x yes')
  | inr no' ↦ ap (λ b. b || list_any p xs) no' ∙ none_passes p xs f
]

pub refuted_tells : (cnf : Cnf) (steps : List Step) → refutes cnf.clauses steps ≡ true → has_model cnf ≡ false
refuted_tells cnf steps right =
    none_passes (is_solution cnf.clauses) (bit_lists cnf.vars) (λ m is. no_model cnf.clauses steps right (truth_in m) (each_all (list_any (lit_true (truth_in m))) cnf.clauses is))

pub found_model : (spec : Spec) (k : Case) (t : Target) (f : Decided) (m : List Bool) → f ≡ Model m → IsFound (target_cnf spec k t) t f → (conflicts_at spec k t ≡ true) × ModelAt spec k t (Some m)
found_model spec k t f m is found = by_target t (subst (IsFound (target_cnf spec k t) t) is found)
  where
    by_target : (t : Target) → IsFound (target_cnf spec k t) t (Model m) → (conflicts_at spec k t ≡ true) × ModelAt spec k t (Some m)
    by_target (of_clause t) found = (model_tells (clause_cnf spec k t) m found.model, found)
    by_target (of_pred p) found = absurd found

pub found_refuted : (spec : Spec) (k : Case) (f : Decided) (d : Derivation) → f ≡ Refuted d → length d.steps ≤ 4294967294 → IsFound (target_cnf spec k k.target) k.target f → (is_conflicting spec k ≡ false) × IsRefuted spec k d
found_refuted spec k f d is few found =
    let r : (conflicts_at spec k k.target ≡ false) × (target_refuted spec k k.target d.steps ≡ true) = by_target k.target (subst (IsFound (target_cnf spec k k.target) k.target) is found) in
    (r.0, record { right = r.1; short = few })
  where
    by_target : (t : Target) → IsFound (target_cnf spec k t) t (Refuted d) → (conflicts_at spec k t ≡ false) × (target_refuted spec k t d.steps ≡ true)
    by_target (of_clause t) found = (refuted_tells (clause_cnf spec k t) d.steps found, found)
    by_target (of_pred p) found = absurd found
