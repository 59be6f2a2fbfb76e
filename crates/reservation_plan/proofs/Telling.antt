-- To try all truths tells the conflicting cases.
use Rattle.std.proofs.Common.{◌≡◌, ◌⊎◌, inl, inr, ℕ, zero, suc, ◌+◌, ◌<◌, Bool, true, false, List, [], ◌∷◌, map, get_or, sym, ap, ◌∙◌, arith}
use Rattle.std.specs.Prelude.{◌↔◌}
use Rattle.std.specs.List.{list_any, AllByRecursion}
use mathlib.Core.Bool.{beq}
use Rattle.std.proofs.lemmas.Bool.{or_cases, true≢false}
use Rattle.std.proofs.lemmas.List.{length-map}
use Rattle.clause_solver.specs.Models.{truth_in}
use Rattle.ground_clauses.proofs.Lists.{any_same, each_weaker}
use Rattle.ground_clauses.proofs.Speaking.{query_speaks}
use Rattle.ground_clauses.specs.Cases.{bit_lists, clause_cnf, target_cnf, upto_from}
use Rattle.ground_clauses.specs.Conflicting.{ClauseViolated, LockOpposed}
use Rattle.ground_clauses.specs.Derivations.{Solves, SpeaksOf, lit_true}
use Rattle.ground_clauses.specs.declared.case.Target.{Target}
use Rattle.ground_clauses.specs.declared.case.Target.TheVariants.{Clause as of_clause, Locked as of_pred}
use Rattle.ground_clauses.specs.declared.clauses.Cnf.{Cnf}
use Rattle.ground_clauses.specs.declared.clauses.Lit.{Lit}
use Rattle.reservation_plan.proofs.Conflicting.{each_all, model_tells}
use Rattle.reservation_plan.proofs.Paired.{length-upto}
use Rattle.reservation_plan.specs.Conflicts.{conflicts_at, has_model, is_solution}
use Rattle.reservation_plan.specs.Laws.{TellsConflicts}

-- an element that passes
pub some_passes : {X : Type 0} (p : X → Bool) (xs : List X) → list_any p xs ≡ true → (x : X) × (p x ≡ true)
some_passes p [] h = absurd (true≢false (sym h))
some_passes p (x ∷ xs) h = elim (or_cases (p x) (list_any p xs) h) [
  | inl here ↦ (x, here)
  | inr there ↦ some_passes p xs there
]

-- the values of the first variables
abbrev values_upto : (ℕ → Bool) → ℕ → List Bool
values_upto v n = map v (upto_from 0 n)

value_kept : (v : ℕ → Bool) (k n i : ℕ) → i < n → get_or (map v (upto_from k n)) i false ≡ v (k + i)
value_kept v k zero i lt = absurd (omega (arith, lt))
value_kept v k (suc n) zero lt = ap v (let z : k ≡ k + 0 = omega arith in z)
value_kept v k (suc n) (suc i) lt = value_kept v (suc k) n i (omega (arith, lt)) ∙ ap v (let z : suc k + i ≡ k + suc i = omega arith in z)

clause_kept : (v : ℕ → Bool) (n : ℕ) (c : List Lit) → AllByRecursion (λ (x : Lit). x.var < n) c → list_any (lit_true v) c ≡ true → list_any (lit_true (truth_in (values_upto v n))) c ≡ true
clause_kept v n c speaks h =
    sym (any_same (lit_true v) (lit_true (truth_in (values_upto v n))) c
    (each_weaker (λ (x : Lit). x.var < n) (λ (x : Lit). lit_true v x ≡ lit_true (truth_in (values_upto v n)) x) c
    (λ (x : Lit) lt. ap (λ b. beq b x.yes) (ap v (let z : x.var ≡ 0 + x.var = omega arith in z) ∙ sym (value_kept v 0 n x.var lt))) speaks))
    ∙ h

solves_kept : (v : ℕ → Bool) (n : ℕ) (cs : List (List Lit)) → SpeaksOf n cs → Solves v cs → Solves (truth_in (values_upto v n)) cs
solves_kept v n [] speaks h = tt
solves_kept v n (c ∷ cs) speaks h = (clause_kept v n c speaks.0 h.0, solves_kept v n cs speaks.1 h.1)

values_tell : (cnf : Cnf) (v : ℕ → Bool) → SpeaksOf cnf.vars cnf.clauses → Solves v cnf.clauses → has_model cnf ≡ true
values_tell cnf v speaks h =
    model_tells cnf (values_upto v cnf.vars)
    (record { size = length-map (upto_from 0 cnf.vars) v ∙ length-upto 0 cnf.vars; solves = solves_kept v cnf.vars cnf.clauses speaks h })

pub tells_conflicts : TellsConflicts
tells_conflicts spec k touched = by_target k.target (query_speaks spec k touched.fits touched.touched)
  where
    by_target : (t : Target) → SpeaksOf (target_cnf spec k t).vars (target_cnf spec k t).clauses → (conflicts_at spec k t ≡ true) ↔ (ClauseViolated spec k t ⊎ LockOpposed spec k t)
    by_target (of_clause t) speaks = (
      λ h. let m = some_passes (is_solution (clause_cnf spec k t).clauses) (bit_lists (clause_cnf spec k t).vars) h in
          inl (truth_in m.0, each_all (list_any (lit_true (truth_in m.0))) (clause_cnf spec k t).clauses m.1),
      λ c. elim c [
        | inl model ↦ values_tell (clause_cnf spec k t) model.0 speaks model.1
        | inr none ↦ absurd none
      ],
    )
    by_target (of_pred p) speaks = (
      λ h. inr h,
      λ c. elim c [
        | inl none ↦ absurd none
        | inr opposed ↦ opposed
      ],
    )
