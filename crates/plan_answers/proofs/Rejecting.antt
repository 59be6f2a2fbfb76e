-- A rejected case is one of the specification.
use Rattle.std.proofs.Common.{◌≡◌, ℕ, zero, suc, ◌+◌, ◌-◌, ◌<◌, ◌≤◌, Bool, true, false, cond, List, [], ◌∷◌, length, sym, subst, arith}
use Rattle.std.specs.Prelude.{Some, None, Option, flat_map}
use Rattle.std.specs.List.{AllByRecursion, find}
use Rattle.ground_clauses.specs.Cases.{pair_cases, touched_cases, upto_from}
use Rattle.ground_clauses.specs.Listing.{CaseFits}
use Rattle.ground_clauses.specs.declared.case.Case.{Case}
use Rattle.ground_clauses.proofs.Known.{pair_known}
use Rattle.ground_clauses.proofs.Lists.{each_flat_map, each_weaker}
use Rattle.reservation_plan.specs.Ends.{HasCause, ends}
use Rattle.reservation_plan.specs.declared.analysed.DeriveError.{DeriveError}
use Rattle.reservation_plan.specs.declared.analysed.DeriveError.TheVariants.{Rejected}
use Rattle.spec_model.specs.Fits.{IsWellFormed}
use Rattle.spec_model.specs.declared.spec.Spec.{Spec}

upto_below : (k n m : ℕ) → k + n ≤ m → AllByRecursion (λ i. i < m) (upto_from k n)
upto_below k zero m le = tt
upto_below k (suc n) m le = (omega (arith, le), upto_below (suc k) n m (omega (arith, le)))

row_known : (spec : Spec) (a : ℕ) → IsWellFormed spec → a < length spec.ops → AllByRecursion (CaseFits spec) (flat_map (pair_cases spec a) (upto_from a (length spec.ops - a)))
row_known spec a wf lt =
    let ops : ℕ = length spec.ops in
    each_flat_map (CaseFits spec) (pair_cases spec a) (upto_from a (ops - a))
    (each_weaker (λ b. b < ops) (λ b. AllByRecursion (CaseFits spec) (pair_cases spec a b)) (upto_from a (ops - a)) (λ b below. pair_known spec a b wf lt below) (upto_below a (ops - a) ops (omega (arith, lt))))

touched_known : (spec : Spec) → IsWellFormed spec → AllByRecursion (CaseFits spec) (touched_cases spec)
touched_known spec wf =
    let ops : ℕ = length spec.ops in
    let row : ℕ → List Case = λ a. flat_map (pair_cases spec a) (upto_from a (ops - a)) in
    each_flat_map (CaseFits spec) row (upto_from 0 ops)
    (each_weaker (λ a. a < ops) (λ a. AllByRecursion (CaseFits spec) (row a)) (upto_from 0 ops) (λ a below. row_known spec a wf below) (upto_below 0 ops ops (omega arith)))

found_fits : (P : Case → Type 0) (p : Case → Bool) (ks : List Case) (k : Case) → AllByRecursion P ks → find p ks ≡ Some k → P k
found_fits P p [] k all is = absurd cc
found_fits P p (x ∷ ks) k all is = by_test (p x) (λ found. found_fits P p ks k all.1 found) is
  where
    by_test : (b : Bool) → (find p ks ≡ Some k → P k) → cond b (Some x) (find p ks) ≡ Some k → P k
    by_test true behind found = let same : x ≡ k = cc in subst P same all.0
    by_test false behind found = behind found

pub rejected_fits : (spec : Spec) (k : Case) (m : Option (List Bool)) (e : DeriveError) → IsWellFormed spec → HasCause spec e → e ≡ Rejected k m → CaseFits spec k
rejected_fits spec k m e wf cause is =
    let h : HasCause spec (Rejected k m) = subst (HasCause spec) is cause in
    found_fits (CaseFits spec) (ends spec) (touched_cases spec) k (touched_known spec wf) h.1.first
