-- The verdict is Yes exactly where the certificate checks.
use Rattle.std.proofs.Common.{◌≡◌, ℕ, suc, Bool, true, false, ◌&&◌, cond, not, List, [], ◌∷◌, ◌++◌, refl, sym, ap, ◌∙◌}
use Rattle.std.specs.Prelude.{Some, None, Option}
use Rattle.std.specs.List.{AllZip}
use Rattle.std.proofs.lemmas.Bool.{true≢false}
use Rattle.certificate_check.specs.Checks.{Checks, first_wrong, flaw, is_lowest_lock, is_lowest_part, line_fits, target_flaw, target_refuted, verdict_at, verdict_from, verdict_of, wrong_step}
use Rattle.certificate_check.specs.Laws.{YesChecks}
use Rattle.certificate_check.specs.Separation.{is_separated}
use Rattle.certificate_check.specs.declared.certificate.CertLine.{CertLine}
use Rattle.certificate_check.specs.declared.certificate.CertLine.TheVariants.{Refuted, SepLock, SepPart}
use Rattle.certificate_check.specs.declared.certificate.Certificate.{Certificate}
use Rattle.certificate_check.specs.declared.verdict.Verdict.{Verdict}
use Rattle.certificate_check.specs.declared.verdict.Verdict.TheVariants.{Yes}
use Rattle.certificate_check.specs.declared.verdict.Why.{Why}
use Rattle.certificate_check.specs.declared.verdict.Why.TheVariants.{NotSeparated}
use Rattle.ground_clauses.specs.Cases.{query_of, touched_cases}
use Rattle.ground_clauses.specs.Derivations.{ends_empty, is_right, steps_right}
use Rattle.ground_clauses.specs.declared.case.Case.{Case}
use Rattle.ground_clauses.specs.declared.case.Target.{Target}
use Rattle.ground_clauses.specs.declared.case.Target.TheVariants.{Clause as of_clause, Locked as of_pred}
use Rattle.ground_clauses.specs.declared.clauses.Lit.{Lit}
use Rattle.ground_clauses.specs.declared.clauses.Step.{Step}
use Rattle.spec_model.specs.declared.plan.Plan.{Plan}
use Rattle.spec_model.specs.declared.spec.Spec.{Spec}

abbrev is_none : {X : Type 0} → Option X → Bool
is_none None = true
is_none (Some x) = false

none_if : (b : Bool) (why : Why) → is_none (cond b None (Some why)) ≡ b
none_if true why = refl
none_if false why = refl

wrong_none : (n : ℕ) (clauses : List (List Lit)) (steps : List Step) → is_none (first_wrong n clauses steps) ≡ steps_right clauses steps
wrong_none n clauses [] = refl
wrong_none n clauses (s ∷ steps) = by_step (is_right clauses s) (wrong_none (suc n) (clauses ++ s.lits ∷ []) steps)
  where
    by_step : (b : Bool) → is_none (first_wrong (suc n) (clauses ++ s.lits ∷ []) steps) ≡ steps_right (clauses ++ s.lits ∷ []) steps → is_none (cond b (first_wrong (suc n) (clauses ++ s.lits ∷ []) steps) (Some n)) ≡ (b && steps_right (clauses ++ s.lits ∷ []) steps)
    by_step true rest = rest
    by_step false rest = refl

step_none : (empty : Bool) (o : Option ℕ) → is_none (wrong_step empty o) ≡ (is_none o && empty)
step_none true None = refl
step_none false None = refl
step_none empty (Some n) = refl

target_none : (spec : Spec) (k : Case) (t : Target) (steps : List Step) → is_none (target_flaw spec k t steps) ≡ target_refuted spec k t steps
target_none spec k (of_clause t) steps = step_none (ends_empty steps) (first_wrong 0 (query_of spec k t) steps) ∙ ap (λ b. b && ends_empty steps) (wrong_none 0 (query_of spec k t) steps)
target_none spec k (of_pred p) steps = refl

pub flaw_none : (spec : Spec) (plan : Plan) (k : Case) (l : CertLine) → is_none (flaw spec plan k l) ≡ line_fits spec plan k l
flaw_none spec plan k (SepLock i) = none_if (is_lowest_lock spec plan k i) NotSeparated
flaw_none spec plan k (SepPart i) = none_if (is_lowest_part spec plan k i) NotSeparated
flaw_none spec plan k (Refuted d) = by_plan (is_separated spec plan k)
  where
    by_plan : (b : Bool) → is_none (cond b (Some NotSeparated) (target_flaw spec k k.target d.steps)) ≡ (not b && target_refuted spec k k.target d.steps)
    by_plan true = refl
    by_plan false = target_none spec k k.target d.steps

verdict_yes : (n : ℕ) (v : Verdict) (o : Option Why) → verdict_at n v o ≡ Yes → (is_none o ≡ true) × (v ≡ Yes)
verdict_yes n v None h = (refl, h)
verdict_yes n v (Some why) h = cc

yes_verdict : (n : ℕ) (v : Verdict) (o : Option Why) → is_none o ≡ true → v ≡ Yes → verdict_at n v o ≡ Yes
yes_verdict n v None h is = is
yes_verdict n v (Some why) h is = absurd (true≢false (sym h))

yes_to : (spec : Spec) (plan : Plan) (n : ℕ) (ks : List Case) (ls : List CertLine) → verdict_from spec plan n ks ls ≡ Yes → AllZip (λ k l. line_fits spec plan k l ≡ true) ks ls
yes_to spec plan n [] [] h = tt
yes_to spec plan n [] (l ∷ ls) h = cc
yes_to spec plan n (k ∷ ks) [] h = cc
yes_to spec plan n (k ∷ ks) (l ∷ ls) h =
    let p = verdict_yes n (verdict_from spec plan (suc n) ks ls) (flaw spec plan k l) h in
    (sym (flaw_none spec plan k l) ∙ p.0, yes_to spec plan (suc n) ks ls p.1)

yes_from : (spec : Spec) (plan : Plan) (n : ℕ) (ks : List Case) (ls : List CertLine) → AllZip (λ k l. line_fits spec plan k l ≡ true) ks ls → verdict_from spec plan n ks ls ≡ Yes
yes_from spec plan n [] [] h = refl
yes_from spec plan n [] (l ∷ ls) h = absurd h
yes_from spec plan n (k ∷ ks) [] h = absurd h
yes_from spec plan n (k ∷ ks) (l ∷ ls) h = yes_verdict n (verdict_from spec plan (suc n) ks ls) (flaw spec plan k l) (flaw_none spec plan k l ∙ h.0) (yes_from spec plan (suc n) ks ls h.1)

pub yes_checks : YesChecks
yes_checks spec plan certificate = (yes_to spec plan 0 (touched_cases spec) certificate.lines, yes_from spec plan 0 (touched_cases spec) certificate.lines)

pub yes_from_verdict : (spec : Spec) (plan : Plan) (certificate : Certificate) → verdict_of spec plan certificate ≡ Yes → Checks spec plan certificate
yes_from_verdict spec plan certificate = (yes_checks spec plan certificate).0

pub verdict_from_yes : (spec : Spec) (plan : Plan) (certificate : Certificate) → Checks spec plan certificate → verdict_of spec plan certificate ≡ Yes
verdict_from_yes spec plan certificate = (yes_checks spec plan certificate).1
