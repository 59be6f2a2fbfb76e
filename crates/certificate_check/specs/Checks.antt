-- When a certificate checks, and else its first failing case.
use Rattle.std.specs.Prelude.{◌≡◌, ◌≤◌, ℕ, suc, Bool, true, false, ◌&&◌, not, if◌then◌else◌, eqb, is_some, length, List, [], ◌∷◌, ◌++◌, Some, None, Option}
use Rattle.std.specs.List.{AllByRecursion, AllZip}
use Rattle.certificate_check.specs.Separation.{is_separated, lock_fits, lowest, part_fits}
use Rattle.certificate_check.specs.declared.certificate.CertLine.{CertLine}
use Rattle.certificate_check.specs.declared.certificate.CertLine.TheVariants.{Refuted, SepLock, SepPart}
use Rattle.certificate_check.specs.declared.certificate.Certificate.{Certificate}
use Rattle.certificate_check.specs.declared.verdict.Verdict.{Verdict}
use Rattle.certificate_check.specs.declared.verdict.Verdict.TheVariants.{No, Yes}
use Rattle.certificate_check.specs.declared.verdict.Why.{Why}
use Rattle.certificate_check.specs.declared.verdict.Why.TheVariants.{BadStep, Extra, Missing, NotEmpty, NotSeparated}
use Rattle.ground_clauses.specs.Cases.{query_of, touched_cases}
use Rattle.ground_clauses.specs.Derivations.{ends_empty, is_right, refutes}
use Rattle.ground_clauses.specs.declared.case.Case.{Case}
use Rattle.ground_clauses.specs.declared.case.Target.{Target}
use Rattle.ground_clauses.specs.declared.case.Target.TheVariants.{Clause as of_clause, Locked as of_pred}
use Rattle.ground_clauses.specs.declared.clauses.Lit.{Lit}
use Rattle.ground_clauses.specs.declared.clauses.Step.{Step}
use Rattle.spec_model.specs.declared.plan.Plan.{Plan}
use Rattle.spec_model.specs.declared.spec.Spec.{Spec}

-- ---- the one form of a case

-- it stands at this place
abbrev pub is_at : Option ℕ → ℕ → Bool
is_at None i = false
is_at (Some n) i = eqb n i

abbrev pub lock_of : Spec → Plan → Case → Option ℕ
lock_of spec plan k = lowest (lock_fits spec k) plan.locks

abbrev pub part_of : Spec → Plan → Case → Option ℕ
part_of spec plan k = lowest (part_fits spec k) plan.parts

-- this is the lowest lock that separates the case
abbrev pub is_lowest_lock : Spec → Plan → Case → ℕ → Bool
is_lowest_lock spec plan k i = is_at (lock_of spec plan k) i

-- no lock does, and this is the lowest partition that does
abbrev pub is_lowest_part : Spec → Plan → Case → ℕ → Bool
is_lowest_part spec plan k i = not (is_some (lock_of spec plan k)) && is_at (part_of spec plan k) i

abbrev pub target_refuted : Spec → Case → Target → List Step → Bool
target_refuted spec k (of_clause t) steps = refutes (query_of spec k t) steps
target_refuted spec k (of_pred p) steps = false

-- the lowest lock that separates the case, else the lowest partition that does, else, for a clause, a derivation
abbrev pub line_fits : Spec → Plan → Case → CertLine → Bool
line_fits spec plan k (SepLock i) = is_lowest_lock spec plan k i
line_fits spec plan k (SepPart i) = is_lowest_part spec plan k i
line_fits spec plan k (Refuted d) = not (is_separated spec plan k) && target_refuted spec k k.target d.steps

-- one line for each touched case in canonical order, each of the one form
abbrev pub Checks : Spec → Plan → Certificate → Type 0
Checks spec plan certificate = AllZip (λ k l. line_fits spec plan k l ≡ true) (touched_cases spec) certificate.lines

-- ---- the first failing case

-- the place of the first step that isn't right, counted from n
abbrev pub first_wrong : ℕ → List (List Lit) → List Step → Option ℕ
first_wrong n clauses [] = None
first_wrong n clauses (s ∷ steps) = if is_right clauses s then first_wrong (suc n) (clauses ++ s.lits ∷ []) steps else Some n

abbrev pub wrong_step : Bool → Option ℕ → Option Why
wrong_step empty (Some n) = Some (BadStep n)
wrong_step empty None = if empty then None else Some NotEmpty

abbrev pub derivation_flaw : List (List Lit) → List Step → Option Why
derivation_flaw clauses steps = wrong_step (ends_empty steps) (first_wrong 0 clauses steps)

abbrev pub target_flaw : Spec → Case → Target → List Step → Option Why
target_flaw spec k (of_clause t) steps = derivation_flaw (query_of spec k t) steps
target_flaw spec k (of_pred p) steps = Some NotSeparated

abbrev pub unless : Bool → Option Why
unless so = if so then None else Some NotSeparated

-- why the line isn't the one form of the case
abbrev pub flaw : Spec → Plan → Case → CertLine → Option Why
flaw spec plan k (SepLock i) = unless (is_lowest_lock spec plan k i)
flaw spec plan k (SepPart i) = unless (is_lowest_part spec plan k i)
flaw spec plan k (Refuted d) = if is_separated spec plan k then Some NotSeparated else target_flaw spec k k.target d.steps

abbrev pub verdict_at : ℕ → Verdict → Option Why → Verdict
verdict_at n rest None = rest
verdict_at n rest (Some why) = No n why

-- the first case that fails, counted from n
abbrev pub verdict_from : Spec → Plan → ℕ → List Case → List CertLine → Verdict
verdict_from spec plan n [] [] = Yes
verdict_from spec plan n [] (l ∷ lines) = No n Extra
verdict_from spec plan n (k ∷ cases) [] = No n Missing
verdict_from spec plan n (k ∷ cases) (l ∷ lines) = verdict_at n (verdict_from spec plan (suc n) cases lines) (flaw spec plan k l)

abbrev pub verdict_of : Spec → Plan → Certificate → Verdict
verdict_of spec plan certificate = verdict_from spec plan 0 (touched_cases spec) certificate.lines

-- a derivation has fewer steps than a number of 32 bits counts
abbrev pub FewSteps : CertLine → Type 0
FewSteps (SepLock i) = Unit {0}
FewSteps (SepPart i) = Unit {0}
FewSteps (Refuted d) = length d.steps ≤ 4294967294

-- fewer lines and steps than numbers of 32 bits count
pub record AreShort (lines : List CertLine) : Type 0 where
  pub few_lines : length lines ≤ 4294967294
  pub few_steps : AllByRecursion FewSteps lines
