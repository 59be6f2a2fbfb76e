-- What a draft says, and what is known of it at its stage.
use Rattle.std.proofs.Common.{◌≡◌, ℕ, suc, ◌+◌, Bool, true, false, cond, eqb, List, [], ◌∷◌, ◌++◌, length, map, refl, sym, ap, subst, ◌∙◌, arith, append_assoc, append-nil}
use Rattle.std.specs.Prelude.{Option, Some}
use Rattle.std.specs.List.{AllByRecursion}
use Rattle.certificate_check.specs.Draft.{is_certificate, is_end, is_plan, is_start, passes}
use Rattle.certificate_check.specs.declared.certificate.CertLine.{CertLine}
use Rattle.certificate_check.specs.declared.draft.Draft.{Draft}
use Rattle.certificate_check.specs.declared.draft.Stage.{Stage}
use Rattle.certificate_check.specs.declared.draft.Stage.TheVariants as stages
use Rattle.certificate_check.proofs.Saying.{cases_said, form_said, kind_said, kinds_said, plan_said, step_line}
use Rattle.certificate_lines.specs.declared.line.KindLine.{KindLine}
use Rattle.certificate_lines.specs.declared.line.TextLine.{TextLine}
use Rattle.certificate_lines.specs.declared.line.TextLine.TheVariants as lines
use Rattle.ground_clauses.specs.declared.clauses.Step.{Step}
use Rattle.line_text.specs.Reads.{◌>>=◌}
use Rattle.spec_model.specs.Fits.{EachPairOnce, LockFits, PartFits}
use Rattle.spec_model.specs.declared.plan.LockKind.{LockKind}
use Rattle.spec_model.specs.declared.spec.Spec.{Spec}

-- ---- what a draft says

-- the first line of a derivation that isn't whole, and its steps so far
abbrev pub open_said : ℕ → List Step → ℕ → List TextLine
open_said n steps missing = cond (eqb missing 0) [] (lines.Refuted n (length steps + missing) ∷ map step_line steps)

abbrev pub said_at : Spec → Stage → Draft → List TextLine
said_at spec stages.Start d = []
said_at spec stages.Plan d = plan_said spec d.locks d.parts
said_at spec stages.Certificate d = plan_said spec d.locks d.parts ++ (lines.Certificate ∷ (cases_said 0 d.lines ++ open_said (length d.lines) d.steps d.missing))
said_at spec stages.End d = plan_said spec d.locks d.parts ++ (lines.Certificate ∷ (cases_said 0 d.lines ++ lines.End ∷ []))

-- the lines that a draft was read from
abbrev pub said : Spec → Draft → List TextLine
said spec d = said_at spec d.stage d

-- no case stands yet
pub record IsEmpty (d : Draft) : Type 0 where
  pub lines : d.lines ≡ []
  pub steps : d.steps ≡ []
  pub missing : d.missing ≡ 0

-- what stands nowhere before its stage
abbrev pub ShapeAt : Stage → Draft → Type 0
ShapeAt stages.Start d = (d.locks ≡ []) × (d.parts ≡ []) × IsEmpty d
ShapeAt stages.Plan d = IsEmpty d
ShapeAt stages.Certificate d = d.missing ≡ 0 → d.steps ≡ []
ShapeAt stages.End d = d.missing ≡ 0

pub record HasPlan (spec : Spec) (locks parts : List LockKind) : Type 0 where
  pub locks_fit : AllByRecursion (LockFits spec) locks
  pub parts_fit : AllByRecursion (PartFits spec) parts
  pub once : EachPairOnce (locks ++ parts)

pub record IsKept (spec : Spec) (d : Draft) : Type 0 where
  pub plan : HasPlan spec d.locks d.parts
  pub shape : ShapeAt d.stage d

-- a line was said at the end
pub record Grown (spec : Spec) (d e : Draft) (l : TextLine) : Type 0 where
  pub more : said spec e ≡ said spec d ++ l ∷ []
  pub kept : IsKept spec e

-- ---- tests

pub passes_some : {A : Type 0} (b : Bool) (f : Unit {0} → Option A) (y : A) → (passes b >>= f) ≡ Some y → (b ≡ true) × (f tt ≡ Some y)
passes_some true f y e = (refl, e)
passes_some false f y e = absurd cc

pub start_is : (s : Stage) → is_start s ≡ true → s ≡ stages.Start
start_is stages.Start e = refl
start_is stages.Plan e = absurd cc
start_is stages.Certificate e = absurd cc
start_is stages.End e = absurd cc

pub plan_is : (s : Stage) → is_plan s ≡ true → s ≡ stages.Plan
plan_is stages.Start e = absurd cc
plan_is stages.Plan e = refl
plan_is stages.Certificate e = absurd cc
plan_is stages.End e = absurd cc

pub certificate_is : (s : Stage) → is_certificate s ≡ true → s ≡ stages.Certificate
certificate_is stages.Start e = absurd cc
certificate_is stages.Plan e = absurd cc
certificate_is stages.Certificate e = refl
certificate_is stages.End e = absurd cc

pub end_is : (s : Stage) → is_end s ≡ true → s ≡ stages.End
end_is stages.Start e = absurd cc
end_is stages.Plan e = absurd cc
end_is stages.Certificate e = absurd cc
end_is stages.End e = refl

-- the same draft at the stage where it is
pub said_is : (spec : Spec) (d : Draft) (s : Stage) → d.stage ≡ s → said spec d ≡ said_at spec s d
said_is spec d s e = ap (λ (t : Stage). said_at spec t d) e

pub shape_is : (d : Draft) (s : Stage) → d.stage ≡ s → ShapeAt d.stage d → ShapeAt s d
shape_is d s e h = subst (λ (t : Stage). ShapeAt t d) e h

pub shape_back : (d : Draft) (s : Stage) → d.stage ≡ s → ShapeAt s d → ShapeAt d.stage d
shape_back d s e h = subst (λ (t : Stage). ShapeAt t d) (sym e) h

-- ---- lists that grow

pub kinds_push : (spec : Spec) (line : KindLine → TextLine) (n : ℕ) (kinds : List LockKind) (l : LockKind) → kinds_said spec line n (kinds ++ l ∷ []) ≡ kinds_said spec line n kinds ++ line (kind_said spec (n + length kinds) l) ∷ []
kinds_push spec line n [] l = ap (λ (k : ℕ). line (kind_said spec k l) ∷ []) (let z : n ≡ n + 0 = omega arith in z)
kinds_push spec line n (k ∷ kinds) l =
    ap (λ (ls : List TextLine). line (kind_said spec n k) ∷ ls)
    (kinds_push spec line (suc n) kinds l ∙ ap (λ (i : ℕ). kinds_said spec line (suc n) kinds ++ line (kind_said spec i l) ∷ []) (let z : suc n + length kinds ≡ n + suc (length kinds) = omega arith in z))

pub cases_push : (n : ℕ) (ls : List CertLine) (l : CertLine) → cases_said n (ls ++ l ∷ []) ≡ cases_said n ls ++ form_said (n + length ls) l
cases_push n [] l = append-nil (form_said n l) ∙ ap (λ (k : ℕ). form_said k l) (let z : n ≡ n + 0 = omega arith in z)
cases_push n (k ∷ ls) l =
    ap (λ (ts : List TextLine). form_said n k ++ ts) (cases_push (suc n) ls l ∙ ap (λ (i : ℕ). cases_said (suc n) ls ++ form_said i l) (let z : suc n + length ls ≡ n + suc (length ls) = omega arith in z))
    ∙ sym (append_assoc (form_said n k) (cases_said (suc n) ls) (form_said (n + suc (length ls)) l))

pub none_before : (n : ℕ) → 0 + n ≡ n
none_before n = omega arith

pub kinds_push_first : (spec : Spec) (line : KindLine → TextLine) (kinds : List LockKind) (l : LockKind) → kinds_said spec line 0 (kinds ++ l ∷ []) ≡ kinds_said spec line 0 kinds ++ line (kind_said spec (length kinds) l) ∷ []
kinds_push_first spec line kinds l = kinds_push spec line 0 kinds l ∙ ap (λ (i : ℕ). kinds_said spec line 0 kinds ++ line (kind_said spec i l) ∷ []) (none_before (length kinds))

pub cases_push_first : (ls : List CertLine) (l : CertLine) → cases_said 0 (ls ++ l ∷ []) ≡ cases_said 0 ls ++ form_said (length ls) l
cases_push_first ls l = cases_push 0 ls l ∙ ap (λ (i : ℕ). cases_said 0 ls ++ form_said i l) (none_before (length ls))
