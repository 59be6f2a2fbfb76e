-- What is read so far begins the text of a whole plan and certificate.
use Rattle.std.proofs.Common.{◌≡◌, ℕ, zero, suc, ◌+◌, ◌-◌, ◌<◌, ◌≤◌, Bool, true, false, cond, eqb, ◌&&◌, List, [], ◌∷◌, ◌++◌, length, map, refl, sym, ap, subst, ◌∙◌, arith, append_assoc, append-nil}
use Rattle.std.specs.Prelude.{Some, nat_lt}
use Rattle.std.specs.List.{AllByRecursion}
use Rattle.std.proofs.lemmas.Bool.{eqb-true, ltb-true}
use Rattle.std.proofs.lemmas.List.{map-append}
use Rattle.certificate_check.specs.Draft.{closed, fresh, is_between, is_certificate, is_next, is_plan, is_start, kind_of, step, take_certificate, take_end, take_line, take_lock, take_part, take_plan, take_refuted, take_step}
use Rattle.certificate_check.specs.Fitting.{shares_points}
use Rattle.certificate_check.specs.Texts.{LineKeepsLimits}
use Rattle.certificate_check.specs.declared.certificate.CertLine.{CertLine}
use Rattle.certificate_check.specs.declared.certificate.CertLine.TheVariants.{Refuted, SepLock, SepPart}
use Rattle.certificate_check.specs.declared.draft.Draft.{Draft}
use Rattle.certificate_check.specs.declared.draft.Stage.{Stage}
use Rattle.certificate_check.specs.declared.draft.Stage.TheVariants as stages
use Rattle.certificate_check.proofs.Grown.{next}
use Rattle.certificate_check.proofs.SaidSoFar.{IsKept, ShapeAt, cases_push_first, open_said, passes_some, said_at}
use Rattle.certificate_check.proofs.ReadBack.{length_append}
use Rattle.certificate_check.proofs.Saying.{all_said, cases_said, plan_said, step_line}
use Rattle.certificate_lines.specs.Texts.{IsSmall, StepSpelt}
use Rattle.certificate_lines.specs.declared.line.KindLine.{KindLine}
use Rattle.certificate_lines.specs.declared.line.TextLine.{TextLine}
use Rattle.certificate_lines.specs.declared.line.TextLine.TheVariants as lines
use Rattle.certificate_lines.proofs.Small.{HasSmall}
use Rattle.ground_clauses.proofs.Lists.{each_append}
use Rattle.ground_clauses.specs.declared.clauses.Step.{Step}
use Rattle.line_text.proofs.Guards.{and_true}
use Rattle.line_text.proofs.Inverse.{bind_some, some_same}
use Rattle.spec_model.specs.declared.spec.Spec.{Spec}

-- ---- the limits that are kept

-- numbers keep their limits so far
pub record IsWithin (d : Draft) : Type 0 where
  pub locks : length d.locks ≤ 4294967296
  pub parts : length d.parts ≤ 4294967296
  pub cases : length d.lines ≤ 4294967296
  pub next : 0 < d.missing → length d.lines ≤ 4294967295
  pub lines : AllByRecursion LineKeepsLimits d.lines
  pub steps : AllByRecursion StepSpelt d.steps
  pub count : IsSmall (length d.steps + d.missing)

one_longer : {X : Type 0} (xs : List X) (x : X) → length (xs ++ x ∷ []) ≡ suc (length xs)
one_longer [] x = refl
one_longer (y ∷ xs) x = ap suc (one_longer xs x)

lock_within : (spec : Spec) (d e : Draft) (k : KindLine) → IsSmall k.number → IsWithin d → take_lock spec d k ≡ Some e → IsWithin e
unfolding take_lock
lock_within spec d e k small h is =
    let a = passes_some (is_plan d.stage && eqb (length d.parts) 0) _ e is in
    let b = passes_some (eqb k.number (length d.locks)) _ e a.1 in
    let c = bind_some (kind_of spec d k) _ e b.1 in
    let number = eqb-true k.number (length d.locks) b.0 in
    let longer = one_longer d.locks c.0 in
    subst IsWithin (some_same (record d { locks = d.locks ++ c.0 ∷ [] }) e c.2)
    (record { locks = omega (arith, small, number, longer); parts = h.parts; cases = h.cases; next = h.next; lines = h.lines; steps = h.steps; count = h.count })

part_within : (spec : Spec) (d e : Draft) (k : KindLine) → IsSmall k.number → IsWithin d → take_part spec d k ≡ Some e → IsWithin e
unfolding take_part
part_within spec d e k small h is =
    let a = passes_some (is_plan d.stage) _ e is in
    let b = passes_some (eqb k.number (length d.parts)) _ e a.1 in
    let c = bind_some (kind_of spec d k) _ e b.1 in
    let p = passes_some (shares_points spec c.0) _ e c.2 in
    let number = eqb-true k.number (length d.parts) b.0 in
    let longer = one_longer d.parts c.0 in
    subst IsWithin (some_same (record d { parts = d.parts ++ c.0 ∷ [] }) e p.1)
    (record { locks = h.locks; parts = omega (arith, small, number, longer); cases = h.cases; next = h.next; lines = h.lines; steps = h.steps; count = h.count })

stage_within : (d : Draft) (s : Stage) → IsWithin d → IsWithin (record d { stage = s })
stage_within d s h = record { locks = h.locks; parts = h.parts; cases = h.cases; next = h.next; lines = h.lines; steps = h.steps; count = h.count }

line_within : (spec : Spec) (d e : Draft) (case : ℕ) (line : CertLine) → IsSmall case → LineKeepsLimits line → IsKept spec d → IsWithin d → take_line d case line ≡ Some e → IsWithin e
unfolding take_line
line_within spec d e case line small so kept h is =
    let a = passes_some (is_next d case) _ e is in
    let n = next d case kept.shape a.0 in
    let number = n.number in
    let missing = n.missing in
    let longer = one_longer d.lines line in
    subst IsWithin (some_same (record d { lines = d.lines ++ line ∷ [] }) e a.1)
    (record { locks = h.locks; parts = h.parts; cases = omega (arith, small, number, longer); next = λ some. absurd (omega (arith, some, missing)); lines = each_append LineKeepsLimits d.lines (line ∷ []) h.lines (so, tt); steps = h.steps; count = h.count })

closed_within : (d : Draft) (t : Bool) → eqb d.missing 0 ≡ t → length d.lines ≤ 4294967295 → IsWithin d → IsWithin (cond t (record d { lines = d.lines ++ Refuted (record { steps = d.steps }) ∷ []; steps = [] }) d)
closed_within d true is few h =
    let missing = eqb-true d.missing 0 is in
    let longer = one_longer d.lines (Refuted (record { steps = d.steps })) in
    let count = h.count in
    record {
      locks = h.locks;
      parts = h.parts;
      cases = omega (arith, few, longer);
      next = λ some. absurd (omega (arith, some, missing));
      lines = each_append LineKeepsLimits d.lines (Refuted (record { steps = d.steps }) ∷ []) h.lines ((omega (arith, count), h.steps), tt);
      steps = tt;
      count = omega (arith, missing);
    }
closed_within d false is few h = h

refuted_within : (spec : Spec) (d e : Draft) (case count : ℕ) → IsSmall case → IsSmall count → IsKept spec d → IsWithin d → take_refuted d case count ≡ Some e → IsWithin e
unfolding take_refuted
refuted_within spec d e case count small few kept h is =
    let a = passes_some (is_next d case) _ e is in
    let n = next d case kept.shape a.0 in
    let number = n.number in
    let new : Draft = record d { missing = count } in
    let size : length d.steps ≡ 0 = ap length n.steps in
    let within : IsWithin new = record { locks = h.locks; parts = h.parts; cases = h.cases; next = λ some. omega (arith, small, number); lines = h.lines; steps = h.steps; count = omega (arith, few, size) } in
    subst IsWithin (some_same (closed new) e a.1) (closed_within new (eqb count 0) refl (omega (arith, small, number)) within)

step_within : (d e : Draft) (s : Step) → StepSpelt s → IsWithin d → take_step d s ≡ Some e → IsWithin e
unfolding take_step
step_within d e s spelt h is =
    let a = passes_some (is_certificate d.stage && nat_lt 0 d.missing) _ e is in
    let t = and_true (is_certificate d.stage) (nat_lt 0 d.missing) a.0 in
    let some = ltb-true 0 d.missing t.1 in
    let few = h.next some in
    let longer = one_longer d.steps s in
    let count = h.count in
    let new : Draft = record d { steps = d.steps ++ s ∷ []; missing = d.missing - 1 } in
    let within : IsWithin new = record { locks = h.locks; parts = h.parts; cases = h.cases; next = λ more. few; lines = h.lines; steps = each_append StepSpelt d.steps (s ∷ []) h.steps (spelt, tt); count = omega (arith, some, longer, count) } in
    subst IsWithin (some_same (closed new) e a.1) (closed_within new (eqb (d.missing - 1) 0) refl few within)

-- each line that is taken keeps them
pub within_on : (spec : Spec) (d e : Draft) (l : TextLine) → HasSmall l → IsKept spec d → IsWithin d → step spec d l ≡ Some e → IsWithin e
unfolding take_plan take_certificate take_end
within_on spec d e lines.Plan small kept h is = let a = passes_some (is_start d.stage) _ e is in subst IsWithin (some_same (record d { stage = stages.Plan }) e a.1) (stage_within d stages.Plan h)
within_on spec d e (lines.Lock k) small kept h is = lock_within spec d e k small h is
within_on spec d e (lines.Part k) small kept h is = part_within spec d e k small h is
within_on spec d e lines.Certificate small kept h is = let a = passes_some (is_plan d.stage) _ e is in subst IsWithin (some_same (record d { stage = stages.Certificate }) e a.1) (stage_within d stages.Certificate h)
within_on spec d e (lines.SepLock case lock) small kept h is = line_within spec d e case (SepLock lock) small.0 small.1 kept h is
within_on spec d e (lines.SepPart case part) small kept h is = line_within spec d e case (SepPart part) small.0 small.1 kept h is
within_on spec d e (lines.Refuted case count) small kept h is = refuted_within spec d e case count small.0 small.1 kept h is
within_on spec d e (lines.Step s) small kept h is = step_within d e s small h is
within_on spec d e lines.End small kept h is = let a = passes_some (is_between d) _ e is in subst IsWithin (some_same (record d { stage = stages.End }) e a.1) (stage_within d stages.End h)

pub nothing_within : IsWithin fresh
nothing_within = record { locks = omega arith; parts = omega arith; cases = omega arith; next = λ some. omega arith; lines = tt; steps = tt; count = omega arith }

-- ---- a whole text that begins so

abbrev blank : Step
blank = record { lits = []; hints = [] }

-- so many steps that say nothing
abbrev blanks : ℕ → List Step
blanks zero = []
blanks (suc n) = blank ∷ blanks n

-- the cases, with the steps that are missing
abbrev pub completed : List CertLine → List Step → ℕ → List CertLine
completed ls steps missing = cond (eqb missing 0) ls (ls ++ Refuted (record { steps = steps ++ blanks missing }) ∷ [])

count_blanks : (n : ℕ) → length (blanks n) ≡ n
count_blanks zero = refl
count_blanks (suc n) = ap suc (count_blanks n)

blanks_spelt : (n : ℕ) → AllByRecursion StepSpelt (blanks n)
blanks_spelt zero = tt
blanks_spelt (suc n) = (record { lits = tt; hints = tt }, blanks_spelt n)

-- some lines behind these make them those of a whole text
abbrev pub Continues : Spec → Draft → List TextLine → Type 0
Continues spec d so_far = (rest : List TextLine) × (so_far ++ rest ≡ all_said spec d.locks d.parts (completed d.lines d.steps d.missing))

-- cases, and the first line and steps of a derivation that isn't whole
open_completed : (ls : List CertLine) (steps : List Step) (missing : ℕ) (t : Bool) → eqb missing 0 ≡ t
    → (rest : List TextLine) × ((cases_said 0 ls ++ cond t [] (lines.Refuted (length ls) (length steps + missing) ∷ map step_line steps)) ++ rest ≡ cases_said 0 (cond t ls (ls ++ Refuted (record { steps = steps ++ blanks missing }) ∷ [])))
open_completed ls steps missing true is = ([], append-nil (cases_said 0 ls ++ []) ∙ append-nil (cases_said 0 ls))
open_completed ls steps missing false is = (map step_line (blanks missing), joined)
  where
    whole : CertLine
    whole = Refuted (record { steps = steps ++ blanks missing })

    counted : length (steps ++ blanks missing) ≡ length steps + missing
    counted = let all = length_append steps (blanks missing) in let some = count_blanks missing in omega (arith, all, some)

    joined : (cases_said 0 ls ++ (lines.Refuted (length ls) (length steps + missing) ∷ map step_line steps)) ++ map step_line (blanks missing) ≡ cases_said 0 (ls ++ whole ∷ [])
    joined =
        append_assoc (cases_said 0 ls) (lines.Refuted (length ls) (length steps + missing) ∷ map step_line steps) (map step_line (blanks missing))
        ∙ ap (λ (ts : List TextLine). cases_said 0 ls ++ (lines.Refuted (length ls) (length steps + missing) ∷ ts)) (sym (map-append step_line steps (blanks missing)))
        ∙ ap (λ (n : ℕ). cases_said 0 ls ++ (lines.Refuted (length ls) n ∷ map step_line (steps ++ blanks missing))) (sym counted)
        ∙ sym (cases_push_first ls whole)

moved : (plan cases rest : List TextLine) (c : TextLine) (last : List TextLine) → (plan ++ (c ∷ cases)) ++ (rest ++ last) ≡ plan ++ (c ∷ ((cases ++ rest) ++ last))
moved plan cases rest c last = simp append_assoc

pub continued : (spec : Spec) (d : Draft) (s : Stage) → ShapeAt s d → Continues spec d (said_at spec s d)
continued spec d stages.Start shape = (all_said spec d.locks d.parts (completed d.lines d.steps d.missing), refl)
continued spec d stages.Plan shape = (lines.Certificate ∷ (cases_said 0 (completed d.lines d.steps d.missing) ++ lines.End ∷ []), refl)
continued spec d stages.Certificate shape =
    let h = open_completed d.lines d.steps d.missing (eqb d.missing 0) refl in (
      h.0 ++ lines.End ∷ [],
      moved (plan_said spec d.locks d.parts) (cases_said 0 d.lines ++ open_said (length d.lines) d.steps d.missing) h.0 lines.Certificate (lines.End ∷ [])
          ∙ ap (λ (ts : List TextLine). plan_said spec d.locks d.parts ++ (lines.Certificate ∷ (ts ++ lines.End ∷ []))) h.1,
    )
continued spec d stages.End shape =
    ([], append-nil (all_said spec d.locks d.parts d.lines) ∙ ap (λ (n : ℕ). all_said spec d.locks d.parts (completed d.lines d.steps n)) (sym shape))

-- the text that is completed keeps the limits
pub completed_limits : (d : Draft) (t : Bool) → eqb d.missing 0 ≡ t → IsWithin d → (length (cond t d.lines (d.lines ++ Refuted (record { steps = d.steps ++ blanks d.missing }) ∷ [])) ≤ 4294967296) × AllByRecursion LineKeepsLimits (cond t d.lines (d.lines ++ Refuted (record { steps = d.steps ++ blanks d.missing }) ∷ []))
completed_limits d true is h = (h.cases, h.lines)
completed_limits d false is h =
    let some = positive d.missing is in
    let few = h.next some in
    let count = h.count in
    let all = length_append d.steps (blanks d.missing) in
    let blank_count = count_blanks d.missing in
    let longer = one_longer d.lines (Refuted (record { steps = d.steps ++ blanks d.missing })) in
    (omega (arith, few, longer), each_append LineKeepsLimits d.lines (Refuted (record { steps = d.steps ++ blanks d.missing }) ∷ []) h.lines ((omega (arith, count, all, blank_count), each_append StepSpelt d.steps (blanks d.missing) h.steps (blanks_spelt d.missing)), tt))
  where
    positive : (n : ℕ) → eqb n 0 ≡ false → 0 < n
    positive zero e = absurd cc
    positive (suc n) e = omega arith
