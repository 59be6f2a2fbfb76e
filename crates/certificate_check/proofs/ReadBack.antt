-- Lines that are read are those that say what was read.
use Rattle.std.proofs.Common.{◌≡◌, ℕ, suc, ◌+◌, ◌≤◌, Bool, true, false, cond, List, [], ◌∷◌, ◌++◌, length, map, refl, sym, ap, subst, ◌∙◌, arith, append_assoc, append-nil}
use Rattle.std.specs.Prelude.{Option, Some, None, Result, Ok, Err}
use Rattle.std.specs.List.{AllByRecursion, flat_map}
use Rattle.std.proofs.lemmas.List.{map-append}
use Rattle.certificate_check.specs.Checks.{FewSteps}
use Rattle.certificate_check.specs.Draft.{fresh, is_end, step}
use Rattle.certificate_check.specs.Printed.{word_line}
use Rattle.certificate_check.specs.Reading.{go_on, outcome, parts_of, read_from, read_of, taken}
use Rattle.certificate_check.specs.Texts.{IfParts, IsTextOf}
use Rattle.certificate_check.specs.declared.certificate.CertLine.{CertLine}
use Rattle.certificate_check.specs.declared.certificate.CertLine.TheVariants.{Refuted, SepLock, SepPart}
use Rattle.certificate_check.specs.declared.draft.Draft.{Draft}
use Rattle.certificate_check.specs.declared.reading.Read.{Read}
use Rattle.certificate_check.proofs.Grown.{grown}
use Rattle.certificate_check.proofs.SaidSoFar.{IsKept, end_is, said, said_is}
use Rattle.certificate_check.proofs.Saying.{all_said, all_written, cases_said, form_said, plan_said, step_line, texts_map}
use Rattle.certificate_lines.specs.Forms.{line_of}
use Rattle.certificate_lines.specs.Texts.{line_text}
use Rattle.certificate_lines.specs.declared.line.TextLine.{TextLine}
use Rattle.certificate_lines.specs.declared.line.TextLine.TheVariants as lines
use Rattle.certificate_lines.proofs.Back.{line_back}
use Rattle.line_text.proofs.Inverse.{bind_some}
use Rattle.spec_model.specs.Fits.{marked_from}
use Rattle.spec_model.specs.declared.spec.Spec.{Spec}
use Rattle.certificate_check.specs.declared.draft.Stage.TheVariants as stages

-- a draft that these lines lead to
record Reads (spec : Spec) (d e : Draft) (bytes : List (List ℕ)) : Type 0 where
  text : map line_text (said spec d) ++ bytes ≡ map line_text (said spec e)
  kept : IsKept spec e
  ended : is_end e.stage ≡ true

one_more : (front : List TextLine) (l : TextLine) (bytes : List (List ℕ)) → map line_text (front ++ l ∷ []) ++ bytes ≡ map line_text front ++ line_text l ∷ bytes
one_more front l bytes = ap (λ (ls : List (List ℕ)). ls ++ bytes) (map-append line_text front (l ∷ [])) ∙ append_assoc (map line_text front) (line_text l ∷ []) bytes

abbrev good : Draft → Result Draft ℕ
good f = Ok f

whole : (d e : Draft) → good d ≡ good e → d ≡ e
whole d e is = cc

ends_here : (spec : Spec) (n : ℕ) (d e : Draft) (t : Bool) → is_end d.stage ≡ t → IsKept spec d → cond t (Ok d) (Err n) ≡ Ok e → Reads spec d e []
ends_here spec n d e true is kept end' = subst (λ (f : Draft). Reads spec d f []) (whole d e end') (record { text = append-nil (map line_text (said spec d)); kept = kept; ended = is })
ends_here spec n d e false is kept end' = absurd cc

goes_on : (spec : Spec) (n : ℕ) (d e : Draft) (line : List ℕ) (bytes : List (List ℕ)) (o : Option Draft) → taken spec d line ≡ o → IsKept spec d → go_on n o (λ f. read_from spec (suc n) f bytes) ≡ Ok e
    → ((f : Draft) → IsKept spec f → read_from spec (suc n) f bytes ≡ Ok e → Reads spec f e bytes) → Reads spec d e (line ∷ bytes)
unfolding taken
goes_on spec n d e line bytes None is kept end' rest = absurd cc
goes_on spec n d e line bytes (Some f) is kept end' rest =
    let b = bind_some (line_of line) (step spec d) f is in
    let g = grown spec d f b.0 kept b.2 in
    let r = rest f g.kept end' in
    let back = line_back line b.0 b.1 in
    record {
      text = ap (λ (w : List ℕ). map line_text (said spec d) ++ w ∷ bytes) back ∙ sym (one_more (said spec d) b.0 bytes) ∙ ap (λ (ls : List TextLine). map line_text ls ++ bytes) (sym g.more) ∙ r.text;
      kept = r.kept;
      ended = r.ended;
    }

read_said : (spec : Spec) (n : ℕ) (d e : Draft) (bytes : List (List ℕ)) → IsKept spec d → read_from spec n d bytes ≡ Ok e → Reads spec d e bytes
read_said spec n d e [] kept is = ends_here spec n d e (is_end d.stage) refl kept is
read_said spec n d e (line ∷ bytes) kept is = goes_on spec n d e line bytes (taken spec d line) refl kept is (λ f k more. read_said spec (suc n) f e bytes k more)

pub nothing_yet : (spec : Spec) → IsKept spec fresh
nothing_yet spec = record { plan = record { locks_fit = tt; parts_fit = tt; once = tt }; shape = (refl, refl, record { lines = refl; steps = refl; missing = refl }) }

-- ---- numbers of lines

pub length_append : {X : Type 0} (xs ys : List X) → length (xs ++ ys) ≡ length xs + length ys
length_append [] ys = omega arith
length_append (x ∷ xs) ys = let h = length_append xs ys in omega (arith, h)

length_same : {X Y : Type 0} (f : X → Y) (xs : List X) → length (map f xs) ≡ length xs
length_same f [] = refl
length_same f (x ∷ xs) = ap suc (length_same f xs)

some_line : (n : ℕ) (l : CertLine) → 1 ≤ length (form_said n l)
some_line n (SepLock i) = omega arith
some_line n (SepPart i) = omega arith
some_line n (Refuted d) = omega arith

fewer_lines : (n : ℕ) (ls : List CertLine) → length ls ≤ length (cases_said n ls)
fewer_lines n [] = omega arith
fewer_lines n (l ∷ ls) =
    let one = some_line n l in
    let rest = fewer_lines (suc n) ls in
    let all = length_append (form_said n l) (cases_said (suc n) ls) in
    omega (arith, one, rest, all)

few_steps : (n limit : ℕ) (l : CertLine) → length (form_said n l) ≤ limit → limit ≤ 4294967294 → FewSteps l
few_steps n limit (SepLock i) h small = tt
few_steps n limit (SepPart i) h small = tt
few_steps n limit (Refuted d) h small = let same = length_same step_line d.steps in omega (arith, h, small, same)

fewer_steps : (n limit : ℕ) (ls : List CertLine) → length (cases_said n ls) ≤ limit → limit ≤ 4294967294 → AllByRecursion FewSteps ls
fewer_steps n limit [] h small = tt
fewer_steps n limit (l ∷ ls) h small =
    let all = length_append (form_said n l) (cases_said (suc n) ls) in
    (few_steps n limit l (omega (arith, h, all)) small, fewer_steps (suc n) limit ls (omega (arith, h, all)) small)

-- ---- the whole

whole_text : (spec : Spec) (lines' : List (List ℕ)) (e : Draft) → length lines' ≤ 4294967294 → Reads spec fresh e lines' → IfParts (parts_of spec e) (IsTextOf spec lines')
whole_text spec lines' e few r =
    let at = end_is e.stage r.ended in
    let all : lines' ≡ map line_text (all_said spec e.locks e.parts e.lines) = r.text ∙ ap (map line_text) (said_is spec e stages.End at) in
    let count = ap length all ∙ length_same line_text (all_said spec e.locks e.parts e.lines) in
    let front = length_append (plan_said spec e.locks e.parts) (lines.Certificate ∷ (cases_said 0 e.lines ++ lines.End ∷ [])) in
    let back = length_append (cases_said 0 e.lines) (lines.End ∷ []) in
    let cases : length (cases_said 0 e.lines) ≤ length lines' = omega (arith, count, front, back) in
    let fewer = fewer_lines 0 e.lines in
    record {
      plan_fits = record { locks_fit = r.kept.plan.locks_fit; parts_fit = r.kept.plan.parts_fit; once = r.kept.plan.once; masks = refl };
      short = record { few_lines = omega (arith, cases, fewer, few); few_steps = fewer_steps 0 (length lines') e.lines cases few };
      text = sym (all_written spec (record { locks = e.locks; masks = marked_from 0 spec.clauses; parts = e.parts }) (record { lines = e.lines })) ∙ sym (texts_map (all_said spec e.locks e.parts e.lines)) ∙ ap (flat_map word_line) (sym all);
    }

read_outcome : (spec : Spec) (lines' : List (List ℕ)) (r : Result Draft ℕ) → length lines' ≤ 4294967294 → read_from spec 1 fresh lines' ≡ r → IfParts (outcome spec r) (IsTextOf spec lines')
read_outcome spec lines' (Ok e) few is = whole_text spec lines' e few (read_said spec 1 fresh e lines' (nothing_yet spec) is)
read_outcome spec lines' (Err n) few is = tt

-- a plan and a certificate that are read are those of which the lines are the text
pub text_of_read : (spec : Spec) (lines' : List (List ℕ)) (r : Read) → length lines' ≤ 4294967294 → r ≡ read_of spec lines' → IfParts r (IsTextOf spec lines')
text_of_read spec lines' r few is = subst (λ (q : Read). IfParts q (IsTextOf spec lines')) (sym is) (read_outcome spec lines' (read_from spec 1 fresh lines') few refl)
