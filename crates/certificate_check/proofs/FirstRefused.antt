-- The line that is refused is the first with which the lines begin no text.
use Rattle.std.proofs.Common.{◌≡◌, ℕ, suc, Bool, true, false, cond, eqb, List, [], ◌∷◌, ◌++◌, length, map, refl, sym, ap, subst, ◌∙◌, append_assoc, append-nil}
use Rattle.std.specs.Prelude.{Option, Some, None, Result, Ok, Err}
use Rattle.std.proofs.lemmas.List.{map-append}
use Rattle.certificate_check.specs.Draft.{fresh, is_end, step}
use Rattle.certificate_check.specs.Reading.{go_on, outcome, read_from, read_of, taken}
use Rattle.certificate_check.specs.Texts.{AreText, Begin, EndsBadly, HasNames, IfRefused, IsFirstRefused, KeepsLimits}
use Rattle.certificate_check.specs.declared.certificate.Certificate.{Certificate}
use Rattle.certificate_check.specs.declared.draft.Draft.{Draft}
use Rattle.certificate_check.specs.declared.reading.Read.{Read}
use Rattle.certificate_check.proofs.Completed.{IsWithin, completed, completed_limits, continued, nothing_within, within_on}
use Rattle.certificate_check.proofs.Grown.{grown}
use Rattle.certificate_check.proofs.SaidSoFar.{IsKept, said}
use Rattle.certificate_check.proofs.ReadAgain.{lines_said, lines_taken}
use Rattle.certificate_check.proofs.ReadBack.{nothing_yet}
use Rattle.certificate_lines.specs.Forms.{line_of}
use Rattle.certificate_lines.specs.Texts.{line_text}
use Rattle.certificate_lines.proofs.Back.{line_back}
use Rattle.certificate_lines.proofs.Small.{line_small}
use Rattle.line_text.proofs.Inverse.{bind_some}
use Rattle.spec_model.specs.Fits.{IsWellFormed, marked_from}
use Rattle.spec_model.specs.declared.plan.Plan.{Plan}
use Rattle.spec_model.specs.declared.spec.Spec.{Spec}

-- ---- where reading stops

-- a draft that lines lead to
record LedBy (spec : Spec) (d : Draft) (front : List (List ℕ)) : Type 0 where
  kept : IsKept spec d
  within : IsWithin d
  text : map line_text (said spec d) ≡ front
  leads : (more : List (List ℕ)) → read_from spec 1 fresh (front ++ more) ≡ read_from spec (suc (length front)) d more

-- the next line isn't taken, or the text doesn't end here
abbrev IsStuck : Spec → Draft → List (List ℕ) → Type 0
IsStuck spec d [] = is_end d.stage ≡ false
IsStuck spec d (line ∷ behind) = taken spec d line ≡ None

-- reading stops at line n
record StopsAt (spec : Spec) (all : List (List ℕ)) (n : ℕ) : Type 0 where
  draft : Draft
  front : List (List ℕ)
  behind : List (List ℕ)
  lines_are : all ≡ front ++ behind
  number : n ≡ suc (length front)
  led : LedBy spec draft front
  stuck : IsStuck spec draft behind

longer : (front : List (List ℕ)) (line : List ℕ) → suc (length (front ++ line ∷ [])) ≡ suc (suc (length front))
longer [] line = refl
longer (x ∷ front) line = ap suc (longer front line)

led_on : (spec : Spec) (d e : Draft) (front : List (List ℕ)) (line : List ℕ) → LedBy spec d front → taken spec d line ≡ Some e → LedBy spec e (front ++ line ∷ [])
unfolding taken
led_on spec d e front line led is =
    let b = bind_some (line_of line) (step spec d) e is in
    let g = grown spec d e b.0 led.kept b.2 in
    record {
      kept = g.kept;
      within = within_on spec d e b.0 (line_small line b.0 b.1) led.kept led.within b.2;
      text = ap (map line_text) g.more ∙ map-append line_text (said spec d) (b.0 ∷ []) ∙ ap (λ (ls : List (List ℕ)). ls ++ line_text b.0 ∷ []) led.text ∙ ap (λ (w : List ℕ). front ++ w ∷ []) (sym (line_back line b.0 b.1));
      leads = λ more. ap (read_from spec 1 fresh) (append_assoc front (line ∷ []) more) ∙ led.leads (line ∷ more) ∙ ap (λ (o : Option Draft). go_on (suc (length front)) o (λ f. read_from spec (suc (suc (length front))) f more)) is ∙ ap (λ (n : ℕ). read_from spec n e more) (sym (longer front line));
    }

abbrev bad : ℕ → Result Draft ℕ
bad n = Err n

same_number : (m n : ℕ) → bad m ≡ bad n → n ≡ m
same_number m n e = cc

ends_there : (spec : Spec) (d : Draft) (front : List (List ℕ)) (n : ℕ) (t : Bool) → is_end d.stage ≡ t → LedBy spec d front → cond t (Ok d) (Err (suc (length front))) ≡ bad n → StopsAt spec (front ++ []) n
ends_there spec d front n true is led e = absurd cc
ends_there spec d front n false is led e = record { draft = d; front = front; behind = []; lines_are = refl; number = same_number (suc (length front)) n e; led = led; stuck = is }

stops_or_goes : (spec : Spec) (d : Draft) (front : List (List ℕ)) (line : List ℕ) (behind : List (List ℕ)) (n : ℕ) (o : Option Draft) → taken spec d line ≡ o → LedBy spec d front
    → go_on (suc (length front)) o (λ f. read_from spec (suc (suc (length front))) f behind) ≡ bad n
    → ((f : Draft) → LedBy spec f (front ++ line ∷ []) → read_from spec (suc (length (front ++ line ∷ []))) f behind ≡ bad n → StopsAt spec ((front ++ line ∷ []) ++ behind) n)
    → StopsAt spec (front ++ line ∷ behind) n
stops_or_goes spec d front line behind n None is led e rest = record { draft = d; front = front; behind = line ∷ behind; lines_are = refl; number = same_number (suc (length front)) n e; led = led; stuck = is }
stops_or_goes spec d front line behind n (Some f) is led e rest =
    subst (λ (ls : List (List ℕ)). StopsAt spec ls n) (append_assoc front (line ∷ []) behind) (rest f (led_on spec d f front line led is) (ap (λ (k : ℕ). read_from spec k f behind) (longer front line) ∙ e))

stops : (spec : Spec) (d : Draft) (front behind : List (List ℕ)) (n : ℕ) → LedBy spec d front → read_from spec (suc (length front)) d behind ≡ bad n → StopsAt spec (front ++ behind) n
stops spec d front [] n led e = ends_there spec d front n (is_end d.stage) refl led e
stops spec d front (line ∷ behind) n led e =
    stops_or_goes spec d front line behind n (taken spec d line) refl led e (λ f on more. stops spec f (front ++ line ∷ []) behind n on more)

-- ---- what that says of texts

begins : (spec : Spec) (d : Draft) (front : List (List ℕ)) → IsWellFormed spec → HasNames spec → LedBy spec d front → Begin spec front
begins spec d front formed names led =
    let ls = completed d.lines d.steps d.missing in
    let plan : Plan = record { locks = d.locks; masks = marked_from 0 spec.clauses; parts = d.parts } in
    let c : Certificate = record { lines = ls } in
    let more = continued spec d d.stage led.kept.shape in
    let limits = completed_limits d (eqb d.missing 0) refl led.within in
    let keeps : KeepsLimits plan c = record { locks = led.within.locks; parts = led.within.parts; cases = limits.0; lines = limits.1 } in
    let p = led.kept.plan in
    let lines_are = lines_said spec plan c formed names (record { locks_fit = p.locks_fit; parts_fit = p.parts_fit; once = p.once; masks = refl }) keeps
    ∙ ap (map line_text) (sym more.1) ∙ map-append line_text (said spec d) more.0 ∙ ap (λ (ks : List (List ℕ)). ks ++ map line_text more.0) led.text in
    (map line_text more.0, (plan, c, record { plan_fits = record { locks_fit = p.locks_fit; parts_fit = p.parts_fit; once = p.once; masks = refl }; limits = keeps; lines_are = lines_are }))

abbrev good : Draft → Result Draft ℕ
good d = Ok d

never : (r : Result Draft ℕ) (d : Draft) (n : ℕ) → r ≡ good d → r ≡ bad n → ⊥
never (Ok e) d n is other = absurd cc
never (Err m) d n is other = absurd cc

-- lines at which reading stops are no text
no_text : (spec : Spec) (lines : List (List ℕ)) (n : ℕ) → IsWellFormed spec → HasNames spec → read_from spec 1 fresh lines ≡ bad n → AreText spec lines → ⊥
no_text spec lines n formed names is (plan, certificate, h) =
    never (read_from spec 1 fresh lines) _ n (ap (read_from spec 1 fresh) (sym h.lines_are) ∙ lines_taken spec plan certificate formed names h.plan_fits h.limits) is

ends_badly : (spec : Spec) (d : Draft) (front behind : List (List ℕ)) → IsWellFormed spec → HasNames spec → LedBy spec d front → IsStuck spec d behind → EndsBadly spec front behind
ends_badly spec d front [] formed names led stuck = λ text.
    no_text spec front (suc (length front)) formed names (ap (read_from spec 1 fresh) (sym (append-nil front)) ∙ led.leads [] ∙ ended (is_end d.stage) stuck) text
  where
    ended : (t : Bool) → t ≡ false → cond t (Ok d) (Err (suc (length front))) ≡ bad (suc (length front))
    ended true is = absurd cc
    ended false is = refl
ends_badly spec d front (line ∷ behind) formed names led stuck = λ begun.
    no_text spec ((front ++ line ∷ []) ++ begun.0) (suc (length front)) formed names
    (ap (read_from spec 1 fresh) (append_assoc front (line ∷ []) begun.0) ∙ led.leads (line ∷ begun.0) ∙ ap (λ (o : Option Draft). go_on (suc (length front)) o (λ f. read_from spec (suc (suc (length front))) f begun.0)) stuck) begun.1

first_refused : (spec : Spec) (lines : List (List ℕ)) (n : ℕ) → IsWellFormed spec → HasNames spec → read_from spec 1 fresh lines ≡ bad n → IsFirstRefused spec lines n
first_refused spec lines n formed names is =
    let s = stops spec fresh [] lines n (record { kept = nothing_yet spec; within = nothing_within; text = refl; leads = λ more. refl }) is in
    record { front = s.front; behind = s.behind; lines_are = s.lines_are; number = s.number; begins = begins spec s.draft s.front formed names s.led; ends = ends_badly spec s.draft s.front s.behind formed names s.led s.stuck }

by_outcome : (spec : Spec) (lines : List (List ℕ)) (r : Result Draft ℕ) → IsWellFormed spec → HasNames spec → read_from spec 1 fresh lines ≡ r → IfRefused (outcome spec r) (IsFirstRefused spec lines)
by_outcome spec lines (Ok d) formed names is = tt
by_outcome spec lines (Err n) formed names is = first_refused spec lines n formed names is

-- the line that a call refuses is the first
pub refused_first : (spec : Spec) (lines : List (List ℕ)) (r : Read) → IsWellFormed spec → r ≡ read_of spec lines → HasNames spec → IfRefused r (IsFirstRefused spec lines)
refused_first spec lines r formed is names = subst (λ (q : Read). IfRefused q (IsFirstRefused spec lines)) (sym is) (by_outcome spec lines (read_from spec 1 fresh lines) formed names refl)
