-- Line after line of a specification.
use Rattle.std.proofs.Common.{◌≡◌, ℕ, ◌+◌, ◌<◌, ◌≤◌, List, ◌∷◌, length, get_or, drop, sym, ap, ◌∙◌, arith}
use Rattle.std.specs.Prelude.{Result, Ok, Err}
use Rattle.std.proofs.lemmas.List.{drop_more, length-drop}
use Rattle.spec_model.specs.declared.spec.Spec.{Spec}
use Rattle.line_text.specs.declared.cause.Cause.{Cause}
use Rattle.line_text.specs.declared.cause.LineError.{LineError}
use Rattle.line_text.specs.declared.cause.LineError.TheVariants as line_errors
use Rattle.line_text.specs.Causes.{Fails}
use Rattle.line_text.specs.Texts.{read_lines, GivesText, at_line}
use Rattle.line_text.proofs.Readings.{read-refused, read-taken, read-ended}
use Rattle.spec_language.specs.declared.draft.SpecDraft.{SpecDraft}
use Rattle.spec_language.specs.Reading.{accept, ends, spec_of_draft}

-- the next line, and those behind it
front : (lines : List (List ℕ)) (i : ℕ) (line x : List ℕ) → i < length lines → line ≡ x → x ≡ get_or lines i x → drop i lines ≡ line ∷ drop (i + 1) lines
front lines i line x lt value at = drop_more lines i x lt ∙ ap (λ (y : List ℕ). y ∷ drop (i + 1) lines) (sym at ∙ sym value)

pub spec-refused : (e : LineError) (number i : ℕ) (d : SpecDraft) (lines : List (List ℕ)) (line x : List ℕ) (total : Result SpecDraft (ℕ × Cause)) → i < length lines → line ≡ x → x ≡ get_or lines i x → Fails e (accept d line)
    → read_lines accept ends number d (drop i lines) ≡ total → GivesText (λ (s : Spec). s) (Err (at_line number e)) (spec_of_draft total)
spec-refused line_errors.Memory number i d lines line x total lt value at is so_far = tt
spec-refused (line_errors.Refused cause) number i d lines line x total lt value at is so_far =
    ap spec_of_draft (read-refused (line_errors.Refused cause) number accept ends d line (drop (i + 1) lines) (drop i lines) (λ (s : SpecDraft). s) total (front lines i line x lt value at) is so_far)

pub spec-taken : (number i : ℕ) (d e : SpecDraft) (lines : List (List ℕ)) (line x : List ℕ) (total : Result SpecDraft (ℕ × Cause)) → i < length lines → line ≡ x → x ≡ get_or lines i x → accept d line ≡ Ok e
    → read_lines accept ends number d (drop i lines) ≡ total → read_lines accept ends (number + 1) e (drop (i + 1) lines) ≡ total
spec-taken number i d e lines line x total lt value at is so_far = read-taken number accept ends d e line (drop (i + 1) lines) (drop i lines) total (front lines i line x lt value at) is so_far

pub spec-ended : (number i : ℕ) (d : SpecDraft) (lines : List (List ℕ)) (total : Result SpecDraft (ℕ × Cause)) → length lines ≤ i
    → read_lines accept ends number d (drop i lines) ≡ total → spec_of_draft total ≡ Ok d.spec
spec-ended number i d lines total past so_far =
    let none : length (drop i lines) ≡ 0 = length-drop i lines ∙ (omega (arith, past)) in
    ap spec_of_draft (sym (read-ended number accept ends d (drop i lines) total none so_far))
