-- Line after line of a document.
use Rattle.std.proofs.Common.{◌≡◌, ℕ, ◌+◌, ◌≤◌, true, false, eqb, List, ◌∷◌, length, refl, sym, ap, ◌∙◌, arith}
use Rattle.std.specs.Prelude.{Result, Ok, Err}
use Rattle.line_text.specs.declared.cause.Cause.{Cause}
use Rattle.line_text.specs.declared.cause.Cause.TheVariants.{ReplicasMissing}
use Rattle.line_text.specs.declared.cause.LineError.{LineError}
use Rattle.line_text.specs.declared.cause.LineError.TheVariants as line_errors
use Rattle.line_text.specs.Causes.{Fails}
use Rattle.line_text.specs.Texts.{read_lines, GivesText, at_line}
use Rattle.line_text.proofs.Readings.{read-refused, read-ended}
use Rattle.scenario_text.specs.declared.draft.Draft.{Draft}
use Rattle.scenario_text.specs.declared.document.Document.{Document}
use Rattle.scenario_text.specs.Draft.{ends, document_from}
use Rattle.scenario_text.specs.Reading.{accept, document_of_draft}

pub document-refused : (e : LineError) (number : ℕ) (d : Draft) (line : List ℕ) (rest lines : List (List ℕ)) (total : Result Draft (ℕ × Cause)) → lines ≡ line ∷ rest → Fails e (accept d line)
    → read_lines accept ends number d lines ≡ total → GivesText (λ (x : Document). x) (Err (at_line number e)) (document_of_draft total)
document-refused line_errors.Memory number d line rest lines total split is so_far = tt
document-refused (line_errors.Refused cause) number d line rest lines total split is so_far =
    ap document_of_draft (read-refused (line_errors.Refused cause) number accept ends d line rest lines (λ (x : Draft). x) total split is so_far)

pub counted : (number most : ℕ) (line : List ℕ) (lines rest : List (List ℕ)) → lines ≡ line ∷ rest → number + length lines ≤ most → number + 1 + length rest ≤ most
counted number most line lines rest split few =
    let more : number + length (line ∷ rest) ≤ most = rw split at few in
    omega (arith, more)

pub document-missing : (number : ℕ) (d : Draft) (lines : List (List ℕ)) (total : Result Draft (ℕ × Cause)) → length lines ≡ 0 → eqb d.replicas 0 ≡ true
    → read_lines accept ends number d lines ≡ total → document_of_draft total ≡ Err (number, ReplicasMissing)
document-missing number d lines total none missing so_far =
    ap document_of_draft (sym (read-ended number accept ends d lines total none so_far)) ∙ rw missing refl

pub document-done : (number : ℕ) (d : Draft) (lines : List (List ℕ)) (total : Result Draft (ℕ × Cause)) → length lines ≡ 0 → eqb d.replicas 0 ≡ false
    → read_lines accept ends number d lines ≡ total → document_of_draft total ≡ Ok (document_from d)
document-done number d lines total none some so_far =
    ap document_of_draft (sym (read-ended number accept ends d lines total none so_far)) ∙ rw some refl
