use Rattle.std.proofs.Common.{◌≡◌, List, ℕ, [], length, refl, sym, ap, ◌∙◌, arith}
use Rattle.std.specs.Prelude.{Result, Ok}
use Rattle.line_text.specs.declared.cause.Cause.{Cause}
use Rattle.scenario_text.specs.declared.document.Document.{Document}
use Rattle.std.proofs.lemmas.Bool.{eqb-true, eq-eqb, ne_eqb}
use Rattle.std.proofs.lemmas.List.{nil_from_length}
use Rattle.line_text.specs.Lines.{lines_of}
use Rattle.line_text.proofs.Readings.{read-taken, read-ended}
use Rattle.scenario_text.proofs.Formed.{ended_formed}
use Rattle.scenario_text.specs.Draft.{ends}
use Rattle.scenario_text.specs.Reading.{accept}
use Rattle.scenario_text.proofs.Limits.{accept_keeps, fresh_bounds}
use Rattle.scenario_text.proofs.Documents.{document-refused, document-missing, document-done, counted}
use Rattle.scenario_text.proofs.reading.parse_document.Goals as goal

pub returns-in-Err-clause-value : goal.returns-in-Err-clause-value
returns-in-Err-clause-value c = rw c.at_line.ensures (document-refused c.in-Err.error c.lines.number c.lines.draft _ _ _ _ c.split_line.ensures.lines c.in-Err.ensures c.lines.invariant.0)

pub lines-preserved : goal.lines-preserved
lines-preserved c = (
  read-taken c.lines.number accept ends c.lines.draft _ _ _ _ _ c.split_line.ensures.lines c.in-Ok.ensures c.lines.invariant.0,
  counted c.lines.number _ _ _ _ c.split_line.ensures.lines c.lines.invariant.1,
  accept_keeps _ _ _ c.lines.invariant.2 c.in-Ok.ensures,
)

pub returns-then-draft-eq0-clause-value : goal.returns-then-draft-eq0-clause-value
returns-then-draft-eq0-clause-value c =
    let none : c.lines.rest.now ≡ [] = nil_from_length _ (eqb-true _ _ (sym c.is_empty.ensures ∙ c.lines-test.false)) in
    document-missing c.lines.number c.lines.draft _ _ (ap (λ (r : List ℕ). length (lines_of r)) none) (eq-eqb _ 0 c.if-draft-eq0.true) c.lines.invariant.0

pub returns-clause-value : goal.returns-clause-value
returns-clause-value c =
    let none : c.lines.rest.now ≡ [] = nil_from_length _ (eqb-true _ _ (sym c.is_empty.ensures ∙ c.lines-test.false)) in
    document-done c.lines.number c.lines.draft _ _ (ap (λ (r : List ℕ). length (lines_of r)) none) (ne_eqb _ 0 c.if-draft-eq0.false) c.lines.invariant.0 ∙ ap {B = Result Document (ℕ × Cause)} (λ d. Ok d) (sym c.document.ensures)

pub lines-init : goal.lines-init
lines-init c = rw c.new-draft.ensures (refl, omega arith, fresh_bounds)

pub returns-clause-formed : goal.returns-clause-formed
returns-clause-formed c =
    let none : c.lines.rest.now ≡ [] = nil_from_length _ (eqb-true _ _ (sym c.is_empty.ensures ∙ c.lines-test.false)) in
    rw c.document.ensures (ended_formed c.lines.number c.lines.draft _ (lines_of c.args.bytes.now) refl (read-ended c.lines.number accept ends c.lines.draft _ _ (ap (λ (r : List ℕ). length (lines_of r)) none) c.lines.invariant.0) c.if-draft-eq0.false)
