use Rattle.std.proofs.Common.{◌≡◌, List, ℕ, [], refl, sym, ap, ◌∙◌, arith}
use Rattle.std.proofs.lemmas.Bool.{eqb-true}
use Rattle.std.proofs.lemmas.List.{nil_from_length}
use Rattle.line_text.specs.Lines.{lines_of}
use Rattle.scenario_text.specs.Groups.{words_of, first_from}
use Rattle.scenario_text.proofs.Lacks.{lacking, all_tokens}
use Rattle.scenario_text.proofs.group.first_of.Goals as goal

pub lines-init : goal.lines-init
lines-init c = (refl, all_tokens c.args.bytes.now c.requires.document.0 c.requires.document.1, omega arith)

pub returns-clause-lacking : goal.returns-clause-lacking
returns-clause-lacking c =
    let none : c.lines.rest.now ≡ [] = nil_from_length _ (eqb-true _ _ (sym c.is_empty.ensures ∙ c.lines-test.false)) in
    λ d is nothing. lacking c.args.group c.args.bytes.now d is (sym c.lines.invariant.0 ∙ ap (λ (r : List ℕ). first_from (words_of c.args.group) c.lines.number (lines_of r)) none)
