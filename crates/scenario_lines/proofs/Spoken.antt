-- A line of a run that was read is read again from its canonical text.
use Rattle.std.proofs.Common.{◌≡◌, ℕ, List, ◌∷◌, sym, subst, ◌∙◌}
use Rattle.std.specs.Prelude.{Ok, Some}
use Rattle.std.specs.List.{AllByRecursion}
use Rattle.line_text.specs.declared.token.Token.{Token}
use Rattle.line_text.specs.declared.token.Token.TheVariants.{Word}
use Rattle.line_text.specs.Spelling.{IsSpelt, spell}
use Rattle.line_text.specs.Texts.{line_tokens}
use Rattle.line_text.proofs.Again.{TextRead, line_read, text_read}
use Rattle.scenario_lines.specs.declared.line.RunLine.{RunLine}
use Rattle.scenario_lines.specs.Forms.{run_line}
use Rattle.scenario_lines.specs.Texts.{line_text}
use Rattle.scenario_lines.proofs.Shapes.{parts_of_line, line_same, line_apart, line_spelt}
use Rattle.scenario_lines.proofs.Back.{line_back}

pub record IsSpoken (line : RunLine) : Type 0 where
  pub word : List ℕ
  pub tokens : List Token
  pub said : TextRead (line_text line) (Word word ∷ tokens)
  pub formed : run_line word tokens ≡ Ok (Some line)

pub spoken : (text w : List ℕ) (ts : List Token) (line : RunLine) → line_tokens text ≡ Ok (Word w ∷ ts) → run_line w ts ≡ Ok (Some line) → IsSpoken line
spoken text w ts line read formed =
    let r = line_read text (Word w ∷ ts) read in
    let same = line_same line ∙ sym (line_back w ts line formed) in
    let parts = text_read (parts_of_line line) (line_apart line) (subst (AllByRecursion IsSpelt) (sym same) r.spelt) (rw same r.small) in
    record { word = w; tokens = ts; said = subst (λ (bs : List ℕ). TextRead bs (Word w ∷ ts)) (line_spelt line) (subst (TextRead (spell (parts_of_line line))) same parts); formed = formed }
