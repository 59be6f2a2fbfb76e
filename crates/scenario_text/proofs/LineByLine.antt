-- What is kept by each step, of whose line something is known, is kept by each line.
use Rattle.std.proofs.Common.{◌≡◌, ℕ, List, [], ◌∷◌, subst}
use Rattle.std.specs.Prelude.{Ok, Option, Some, None}
use Rattle.line_text.specs.declared.token.Token.{Token}
use Rattle.line_text.specs.declared.token.Token.TheVariants.{Word, Number, Mark, Arrow}
use Rattle.line_text.specs.Texts.{line_tokens}
use Rattle.line_text.proofs.Guards.{bind_ok, ok_same}
use Rattle.spec_lines.specs.declared.line.SpecLine.{SpecLine}
use Rattle.spec_lines.specs.Forms.{spec_line}
use Rattle.scenario_lines.specs.declared.line.RunLine.{RunLine}
use Rattle.scenario_lines.specs.Forms.{run_line}
use Rattle.scenario_text.specs.declared.draft.Draft.{Draft}
use Rattle.scenario_text.specs.Draft.{take_spec, run_step}
use Rattle.scenario_text.specs.Reading.{accept, taken, taken_run, run_or_unknown, spec_or_run}

-- what each step keeps, where this is known of the line's tokens
pub record KeepsWith (Q : List Token → Type 0) (P : Draft → Type 0) : Type 0 where
  pub spec : (d e : Draft) (w : List ℕ) (ts : List Token) (line : SpecLine) → Q (Word w ∷ ts) → spec_line w ts ≡ Ok (Some line) → P d → take_spec d line ≡ Ok e → P e
  pub run : (d e : Draft) (w : List ℕ) (ts : List Token) (line : RunLine) → Q (Word w ∷ ts) → run_line w ts ≡ Ok (Some line) → P d → run_step d line ≡ Ok e → P e

run_found : (Q : List Token → Type 0) (P : Draft → Type 0) → KeepsWith Q P → (d e : Draft) (w : List ℕ) (ts : List Token) (found : Option RunLine) → Q (Word w ∷ ts) → run_line w ts ≡ Ok found → P d → run_or_unknown d found ≡ Ok e → P e
run_found Q P keeps d e w ts None q from h is = absurd cc
run_found Q P keeps d e w ts (Some line) q from h is = keeps.run d e w ts line q from h is

run_taken : (Q : List Token → Type 0) (P : Draft → Type 0) → KeepsWith Q P → (d e : Draft) (w : List ℕ) (ts : List Token) → Q (Word w ∷ ts) → P d → taken_run d w ts ≡ Ok e → P e
run_taken Q P keeps d e w ts q h is =
    let b = bind_ok (run_line w ts) (run_or_unknown d) e is in
    run_found Q P keeps d e w ts b.0 q b.1 h b.2

spec_found : (Q : List Token → Type 0) (P : Draft → Type 0) → KeepsWith Q P → (d e : Draft) (w : List ℕ) (ts : List Token) (found : Option SpecLine) → Q (Word w ∷ ts) → spec_line w ts ≡ Ok found → P d → spec_or_run d w ts found ≡ Ok e → P e
spec_found Q P keeps d e w ts None q from h is = run_taken Q P keeps d e w ts q h is
spec_found Q P keeps d e w ts (Some line) q from h is = keeps.spec d e w ts line q from h is

taken_keeps : (Q : List Token → Type 0) (P : Draft → Type 0) → KeepsWith Q P → (d e : Draft) (ts : List Token) → Q ts → P d → taken d ts ≡ Ok e → P e
unfolding taken
taken_keeps Q P keeps d e [] q h is = subst P (ok_same d e is) h
taken_keeps Q P keeps d e (Word w ∷ ts) q h is =
    let b = bind_ok (spec_line w ts) (spec_or_run d w ts) e is in
    spec_found Q P keeps d e w ts b.0 q b.1 h b.2
taken_keeps Q P keeps d e (Number n ∷ ts) q h is = absurd cc
taken_keeps Q P keeps d e (Mark b ∷ ts) q h is = absurd cc
taken_keeps Q P keeps d e (Arrow ∷ ts) q h is = absurd cc

-- what is kept by each step is kept by each line
pub line_keeps_with : (Q : List Token → Type 0) (P : Draft → Type 0) → KeepsWith Q P → (d e : Draft) (line : List ℕ) → ((ts : List Token) → line_tokens line ≡ Ok ts → Q ts) → P d → accept d line ≡ Ok e → P e
unfolding accept
line_keeps_with Q P keeps d e line known h is =
    let b = bind_ok (line_tokens line) (taken d) e is in
    taken_keeps Q P keeps d e b.0 (known b.0 b.1) h b.2

-- a line that is taken has tokens
pub accepted_tokens : (d e : Draft) (line : List ℕ) → accept d line ≡ Ok e → (ts : List Token) × (line_tokens line ≡ Ok ts)
unfolding accept
accepted_tokens d e line is =
    let b = bind_ok (line_tokens line) (taken d) e is in
    (b.0, b.1)
