-- Lines that are taken where they stand.
use Rattle.std.proofs.Common.{◌≡◌, ℕ, ◌+◌, Bool, true, false, List, [], ◌∷◌, refl, sym, ap, subst, ◌∙◌}
use Rattle.std.specs.Prelude.{Some, Result, Ok, Err, codes}
use Rattle.std.specs.Str.{bytes_eq}
use Rattle.line_text.specs.declared.token.Token.{Token}
use Rattle.line_text.specs.declared.token.Token.TheVariants.{Word}
use Rattle.line_text.specs.declared.cause.Cause.{Cause}
use Rattle.line_text.specs.declared.cause.LineError.{LineError}
use Rattle.line_text.specs.declared.cause.LineError.TheVariants as errors
use Rattle.line_text.specs.Causes.{Fails}
use Rattle.line_text.specs.Forms.{word_at, ended}
use Rattle.line_text.specs.Next.{IsNext, IsLine}
use Rattle.line_text.specs.Tokens.{tokens_of, before, is_within, all_within, are_small}
use Rattle.line_text.proofs.Guards.{and_true}
use Rattle.spec_lines.specs.declared.line.SpecLine.{SpecLine}
use Rattle.spec_lines.specs.declared.line.SpecLine.TheVariants as spec_lines
use Rattle.spec_lines.specs.Forms.{spec_line, free_form}
use Rattle.scenario_lines.specs.declared.argument.NamedArg.{NamedArg}
use Rattle.scenario_lines.specs.declared.line.RunLine.{RunLine}
use Rattle.scenario_lines.specs.declared.line.RunLine.TheVariants as lines
use Rattle.scenario_lines.specs.Forms.{run_line, number_alone, do_form, send_form, take_form, crash_form, recover_form, ask_form}
use Rattle.scenario_lines.specs.InPlace.{are_modest, IsRead, IsRequestRead}
use Rattle.scenario_text.specs.declared.draft.Draft.{Draft}
use Rattle.scenario_text.specs.Draft.{take_spec, take_do, take_request, run_step}
use Rattle.scenario_text.specs.Reading.{accept, taken}
use Rattle.scenario_text.specs.InPlace.{IsAnswered, IsTaken, IsAccepted}

-- ---- what a line word and its form take

do_taken : (d : Draft) (ts : List Token) (line : RunLine) → do_form ts ≡ Some line → taken d (Word (codes "do") ∷ ts) ≡ run_step d line
unfolding taken spec_line run_line
do_taken d ts line is = rw is refl

ask_taken : (d : Draft) (ts : List Token) (line : RunLine) → ask_form ts ≡ Some line → taken d (Word (codes "ask") ∷ ts) ≡ run_step d line
unfolding taken spec_line run_line
ask_taken d ts line is = rw is refl

crash_taken : (d : Draft) (ts : List Token) (n : ℕ) → number_alone ts ≡ Some n → taken d (Word (codes "crash") ∷ ts) ≡ run_step d (lines.Crash n)
unfolding taken spec_line run_line crash_form
crash_taken d ts n is = rw is refl

recover_taken : (d : Draft) (ts : List Token) (n : ℕ) → number_alone ts ≡ Some n → taken d (Word (codes "recover") ∷ ts) ≡ run_step d (lines.Recover n)
unfolding taken spec_line run_line recover_form
recover_taken d ts n is = rw is refl

send_taken : (d : Draft) (ts : List Token) (line : RunLine) → send_form ts ≡ Some line → taken d (Word (codes "send") ∷ ts) ≡ run_step d line
unfolding taken spec_line run_line
send_taken d ts line is = rw is refl

take_taken : (d : Draft) (ts : List Token) (line : RunLine) → take_form ts ≡ Some line → taken d (Word (codes "take") ∷ ts) ≡ run_step d line
unfolding taken spec_line run_line
take_taken d ts line is = rw is refl

free_taken : (d : Draft) (ts : List Token) (line : SpecLine) → free_form ts ≡ Some line → taken d (Word (codes "free") ∷ ts) ≡ take_spec d line
unfolding taken spec_line
free_taken d ts line is = rw is refl

do_step : (d : Draft) (replica : ℕ) (op : List ℕ) (xs : List NamedArg) → run_step d (lines.Do replica op xs) ≡ take_do d replica op xs
unfolding run_step
do_step d replica op xs = refl

ask_step : (d : Draft) (client : ℕ) (op : List ℕ) (xs : List NamedArg) → run_step d (lines.AskDo client op xs) ≡ take_request d client op xs
unfolding run_step
ask_step d client op xs = refl

pub ask_answered : (d : Draft) (client : ℕ) (op : List ℕ) (xs : List NamedArg) (bytes : List ℕ) (answer : Result Draft Cause) → IsRequestRead client op xs bytes → take_request d client op xs ≡ answer → IsAnswered d (codes "ask") bytes answer
ask_answered d client op xs bytes answer h is =
    record { tokens = h.1.tokens; read = h.1.read; modest = h.1.modest; no_stop = refl; gives = ask_taken d h.1.tokens (lines.AskDo client op xs) h.1.formed ∙ ask_step d client op xs ∙ is }

pub crash_answered : (d : Draft) (n : ℕ) (bytes : List ℕ) (answer : Result Draft Cause) → IsRead number_alone n bytes → run_step d (lines.Crash n) ≡ answer → IsAnswered d (codes "crash") bytes answer
crash_answered d n bytes answer h is = record { tokens = h.tokens; read = h.read; modest = h.modest; no_stop = refl; gives = crash_taken d h.tokens n h.formed ∙ is }

pub recover_answered : (d : Draft) (n : ℕ) (bytes : List ℕ) (answer : Result Draft Cause) → IsRead number_alone n bytes → run_step d (lines.Recover n) ≡ answer → IsAnswered d (codes "recover") bytes answer
recover_answered d n bytes answer h is = record { tokens = h.tokens; read = h.read; modest = h.modest; no_stop = refl; gives = recover_taken d h.tokens n h.formed ∙ is }

pub do_answered : (d : Draft) (replica : ℕ) (op : List ℕ) (xs : List NamedArg) (bytes : List ℕ) (answer : Result Draft Cause) → IsRequestRead replica op xs bytes → take_do d replica op xs ≡ answer → IsAnswered d (codes "do") bytes answer
do_answered d replica op xs bytes answer h is =
    record { tokens = h.0.tokens; read = h.0.read; modest = h.0.modest; no_stop = refl; gives = do_taken d h.0.tokens (lines.Do replica op xs) h.0.formed ∙ do_step d replica op xs ∙ is }

pub send_answered : (d : Draft) (line : RunLine) (bytes : List ℕ) (answer : Result Draft Cause) → IsRead send_form line bytes → run_step d line ≡ answer → IsAnswered d (codes "send") bytes answer
send_answered d line bytes answer h is = record { tokens = h.tokens; read = h.read; modest = h.modest; no_stop = refl; gives = send_taken d h.tokens line h.formed ∙ is }

pub take_answered : (d : Draft) (line : RunLine) (bytes : List ℕ) (answer : Result Draft Cause) → IsRead take_form line bytes → run_step d line ≡ answer → IsAnswered d (codes "take") bytes answer
take_answered d line bytes answer h is = record { tokens = h.tokens; read = h.read; modest = h.modest; no_stop = refl; gives = take_taken d h.tokens line h.formed ∙ is }

free_read : (first second : List ℕ) → free_form (Word first ∷ Word second ∷ []) ≡ Some (spec_lines.Free first second)
unfolding free_form word_at ended
free_read first second = refl

pub free_answered : (d : Draft) (first second bytes rest behind : List ℕ) (answer : Result Draft Cause) → IsNext (Word first) bytes rest → IsNext (Word second) rest behind → tokens_of behind ≡ Some []
    → take_spec d (spec_lines.Free first second) ≡ answer → IsAnswered d (codes "free") bytes answer
free_answered d first second bytes rest behind answer one two none is =
    record {
      tokens = Word first ∷ Word second ∷ [];
      read = one ∙ ap (before (Some (Word first))) (two ∙ ap (before (Some (Word second))) none);
      modest = refl;
      no_stop = refl;
      gives = free_taken d (Word first ∷ Word second ∷ []) (spec_lines.Free first second) (free_read first second) ∙ is;
    }

-- a step that failed
pub failed : (error : LineError) (d e : Draft) (word bytes : List ℕ) (read : Result Draft Cause) → Fails error read → ((answer : Result Draft Cause) → read ≡ answer → IsAnswered d word bytes answer) → IsTaken d word bytes (Err error) e
failed errors.Memory d e word bytes read is h = tt
failed (errors.Refused cause) d e word bytes read is h = h (Err cause) is

-- ---- the whole line

modest_within : (place : ℕ) (ts : List Token) → are_modest ts ≡ true → all_within false place ts ≡ true
modest_within place [] e = refl
modest_within place (t ∷ ts) e =
    let h = and_true (is_within 1000000000000 t) (are_modest ts) e in
    rw (h.0, modest_within (place + 1) ts h.1) refl

small : (word : List ℕ) (ts : List Token) → bytes_eq word (codes "stop") ≡ false → are_modest ts ≡ true → are_small (Word word ∷ ts) ≡ true
unfolding are_small
small word ts no_stop modest = subst (λ (stop : Bool). all_within stop 1 ts ≡ true) (sym no_stop) (modest_within 1 ts modest)

whole : (d : Draft) (line word bytes : List ℕ) (answer : Result Draft Cause) → IsLine line → IsNext (Word word) line bytes → IsAnswered d word bytes answer → accept d line ≡ answer
unfolding accept
whole d line word bytes answer is_line next h =
    let tokens = is_line (Word word ∷ h.tokens) (next ∙ ap (before (Some (Word word))) h.read) (small word h.tokens h.no_stop h.modest) in
    rw tokens h.gives

pub accepted : (d e : Draft) (line word bytes : List ℕ) (result : Result Bool LineError) → IsLine line → IsNext (Word word) line bytes → IsTaken d word bytes result e → IsAccepted d line result e
accepted d e line word bytes (Ok true) is_line next h = whole d line word bytes (Ok e) is_line next h
accepted d e line word bytes (Ok false) is_line next h = h
accepted d e line word bytes (Err errors.Memory) is_line next h = tt
accepted d e line word bytes (Err (errors.Refused cause)) is_line next h = whole d line word bytes (Err cause) is_line next h
