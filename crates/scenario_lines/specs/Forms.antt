-- The form of each line of a run, behind its line word.
use Rattle.std.specs.Prelude.{◌≡◌, ℕ, List, [], ◌∷◌, Option, Some, None, if◌then◌else◌, codes, Result, Ok, Err}
use Rattle.std.specs.Str.{bytes_eq}
use Rattle.line_text.specs.declared.token.Token.{Token}
use Rattle.line_text.specs.declared.cause.Cause.{Cause}
use Rattle.line_text.specs.declared.cause.Cause.TheVariants as causes
use Rattle.line_text.specs.declared.cause.FormError.{FormError}
use Rattle.line_text.specs.declared.cause.FormError.TheVariants as forms
use Rattle.line_text.specs.declared.cause.LineError.{LineError}
use Rattle.line_text.specs.declared.cause.LineError.TheVariants as errors
use Rattle.line_text.specs.Reads.{◌>>=◌}
use Rattle.line_text.specs.Forms.{after_word, word_at, number_at, ended, list_at}
use Rattle.scenario_lines.specs.declared.line.RunLine.{RunLine}
use Rattle.scenario_lines.specs.declared.line.RunLine.TheVariants as lines
use Rattle.scenario_lines.specs.Arguments.{arg_item}

-- one number and nothing behind it
unfoldable pub number_alone : List Token → Option ℕ
number_alone ts = do
  n ← number_at ts
  e ← ended n.1
  Some n.0

-- replicas N
unfoldable pub replicas_form : List Token → Option RunLine
replicas_form ts = number_alone ts >>= λ n. Some (lines.Replicas n)

-- stop R CALL KEEP FILL
unfoldable pub stop_form : List Token → Option RunLine
stop_form ts = do
  replica ← number_at ts
  call ← number_at replica.1
  keep ← number_at call.1
  fill ← number_at keep.1
  e ← ended fill.1
  Some (lines.Stop replica.0 call.0 keep.0 fill.0)

-- do R NAME(ARG,ARG)
unfoldable pub do_form : List Token → Option RunLine
do_form ts = do
  replica ← number_at ts
  name ← word_at replica.1
  args ← list_at arg_item name.1
  e ← ended args.1
  Some (lines.Do replica.0 name.0 args.0)

-- send R PEER
unfoldable pub send_form : List Token → Option RunLine
send_form ts = do
  replica ← number_at ts
  peer ← number_at replica.1
  e ← ended peer.1
  Some (lines.Send replica.0 peer.0)

-- take R PEER K
unfoldable pub take_form : List Token → Option RunLine
take_form ts = do
  replica ← number_at ts
  peer ← number_at replica.1
  number ← number_at peer.1
  e ← ended number.1
  Some (lines.Take replica.0 peer.0 number.0)

-- crash R
unfoldable pub crash_form : List Token → Option RunLine
crash_form ts = number_alone ts >>= λ n. Some (lines.Crash n)

-- recover R
unfoldable pub recover_form : List Token → Option RunLine
recover_form ts = number_alone ts >>= λ n. Some (lines.Recover n)

-- turns T
unfoldable pub turns_form : List Token → Option RunLine
turns_form ts = number_alone ts >>= λ n. Some (lines.Turns n)

-- client C at R
unfoldable pub client_form : List Token → Option RunLine
client_form ts = do
  client ← number_at ts
  behind ← after_word (codes "at") client.1
  home ← number_at behind
  e ← ended home.1
  Some (lines.Client client.0 home.0)

-- ask C crash, ask C recover
abbrev pub ask_alone : ℕ → List ℕ → Option RunLine
ask_alone client word =
    if bytes_eq word (codes "crash") then Some (lines.AskCrash client)
    else (if bytes_eq word (codes "recover") then Some (lines.AskRecover client) else None)

-- behind ask C and a word: nothing, or (ARG,ARG)
unfoldable pub ask_behind : ℕ → List ℕ → List Token → Option RunLine
ask_behind client word [] = ask_alone client word
ask_behind client word (t ∷ ts) = do
  args ← list_at arg_item (t ∷ ts)
  e ← ended args.1
  Some (lines.AskDo client word args.0)

-- ask C NAME(ARG,ARG), ask C crash, ask C recover
unfoldable pub ask_form : List Token → Option RunLine
ask_form ts = do
  client ← number_at ts
  word ← word_at client.1
  ask_behind client.0 word.0 word.1

-- a line with a line word of a run follows that word's form
abbrev pub formed : Option RunLine → Result (Option RunLine) Cause
formed None = Err causes.BadForm
formed (Some line) = Ok (Some line)

-- the same as an answer of the code
abbrev pub Formed : Result RunLine FormError → Result (Option RunLine) LineError → Type 0
Formed (Ok line) result = result ≡ Ok (Some line)
Formed (Err forms.Memory) result = result ≡ Err errors.Memory
Formed (Err forms.Refused) result = result ≡ Err (errors.Refused causes.BadForm)

-- what the line with this first word says; nothing, where it is no line word of a run
unfoldable pub run_line : List ℕ → List Token → Result (Option RunLine) Cause
run_line word ts =
    if bytes_eq word (codes "replicas") then formed (replicas_form ts)
    else (if bytes_eq word (codes "stop") then formed (stop_form ts)
    else (if bytes_eq word (codes "do") then formed (do_form ts)
    else (if bytes_eq word (codes "send") then formed (send_form ts)
    else (if bytes_eq word (codes "take") then formed (take_form ts)
    else (if bytes_eq word (codes "crash") then formed (crash_form ts)
    else (if bytes_eq word (codes "recover") then formed (recover_form ts)
    else (if bytes_eq word (codes "turns") then formed (turns_form ts)
    else (if bytes_eq word (codes "client") then formed (client_form ts)
    else (if bytes_eq word (codes "ask") then formed (ask_form ts)
    else Ok None)))))))))
