-- A line of a run has the tokens that it was read from.
use Rattle.std.proofs.Common.{◌≡◌, ℕ, Bool, true, false, cond, List, [], ◌∷◌, refl, ap, subst, ◌∙◌}
use Rattle.std.specs.Prelude.{Option, Some, None, Result, Ok, codes}
use Rattle.std.specs.Str.{bytes_eq}
use Rattle.line_text.specs.declared.cause.Cause.{Cause}
use Rattle.line_text.specs.declared.token.Token.{Token}
use Rattle.line_text.specs.declared.token.Token.TheVariants.{Word, Number}
use Rattle.line_text.specs.Reads.{◌>>=◌}
use Rattle.line_text.specs.Forms.{after_mark, after_word, word_at, number_at, ended, list_at}
use Rattle.line_text.proofs.Inverse.{bind_some, some_same, same_bytes, word_read, number_read, this_word_read, ended_read, word_then, number_then, mark_then, list_last}
use Rattle.scenario_lines.specs.declared.argument.NamedArg.{NamedArg}
use Rattle.scenario_lines.specs.declared.argument.NamedArg.TheVariants as args
use Rattle.scenario_lines.specs.declared.line.RunLine.{RunLine}
use Rattle.scenario_lines.specs.declared.line.RunLine.TheVariants as lines
use Rattle.scenario_lines.specs.Arguments as arguments
use Rattle.scenario_lines.specs.Forms as forms
use Rattle.scenario_lines.proofs.Shapes.{arg_tokens, tokens_of_line}

-- ---- arguments

abbrev ArgRead : List Token → NamedArg → Type 0
ArgRead ts x = ts ≡ arg_tokens x

span_back : (lo : ℕ) (ts : List Token) (x : NamedArg) → arguments.span_behind lo ts ≡ Some x → ArgRead (Number lo ∷ ts) x
unfolding arguments.span_behind
span_back lo ts x e =
    let a = bind_some (after_mark 45 ts) _ x e in
    let b = bind_some (number_at a.0) _ x a.2 in
    let c = bind_some (ended b.0.1) _ x b.2 in
    subst (ArgRead (Number lo ∷ ts)) (some_same (args.Span lo b.0.0) x c.2) (ap (λ (us : List Token). Number lo ∷ us) (mark_then 45 ts a.0 _ a.1 (number_then a.0 b.0 [] b.1 (ended_read b.0.1 c.0 c.1))))

behind_back : (lo : ℕ) (ts : List Token) (x : NamedArg) → arguments.arg_behind lo ts ≡ Some x → ArgRead (Number lo ∷ ts) x
unfolding arguments.arg_behind
behind_back lo [] x e = ap arg_tokens (some_same (args.One lo) x e)
behind_back lo (t ∷ ts) x e = span_back lo (t ∷ ts) x e

arg_back : (ts : List Token) (x : NamedArg) → arguments.arg_item ts ≡ Some x → ArgRead ts x
unfolding arguments.arg_item
arg_back ts x e =
    let a = bind_some (number_at ts) _ x e in
    number_read ts a.0 a.1 ∙ behind_back a.0.0 a.0.1 x a.2

-- ---- lines

abbrev Read : List ℕ → List Token → RunLine → Type 0
Read word ts line = Word word ∷ ts ≡ tokens_of_line line

abbrev behind : List ℕ → List Token → List Token
behind word ts = Word word ∷ ts

alone_back : (ts : List Token) (n : ℕ) → forms.number_alone ts ≡ Some n → ts ≡ Number n ∷ []
unfolding forms.number_alone
alone_back ts n e =
    let a = bind_some (number_at ts) _ n e in
    let b = bind_some (ended a.0.1) _ n a.2 in
    subst (λ (m : ℕ). ts ≡ Number m ∷ []) (some_same a.0.0 n b.2) (number_then ts a.0 [] a.1 (ended_read a.0.1 b.0 b.1))

-- a word with one number
word_number : (word : List ℕ) (make : ℕ → RunLine) → ((n : ℕ) → Word word ∷ Number n ∷ [] ≡ tokens_of_line (make n)) → (ts : List Token) (line : RunLine) → (forms.number_alone ts >>= λ n. Some (make n)) ≡ Some line → Read word ts line
word_number word make said ts line e =
    let a = bind_some (forms.number_alone ts) _ line e in
    subst (Read word ts) (some_same (make a.0) line a.2) (ap (behind word) (alone_back ts a.0 a.1) ∙ said a.0)

replicas_back : (ts : List Token) (line : RunLine) → forms.replicas_form ts ≡ Some line → Read (codes "replicas") ts line
unfolding forms.replicas_form
replicas_back ts line e = word_number (codes "replicas") (λ n. lines.Replicas n) (λ n. refl) ts line e

crash_back : (ts : List Token) (line : RunLine) → forms.crash_form ts ≡ Some line → Read (codes "crash") ts line
unfolding forms.crash_form
crash_back ts line e = word_number (codes "crash") (λ n. lines.Crash n) (λ n. refl) ts line e

recover_back : (ts : List Token) (line : RunLine) → forms.recover_form ts ≡ Some line → Read (codes "recover") ts line
unfolding forms.recover_form
recover_back ts line e = word_number (codes "recover") (λ n. lines.Recover n) (λ n. refl) ts line e

turns_back : (ts : List Token) (line : RunLine) → forms.turns_form ts ≡ Some line → Read (codes "turns") ts line
unfolding forms.turns_form
turns_back ts line e = word_number (codes "turns") (λ n. lines.Turns n) (λ n. refl) ts line e

stop_back : (ts : List Token) (line : RunLine) → forms.stop_form ts ≡ Some line → Read (codes "stop") ts line
unfolding forms.stop_form
stop_back ts line e =
    let a = bind_some (number_at ts) _ line e in
    let b = bind_some (number_at a.0.1) _ line a.2 in
    let c = bind_some (number_at b.0.1) _ line b.2 in
    let d = bind_some (number_at c.0.1) _ line c.2 in
    let f = bind_some (ended d.0.1) _ line d.2 in
    subst (Read (codes "stop") ts) (some_same _ line f.2) (ap (behind (codes "stop")) (number_then ts a.0 _ a.1 (number_then a.0.1 b.0 _ b.1 (number_then b.0.1 c.0 _ c.1 (number_then c.0.1 d.0 [] d.1 (ended_read d.0.1 f.0 f.1))))))

do_back : (ts : List Token) (line : RunLine) → forms.do_form ts ≡ Some line → Read (codes "do") ts line
unfolding forms.do_form
do_back ts line e =
    let a = bind_some (number_at ts) _ line e in
    let b = bind_some (word_at a.0.1) _ line a.2 in
    let c = bind_some (list_at arguments.arg_item b.0.1) _ line b.2 in
    let d = bind_some (ended c.0.1) _ line c.2 in
    subst (Read (codes "do") ts) (some_same _ line d.2) (ap (behind (codes "do")) (number_then ts a.0 _ a.1 (word_then a.0.1 b.0 _ b.1 (list_last arguments.arg_item arg_tokens arg_back b.0.1 c.0 d.0 c.1 d.1))))

send_back : (ts : List Token) (line : RunLine) → forms.send_form ts ≡ Some line → Read (codes "send") ts line
unfolding forms.send_form
send_back ts line e =
    let a = bind_some (number_at ts) _ line e in
    let b = bind_some (number_at a.0.1) _ line a.2 in
    let c = bind_some (ended b.0.1) _ line b.2 in
    subst (Read (codes "send") ts) (some_same _ line c.2) (ap (behind (codes "send")) (number_then ts a.0 _ a.1 (number_then a.0.1 b.0 [] b.1 (ended_read b.0.1 c.0 c.1))))

take_back : (ts : List Token) (line : RunLine) → forms.take_form ts ≡ Some line → Read (codes "take") ts line
unfolding forms.take_form
take_back ts line e =
    let a = bind_some (number_at ts) _ line e in
    let b = bind_some (number_at a.0.1) _ line a.2 in
    let c = bind_some (number_at b.0.1) _ line b.2 in
    let d = bind_some (ended c.0.1) _ line c.2 in
    subst (Read (codes "take") ts) (some_same _ line d.2) (ap (behind (codes "take")) (number_then ts a.0 _ a.1 (number_then a.0.1 b.0 _ b.1 (number_then b.0.1 c.0 [] c.1 (ended_read c.0.1 d.0 d.1)))))

client_back : (ts : List Token) (line : RunLine) → forms.client_form ts ≡ Some line → Read (codes "client") ts line
unfolding forms.client_form
client_back ts line e =
    let a = bind_some (number_at ts) _ line e in
    let b = bind_some (after_word (codes "at") a.0.1) _ line a.2 in
    let c = bind_some (number_at b.0) _ line b.2 in
    let d = bind_some (ended c.0.1) _ line c.2 in
    subst (Read (codes "client") ts) (some_same _ line d.2) (ap (behind (codes "client")) (number_then ts a.0 _ a.1 (this_word_read (codes "at") a.0.1 b.0 b.1 ∙ ap (behind (codes "at")) (number_then b.0 c.0 [] c.1 (ended_read c.0.1 d.0 d.1)))))

abbrev AskRead : ℕ → List ℕ → List Token → RunLine → Type 0
AskRead client word ts line = Word (codes "ask") ∷ Number client ∷ Word word ∷ ts ≡ tokens_of_line line

ask_tested : (client : ℕ) (word this : List ℕ) (made line : RunLine) (t : Bool) (rest : Option RunLine) → bytes_eq word this ≡ t → AskRead client this [] made → (rest ≡ Some line → AskRead client word [] line) → cond t (Some made) rest ≡ Some line → AskRead client word [] line
ask_tested client word this made line true rest is said later e =
    subst (AskRead client word []) (some_same made line e) (ap (λ (w : List ℕ). Word (codes "ask") ∷ Number client ∷ Word w ∷ []) (same_bytes word this is) ∙ said)
ask_tested client word this made line false rest is said later e = later e

nothing : {A : Type 0} {x : A} → None ≡ Some x → ⊥
nothing h = absurd cc

ask_behind_back : (client : ℕ) (word : List ℕ) (ts : List Token) (line : RunLine) → forms.ask_behind client word ts ≡ Some line → AskRead client word ts line
unfolding forms.ask_behind
ask_behind_back client word [] line e =
    ask_tested client word (codes "crash") (lines.AskCrash client) line (bytes_eq word (codes "crash")) _ refl refl
    (λ f. ask_tested client word (codes "recover") (lines.AskRecover client) line (bytes_eq word (codes "recover")) None refl refl (λ h. absurd (nothing h)) f) e
ask_behind_back client word (t ∷ ts) line e =
    let a = bind_some (list_at arguments.arg_item (t ∷ ts)) _ line e in
    let b = bind_some (ended a.0.1) _ line a.2 in
    subst (AskRead client word (t ∷ ts)) (some_same _ line b.2) (ap (λ (us : List Token). Word (codes "ask") ∷ Number client ∷ Word word ∷ us) (list_last arguments.arg_item arg_tokens arg_back (t ∷ ts) a.0 b.0 a.1 b.1))

ask_back : (ts : List Token) (line : RunLine) → forms.ask_form ts ≡ Some line → Read (codes "ask") ts line
unfolding forms.ask_form
ask_back ts line e =
    let a = bind_some (number_at ts) _ line e in
    let b = bind_some (word_at a.0.1) _ line a.2 in
    ap (behind (codes "ask")) (number_then ts a.0 _ a.1 (word_read a.0.1 b.0 b.1)) ∙ ask_behind_back a.0.0 b.0.0 b.0.1 line b.2

abbrev found : RunLine → Result (Option RunLine) Cause
found line = Ok (Some line)

formed_back : (w : List ℕ) (ts : List Token) (o : Option RunLine) (line : RunLine) → (o ≡ Some line → Read w ts line) → forms.formed o ≡ Ok (Some line) → Read w ts line
formed_back w ts None line back e = absurd cc
formed_back w ts (Some x) line back e = back cc

-- the form of this word, or else a later one
chosen : (w v : List ℕ) (ts : List Token) (o : Option RunLine) (rest : Result (Option RunLine) Cause) (line : RunLine) (this : Bool) → bytes_eq w v ≡ this → (o ≡ Some line → Read v ts line) → (rest ≡ Ok (Some line) → Read w ts line) → cond this (forms.formed o) rest ≡ Ok (Some line) → Read w ts line
chosen w v ts o rest line true is back later e = ap (λ (u : List ℕ). Word u ∷ ts) (same_bytes w v is) ∙ formed_back v ts o line back e
chosen w v ts o rest line false is back later e = later e

none_found : (line : RunLine) → Ok None ≡ found line → ⊥
none_found line e = absurd cc

-- a line of a run has the tokens that it was read from
pub line_back : (w : List ℕ) (ts : List Token) (line : RunLine) → forms.run_line w ts ≡ Ok (Some line) → Word w ∷ ts ≡ tokens_of_line line
unfolding forms.run_line
line_back w ts line e =
    chosen w (codes "replicas") ts (forms.replicas_form ts) _ line (bytes_eq w (codes "replicas")) refl (replicas_back ts line)
    (chosen w (codes "stop") ts (forms.stop_form ts) _ line (bytes_eq w (codes "stop")) refl (stop_back ts line)
    (chosen w (codes "do") ts (forms.do_form ts) _ line (bytes_eq w (codes "do")) refl (do_back ts line)
    (chosen w (codes "send") ts (forms.send_form ts) _ line (bytes_eq w (codes "send")) refl (send_back ts line)
    (chosen w (codes "take") ts (forms.take_form ts) _ line (bytes_eq w (codes "take")) refl (take_back ts line)
    (chosen w (codes "crash") ts (forms.crash_form ts) _ line (bytes_eq w (codes "crash")) refl (crash_back ts line)
    (chosen w (codes "recover") ts (forms.recover_form ts) _ line (bytes_eq w (codes "recover")) refl (recover_back ts line)
    (chosen w (codes "turns") ts (forms.turns_form ts) _ line (bytes_eq w (codes "turns")) refl (turns_back ts line)
    (chosen w (codes "client") ts (forms.client_form ts) _ line (bytes_eq w (codes "client")) refl (client_back ts line)
    (chosen w (codes "ask") ts (forms.ask_form ts) _ line (bytes_eq w (codes "ask")) refl (ask_back ts line)
    (λ f. absurd (none_found line f))))))))))) e
