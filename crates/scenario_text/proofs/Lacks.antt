-- What a document lacks where no line of it holds a word of a group.
use Rattle.std.proofs.Common.{◌≡◌, ℕ, ◌+◌, ◌≤◌, Bool, true, false, cond, eqb, List, [], ◌∷◌, length, refl, sym, subst, ◌∙◌, arith}
use Rattle.std.specs.Prelude.{Result, Ok, Err, Some, None, nat_le}
use Rattle.std.specs.List.{AllByRecursion, list_any}
use Rattle.std.proofs.lemmas.Bool.{lt-leb}
use Rattle.line_text.specs.declared.cause.Cause.{Cause}
use Rattle.line_text.specs.declared.token.Token.{Token}
use Rattle.line_text.specs.Lines.{lines_of}
use Rattle.line_text.specs.Texts.{line_tokens}
use Rattle.line_text.specs.Bytes.{before_comment}
use Rattle.line_text.specs.Words.{is_among, is_one_of, runs_of, run_before}
use Rattle.line_text.proofs.Guards.{ok_same}
use Rattle.line_text.proofs.Again.{line_read}
use Rattle.line_text.proofs.Runs.{IsNoNumber, runs_hold, run_found, runs_ended}
use Rattle.line_text.proofs.Readings.{read_kept_with, read_taken}
use Rattle.scenario_lines.specs.declared.line.RunLine.{RunLine}
use Rattle.scenario_lines.specs.declared.line.RunLine.TheVariants as run_lines
use Rattle.scenario_lines.proofs.Shapes as run_shapes
use Rattle.scenario_lines.proofs.Back as run_back
use Rattle.run_model.specs.declared.step.Ask.TheVariants as asks
use Rattle.scenario_text.specs.declared.document.Work.TheVariants as works
use Rattle.scenario_text.specs.declared.document.Document.{Document}
use Rattle.scenario_text.specs.declared.draft.Draft.{Draft}
use Rattle.scenario_text.specs.declared.group.Group.{Group}
use Rattle.scenario_text.specs.declared.group.Group.TheVariants.{Schedule, Clients}
use Rattle.scenario_text.specs.Lacking.{HasNoOrder, IsLacking}
use Rattle.scenario_text.specs.Draft as drafts
use Rattle.scenario_text.specs.Groups.{schedule_words, client_words, words_of, HasTokens, holds, first_from, first_line}
use Rattle.scenario_text.specs.Reading.{accept, draft_of, document_of, document_of_draft}
use Rattle.scenario_text.proofs.LineByLine.{KeepsWith, line_keeps_with, accepted_tokens}
use Rattle.scenario_text.proofs.Taken as takens

-- ---- lines that hold none of the words

abbrev Lacks : List (List ℕ) → List Token → Type 0
Lacks words ts = list_any (is_among words) ts ≡ false

abbrev HoldsNone : List (List ℕ) → List ℕ → Type 0
HoldsNone words line = holds words line ≡ false

none_from : (words : List (List ℕ)) (number : ℕ) (line : List ℕ) (lines : List (List ℕ)) (here : Bool) → holds words line ≡ here → cond here (Some number) (first_from words (number + 1) lines) ≡ None → (HoldsNone words line) × (first_from words (number + 1) lines ≡ None)
none_from words number line lines true is e = absurd cc
none_from words number line lines false is e = (is, e)

none_hold : (words : List (List ℕ)) (number : ℕ) (lines : List (List ℕ)) → first_from words number lines ≡ None → AllByRecursion (HoldsNone words) lines
none_hold words number [] e = tt
none_hold words number (line ∷ lines) e =
    let h = none_from words number line lines (holds words line) refl e in
    (h.0, none_hold words (number + 1) lines h.1)

tokens_lack : (words : List (List ℕ)) (line : List ℕ) → HoldsNone words line → (ts : List Token) → line_tokens line ≡ Ok ts → Lacks words ts
unfolding holds
tokens_lack words line none ts read = rw read at none

-- ---- no line of clients, no line of a schedule

abbrev NoClients : Draft → Type 0
NoClients d = d.rank ≤ 9

run_no_clients : (d e : Draft) (line : RunLine) → Lacks client_words (run_shapes.tokens_of_line line) → NoClients d → drafts.run_step d line ≡ Ok e → NoClients e
unfolding drafts.run_step
run_no_clients d e (run_lines.Replicas n) lacks h is = subst NoClients (takens.replicas_taken d e n is).whole (omega arith)
run_no_clients d e (run_lines.Stop replica call keep fill) lacks h is = subst NoClients (takens.stop_taken d e replica call keep fill is).whole (omega arith)
run_no_clients d e (run_lines.Do replica op xs) lacks h is = subst NoClients (takens.do_taken d e replica op xs is).order.whole (omega arith)
run_no_clients d e (run_lines.Send replica peer) lacks h is = subst NoClients (takens.send_taken d e replica peer is).whole (omega arith)
run_no_clients d e (run_lines.Take replica peer number) lacks h is = subst NoClients (takens.take_taken d e replica peer number is).order.whole (omega arith)
run_no_clients d e (run_lines.Crash replica) lacks h is = subst NoClients (takens.alone_taken d e replica asks.Crash is).order.whole (omega arith)
run_no_clients d e (run_lines.Recover replica) lacks h is = subst NoClients (takens.alone_taken d e replica asks.Recover is).order.whole (omega arith)
run_no_clients d e (run_lines.Turns turns) lacks h is = absurd cc
run_no_clients d e (run_lines.Client client home) lacks h is = absurd cc
run_no_clients d e (run_lines.AskDo client op xs) lacks h is = absurd cc
run_no_clients d e (run_lines.AskCrash client) lacks h is = absurd cc
run_no_clients d e (run_lines.AskRecover client) lacks h is = absurd cc

no_clients_kept : KeepsWith (Lacks client_words) NoClients
no_clients_kept = record {
  spec = λ d e w ts line lacks from h is. subst NoClients (takens.spec_taken d e line is).whole h;
  run = λ d e w ts line lacks from h is. run_no_clients d e line (subst (Lacks client_words) (run_back.line_back w ts line from) lacks) h is;
}

abbrev NoOrders : Draft → Type 0
NoOrders d = d.orders ≡ []

run_no_orders : (d e : Draft) (line : RunLine) → Lacks schedule_words (run_shapes.tokens_of_line line) → NoOrders d → drafts.run_step d line ≡ Ok e → NoOrders e
unfolding drafts.run_step
run_no_orders d e (run_lines.Replicas n) lacks h is = subst NoOrders (takens.replicas_taken d e n is).whole h
run_no_orders d e (run_lines.Stop replica call keep fill) lacks h is = subst NoOrders (takens.stop_taken d e replica call keep fill is).whole h
run_no_orders d e (run_lines.Do replica op xs) lacks h is = absurd cc
run_no_orders d e (run_lines.Send replica peer) lacks h is = absurd cc
run_no_orders d e (run_lines.Take replica peer number) lacks h is = absurd cc
run_no_orders d e (run_lines.Crash replica) lacks h is = absurd cc
run_no_orders d e (run_lines.Recover replica) lacks h is = absurd cc
run_no_orders d e (run_lines.Turns turns) lacks h is = subst NoOrders (takens.turns_taken d e turns is).whole h
run_no_orders d e (run_lines.Client client home) lacks h is = subst NoOrders (takens.client_taken d e client home is).whole h
run_no_orders d e (run_lines.AskDo client op xs) lacks h is = subst NoOrders (takens.request_taken d e client op xs is).ask.whole h
run_no_orders d e (run_lines.AskCrash client) lacks h is = subst NoOrders (takens.ask_alone_taken d e client asks.Crash is).ask_taken.whole h
run_no_orders d e (run_lines.AskRecover client) lacks h is = subst NoOrders (takens.ask_alone_taken d e client asks.Recover is).ask_taken.whole h

no_orders_kept : KeepsWith (Lacks schedule_words) NoOrders
no_orders_kept = record {
  spec = λ d e w ts line lacks from h is. subst NoOrders (takens.spec_taken d e line is).whole h;
  run = λ d e w ts line lacks from h is. run_no_orders d e line (subst (Lacks schedule_words) (run_back.line_back w ts line from) lacks) h is;
}

-- ---- whole documents

ended_same : (d e : Draft) (none : Bool) (c : Cause) → cond none (Err c) (Ok d) ≡ Ok e → d ≡ e
ended_same d e true c is = absurd cc
ended_same d e false c is = ok_same d e is

-- what every line keeps that holds none of the words holds of what is read where none does
none_kept : (words : List (List ℕ)) (P : Draft → Type 0) → KeepsWith (Lacks words) P → P drafts.fresh → (lines : List (List ℕ)) (d : Draft) → AllByRecursion (HoldsNone words) lines → draft_of lines ≡ Ok d → P d
none_kept words P keeps fresh lines d none is =
    read_kept_with (HoldsNone words) P accept drafts.ends (λ a b line lacks h e. line_keeps_with (Lacks words) P keeps a b line (tokens_lack words line lacks) h e) (λ a b h e. subst P (ended_same a b (eqb a.replicas 0) _ e) h) lines 1 drafts.fresh d none fresh is

work_empty : (d : Draft) (late : Bool) → d.orders ≡ [] → HasNoOrder (cond late (works.Clients d.turns d.homes d.asks) (works.Schedule d.orders))
work_empty d true h = tt
work_empty d false h = h

draft_lacks : (group : Group) (lines : List (List ℕ)) (d : Draft) → AllByRecursion (HoldsNone (words_of group)) lines → draft_of lines ≡ Ok d → IsLacking group (drafts.document_from d)
draft_lacks Schedule lines d none is = work_empty d (nat_le 10 d.rank) (none_kept schedule_words NoOrders no_orders_kept refl lines d none is)
draft_lacks Clients lines d none is =
    let h = none_kept client_words NoClients no_clients_kept (omega arith) lines d none is in
    (d.orders, rw (lt-leb 10 d.rank (omega (arith, h))) refl)

abbrev given : Document → Result Document (ℕ × Cause)
given d = Ok d

of_draft : (group : Group) (lines : List (List ℕ)) (r : Result Draft (ℕ × Cause)) (d : Document) → AllByRecursion (HoldsNone (words_of group)) lines → draft_of lines ≡ r → document_of_draft r ≡ Ok d → IsLacking group d
of_draft group lines (Ok x) d none is e = subst (IsLacking group) (same x d e) (draft_lacks group lines x none is)
  where
    same : (a : Draft) (b : Document) → given (drafts.document_from a) ≡ given b → drafts.document_from a ≡ b
    same a b q = cc
of_draft group lines (Err c) d none is e = absurd cc

-- a document in which no line holds a word of the group
pub lacking : (group : Group) (bytes : List ℕ) (d : Document) → document_of bytes ≡ Ok d → first_line (words_of group) (lines_of bytes) ≡ None → IsLacking group d
lacking group bytes d is none = of_draft group (lines_of bytes) (draft_of (lines_of bytes)) d (none_hold (words_of group) 1 (lines_of bytes) none) refl is

lines_tokens : (lines : List (List ℕ)) (r : Result Draft (ℕ × Cause)) (d : Document) → draft_of lines ≡ r → document_of_draft r ≡ Ok d → AllByRecursion HasTokens lines
lines_tokens lines (Ok x) d is e = read_taken HasTokens accept drafts.ends accepted_tokens lines 1 drafts.fresh x is
lines_tokens lines (Err c) d is e = absurd cc

-- every line of a document has tokens
pub all_tokens : (bytes : List ℕ) (d : Document) → document_of bytes ≡ Ok d → AllByRecursion HasTokens (lines_of bytes)
all_tokens bytes d is = lines_tokens (lines_of bytes) (draft_of (lines_of bytes)) d refl is

-- ---- words among the runs of a line

names_begin : (group : Group) → AllByRecursion IsNoNumber (words_of group)
names_begin Schedule = (refl, (refl, (refl, (refl, (refl, tt)))))
names_begin Clients = (refl, (refl, (refl, tt)))

line_holds : (group : Group) (line : List ℕ) → HasTokens line → holds (words_of group) line ≡ list_any (is_one_of (words_of group)) (runs_of (before_comment line))
unfolding holds
line_holds group line known = rw (known.1) (runs_hold (words_of group) (names_begin group) (before_comment line) known.0 (line_read line known.0 known.1).read)

-- a run of the line is a word of the group
pub run_holds : (group : Group) (line rest run others : List ℕ) → HasTokens line → runs_of rest ≡ run_before run (runs_of others) → is_one_of (words_of group) run ≡ true
    → list_any (is_one_of (words_of group)) (runs_of rest) ≡ list_any (is_one_of (words_of group)) (runs_of (before_comment line)) → true ≡ holds (words_of group) line
run_holds group line rest run others known split found so_far = sym (line_holds group line known ∙ sym so_far ∙ run_found (words_of group) (names_begin group) rest run others split found)

-- no run is left
pub none_holds : (group : Group) (line rest : List ℕ) → HasTokens line → length rest ≡ 0
    → list_any (is_one_of (words_of group)) (runs_of rest) ≡ list_any (is_one_of (words_of group)) (runs_of (before_comment line)) → false ≡ holds (words_of group) line
none_holds group line rest known none so_far = sym (line_holds group line known ∙ sym so_far ∙ runs_ended (words_of group) rest none)
