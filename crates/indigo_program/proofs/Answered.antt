-- The answers of the program, and why they are complete.
use Rattle.std.proofs.Common.{◌≡◌, ◌≢◌, inl, inr, ℕ, ◌+◌, ◌^◌, ◌<◌, ◌≤◌, Bool, true, false, cond, ltb, ◌&&◌, List, [], ◌∷◌, ◌++◌, length, map, get_or, take, drop, refl, sym, ap, subst, ◌∙◌, arith}
use Rattle.std.specs.Prelude.{◌⊎◌, Option, Some, None, Result, Ok, Err, IfNone, IfSome, IsErrOf, codes, decimal}
use Rattle.std.proofs.lemmas.Bool.{ltb-true}
use Rattle.ind_base.specs.Numbers.{is_canonical, num_of, value_after}
use Rattle.std.specs.Io.KnownBytes.{Appends, Consumes, IsAtEnd, Keeps}
use Rattle.std.proofs.lemmas.List.{append-nil, take-append-drop, length-append, length-map}
use Rattle.ind_io.specs.Streams.{ConsumesJust}
use Rattle.line_text.specs.declared.cause.Cause.{Cause}
use Rattle.line_text.specs.Lines.{lines_of}
use Rattle.run_model.specs.declared.step.Order.{Order}
use Rattle.scenario_text.specs.declared.document.Document.{Document}
use Rattle.scenario_text.specs.declared.document.Work.{Work}
use Rattle.scenario_text.specs.declared.document.Work.TheVariants as works
use Rattle.scenario_text.specs.Reading.{document_of}
use Rattle.indigo_program.specs.declared.command.Command.{Command}
use Rattle.indigo_program.specs.declared.command.Command.TheVariants as commands
use Rattle.request_workers.specs.Histories.{Bays}
use Rattle.indigo_program.specs.Headline.{Stream, Failed, WasRead, WasBegun, AreKnown, AsksSoak, IsNamed, IsReply, IsSoaked, IsSoakOwed, IsAnswerBy, IsAnswerTo, IsAnswered, IsComplete, IsOwed, IsOwedBy, IsOwedWhere, IsReplyBy, IsScheduleAnswer, Makes, Succeeds, input_limit}
use Rattle.indigo_program.specs.Inputs.{IsInputOf, IsOfClients, Refuses, document_before}
use Rattle.std.specs.List.{find}
use Rattle.spec_model.specs.declared.plan.Plan.{Plan}
use Rattle.spec_model.specs.declared.spec.Spec.{Spec}
use Rattle.ground_clauses.specs.Cases.{touched_cases}
use Rattle.ground_clauses.specs.declared.case.Case.{Case}
use Rattle.certificate_check.specs.Checks.{Checks, verdict_of}
use Rattle.certificate_check.specs.Reading.{read_of}
use Rattle.certificate_check.specs.declared.certificate.Certificate.{Certificate}
use Rattle.certificate_check.specs.declared.reading.Read.{Read}
use Rattle.certificate_check.specs.declared.reading.Read.TheVariants as reads
use Rattle.certificate_check.specs.declared.verdict.Verdict.{Verdict}
use Rattle.certificate_check.specs.declared.verdict.Verdict.TheVariants as verdicts
use Rattle.certificate_check.specs.declared.verdict.Why.{Why}
use Rattle.certificate_check.proofs.Verdicts.{yes_checks}
use Rattle.reservation_plan.specs.Ends.{ends}
use Rattle.plan_answers.specs.Analysing as analyses
use Rattle.plan_answers.specs.Analysing.{HasPlan, IsPlanless}
use Rattle.plan_answers.specs.Checking as checks
use Rattle.plan_answers.specs.Checking.{HasYes}
use Rattle.plan_answers.specs.Splitting.{document_lines, plan_lines}
use Rattle.indigo_program.specs.Finishing.{Finishes}

pub err_is : {T E : Type 0} (x e : E) → x ≡ e → IsErrOf {T = T} {E = E} (Err x) e
err_is {T} {E} x e is = ap (λ (y : E). let r : Result T E = Err y in r) is

-- where nothing was taken all is as before
pub keeps_all : (a : Option (List ℕ)) → Keeps a a
keeps_all None = tt
keeps_all (Some xs) = refl

-- a reply that is written whole, or cut off
pub finished_by : (Reply : ℕ → List ℕ → Type 0) (Begun : Type 0) (sink : Stream) (status result : ℕ) (text put : List ℕ) → Reply status text → put ≡ text
    → Finishes sink.before sink.after sink.faults_before sink.faults_after put status result → IsAnswerBy Reply Begun sink result
finished_by Reply Begun sink status result text put reply is (inl w) =
    inl (record { text = text; reply = subst (λ n. Reply n text) (sym w.0) reply; out = subst (Appends sink.before sink.after) is w.1 })
finished_by Reply Begun sink status result text put reply is (inr w) =
    let cut = w.2 in
    inr (inl (
      w.0,
      record {
        status = status;
        text = text;
        front = take cut.0 text;
        behind = drop cut.0 text;
        reply = reply;
        failed = w.1;
        parts = sym (take-append-drop cut.0 text);
        out = subst (λ (t : List ℕ). Appends sink.before sink.after (take cut.0 t)) is cut.2;
      },
    ))

pub finished : (words : List (List ℕ)) (source sink : Stream) (bays : Bays) (status result : ℕ) (text put : List ℕ) → IsReply words source bays status text → put ≡ text
    → Finishes sink.before sink.after sink.faults_before sink.faults_after put status result → IsAnswered words source sink bays result
finished words source sink bays = finished_by (IsReply words source bays) (WasBegun words source bays) sink

-- the first letter
abbrev letter : List (List ℕ) → ℕ
letter [] = 0
letter ([] ∷ words) = 0
letter ((b ∷ bs) ∷ words) = b

letters_differ : {A : Type 0} (a b : ℕ) → a ≡ b → a ≢ b → A
letters_differ a b same other = absurd (other same)

-- the words name one command at most
one_command : (words : List (List ℕ)) (a b : Command) → IsNamed words a → IsNamed words b → a ≡ b
one_command words commands.Simulate commands.Simulate h k = refl
one_command words commands.Analyse commands.Analyse h k = refl
one_command words commands.Check commands.Check h k = refl
one_command words commands.Print commands.Print h k = refl
one_command words commands.Simulate commands.Analyse h k = letters_differ 115 97 (ap letter (sym h ∙ k)) (omega arith)
one_command words commands.Simulate commands.Check h k = letters_differ 115 99 (ap letter (sym h ∙ k)) (omega arith)
one_command words commands.Simulate commands.Print h k = letters_differ 115 112 (ap letter (sym h ∙ k)) (omega arith)
one_command words commands.Analyse commands.Simulate h k = letters_differ 97 115 (ap letter (sym h ∙ k)) (omega arith)
one_command words commands.Analyse commands.Check h k = letters_differ 97 99 (ap letter (sym h ∙ k)) (omega arith)
one_command words commands.Analyse commands.Print h k = letters_differ 97 112 (ap letter (sym h ∙ k)) (omega arith)
one_command words commands.Check commands.Simulate h k = letters_differ 99 115 (ap letter (sym h ∙ k)) (omega arith)
one_command words commands.Check commands.Analyse h k = letters_differ 99 97 (ap letter (sym h ∙ k)) (omega arith)
one_command words commands.Check commands.Print h k = letters_differ 99 112 (ap letter (sym h ∙ k)) (omega arith)
one_command words commands.Print commands.Simulate h k = letters_differ 112 115 (ap letter (sym h ∙ k)) (omega arith)
one_command words commands.Print commands.Analyse h k = letters_differ 112 97 (ap letter (sym h ∙ k)) (omega arith)
one_command words commands.Print commands.Check h k = letters_differ 112 99 (ap letter (sym h ∙ k)) (omega arith)

-- no words name a command and ask for a soak
no_both : (words : List (List ℕ)) (command : Command) (seed : ℕ) → IsNamed words command → AsksSoak words seed → ⊥
no_both words commands.Simulate seed h k = absurd (omega (arith, ap length (sym h ∙ k.are)))
no_both words commands.Analyse seed h k = absurd (omega (arith, ap length (sym h ∙ k.are)))
no_both words commands.Check seed h k = absurd (omega (arith, ap length (sym h ∙ k.are)))
no_both words commands.Print seed h k = absurd (omega (arith, ap length (sym h ∙ k.are)))

-- ---- completeness

-- words that neither name a command nor ask for a soak
pub not_known : (words : List (List ℕ)) → ((command : Command) → IsNamed words command → ⊥) → ((seed : ℕ) → AsksSoak words seed → ⊥) → AreKnown words → ⊥
not_known words command soak (inl named) = command named.0 named.1
not_known words command soak (inr asked) = soak asked.0 asked.1

-- the summary of a soak, for which nothing was read
pub soak_read : (words : List (List ℕ)) (seed : ℕ) (source : Stream) (bays : Bays) (text : List ℕ) → AsksSoak words seed → IsSoaked seed text bays → Keeps source.before source.after → IsReply words source bays 0 text
soak_read words seed source bays text asks soaked same = inr (inr (seed, asks, refl, soaked, same))

-- what was read to its end is all that was told
all_read : (before after : Option (List ℕ)) (told bytes : List ℕ) → before ≡ Some told → Consumes before after bytes → IsAtEnd after → bytes ≡ told
all_read None after told bytes is all end = absurd cc
all_read (Some xs) None told bytes is all end = absurd all
all_read (Some xs) (Some ys) told bytes is all end =
    let same : xs ≡ told = cc in
    sym (append-nil bytes) ∙ ap (λ (rest : List ℕ). bytes ++ rest) (sym end) ∙ sym all ∙ same

-- what was taken is no more than what was told
taken_within : (before after : Option (List ℕ)) (told : List ℕ) (n : ℕ) → before ≡ Some told → ConsumesJust before after n → n ≤ length told
taken_within None after told n is h = absurd cc
taken_within (Some xs) None told n is h = absurd h.2
taken_within (Some xs) (Some ys) told n is h =
    let same : xs ≡ told = cc in
    omega (arith, ap length same, ap length h.2, length-append h.0 ys, h.1)

read_told : (source : Stream) (told : List ℕ) (P : List ℕ → Type 0) → source.before ≡ Some told → WasRead source P → P told × (length told ≤ input_limit)
read_told source told P is h =
    let same = all_read source.before source.after told h.bytes is h.all h.end in
    (subst P same h.holds, subst (λ (b : List ℕ). length b ≤ input_limit) same h.short)

-- a text isn't both a document and refused
pub both_read : {D E : Type 0} (r : Result D E) (d : D) (e : E) → r ≡ Ok d → r ≡ Err e → ⊥
both_read r d e is bad = absurd (let both = sym is ∙ bad in cc)

pub one_document : {D E : Type 0} (r : Result D E) (a b : D) → r ≡ Ok a → r ≡ Ok b → a ≡ b
one_document r a b first second = let both = sym first ∙ second in cc

no_clients : (work : Work) (orders : List Order) → work ≡ works.Schedule orders → IsOfClients work → ⊥
no_clients (works.Schedule given) orders is clients = clients
no_clients (works.Clients turns homes asks) orders is clients = absurd cc

-- a command isn't for an input of which it refuses a line
input_whole : (command : Command) (bytes : List ℕ) (line : ℕ) (cause : Cause) → Refuses command bytes line cause → IsInputOf command bytes → ⊥
input_whole commands.Simulate bytes line cause (inl bad) (d, orders, run) = both_read (document_of bytes) d (line, cause) run.read bad
input_whole commands.Simulate bytes line cause (inr out) (d, orders, run) =
    no_clients out.document.work orders (ap (λ (x : Document). x.work) (one_document (document_of bytes) out.document d out.read run.read) ∙ run.schedule) out.other
input_whole commands.Analyse bytes line cause bad (d, read) = both_read (document_of bytes) d (line, cause) read bad
input_whole commands.Check bytes line cause bad (d, read) = both_read (document_before bytes) d (line, cause) read bad
input_whole commands.Print bytes line cause bad (d, read) = both_read (document_of bytes) d (line, cause) read bad

-- it succeeds for inputs that it is for
success_input : (command : Command) (bytes : List ℕ) → Succeeds command bytes → IsInputOf command bytes
success_input commands.Simulate bytes (d, orders, run, plan) = (d, orders, run)
success_input commands.Analyse bytes (d, read, plan) = (d, read)
success_input commands.Check bytes (d, read, checked) = (d, read)
success_input commands.Print bytes h = h

makes_input : (command : Command) (bytes text : List ℕ) (status : ℕ) (bays : Bays) → Makes command bytes status text bays → IsInputOf command bytes
makes_input commands.Simulate bytes text status bays made = (made.document, made.orders, made.taken)
makes_input commands.Analyse bytes text status bays (made, alone) = (made.document, made.read)
makes_input commands.Check bytes text status bays (made, alone) = (made.document, made.read)
makes_input commands.Print bytes text status bays (is, printed, alone) = (printed.document, printed.read)

-- ---- which status is owed

-- the status is 0 just where this holds
pub record IsZeroWhere (P : Type 0) (status : ℕ) : Type 0 where
  pub zero_if : P → status ≡ 0
  pub only_if : status ≡ 0 → P

not_zero : (P : Type 0) (status : ℕ) → (P → ⊥) → (status ≡ 0 → ⊥) → IsZeroWhere P status
not_zero P status never other = record { zero_if = λ p. absurd (never p); only_if = λ is. absurd (other is) }

pub is_zero : (P : Type 0) (status : ℕ) → P → status ≡ 0 → IsZeroWhere P status
is_zero P status p is = record { zero_if = λ _. is; only_if = λ _. p }

both_found : (found : Option Case) (k : Case) → found ≡ Some k → found ≡ None → ⊥
both_found found k some none = absurd (let both = sym some ∙ none in cc)

pub planless_zero : (spec : Spec) (status : ℕ) (text : List ℕ) → IsPlanless spec status text → IsZeroWhere (HasPlan spec) status
planless_zero spec status text (inl (is, many)) = not_zero (HasPlan spec) status (λ h. absurd (omega (arith, h.few, many.many))) (λ zero. absurd (omega (arith, is, zero)))
planless_zero spec status text (inr (inl (is, rejection))) =
    not_zero (HasPlan spec) status (λ h. both_found (find (ends spec) (touched_cases spec)) rejection.case rejection.rejected.first h.goes) (λ zero. absurd (omega (arith, is, zero)))
planless_zero spec status text (inr (inr (is, hard))) =
    not_zero (HasPlan spec) status (λ h. both_found (find (ends spec) (touched_cases spec)) hard.hard.case hard.hard.first h.goes) (λ zero. absurd (omega (arith, is, zero)))

analysis_zero : (spec : Spec) (status : ℕ) (text : List ℕ) → analyses.IsAnswer spec status text → IsZeroWhere (HasPlan spec) status
analysis_zero spec status text (inl (is, planned)) = is_zero (HasPlan spec) status planned.certified.has is
analysis_zero spec status text (inr none) = planless_zero spec status text none

run_zero : (d : Document) (orders : List Order) (status : ℕ) (text : List ℕ) (bays : Bays) → IsScheduleAnswer d orders status text bays → IsZeroWhere (HasPlan d.spec) status
run_zero d orders status text bays (inl (is, trace)) = is_zero (HasPlan d.spec) status trace.certified.has is
run_zero d orders status text bays (inr (none, alone)) = planless_zero d.spec status text none

same_parts : (r : Read) (plan given : Plan) (certificate other : Certificate) → r ≡ reads.Parts plan certificate → r ≡ reads.Parts given other → (plan ≡ given) × (certificate ≡ other)
same_parts r plan given certificate other first second = let both = sym first ∙ second in (cc, cc)

both_verdicts : (v : Verdict) (case : ℕ) (why : Why) → v ≡ verdicts.Yes → v ≡ verdicts.No case why → ⊥
both_verdicts v case why good bad = absurd (let both = sym good ∙ bad in cc)

both_kinds : (r : Read) (plan : Plan) (certificate : Certificate) (line : ℕ) → r ≡ reads.Parts plan certificate → r ≡ reads.Refused line → ⊥
both_kinds r plan certificate line parts bad = absurd (let both = sym parts ∙ bad in cc)

check_zero : (spec : Spec) (before : ℕ) (lines : List (List ℕ)) (status : ℕ) (text : List ℕ) → checks.IsAnswer spec before lines status text → IsZeroWhere (HasYes spec lines) status
check_zero spec before lines status text (inl (is, many, written)) = not_zero (HasYes spec lines) status (λ h. absurd (omega (arith, h.few, many))) (λ zero. absurd (omega (arith, is, zero)))
check_zero spec before lines status text (inr (few, inl (plan, certificate, read, inl good))) =
    is_zero (HasYes spec lines) status (record { few = few; plan = plan; certificate = certificate; read = read; checks = good.checks }) good.status_is
check_zero spec before lines status text (inr (few, inl (plan, certificate, read, inr (case, why, verdict, refusal)))) =
    not_zero (HasYes spec lines) status
    (λ h.
    let same = same_parts (read_of spec lines) h.plan plan h.certificate certificate h.read read in
    let checks_here : Checks spec plan certificate = subst (λ c. Checks spec plan c) same.1 (subst (λ p. Checks spec p h.certificate) same.0 h.checks) in
    both_verdicts (verdict_of spec plan certificate) case why ((yes_checks spec plan certificate).1 checks_here) verdict)
    (λ zero. absurd (omega (arith, refusal.status_is, zero)))
check_zero spec before lines status text (inr (few, inr (line, read, refusal))) =
    not_zero (HasYes spec lines) status (λ h. both_kinds (read_of spec lines) h.plan h.certificate line h.read read) (λ zero. absurd (omega (arith, refusal.status_is, zero)))

makes_zero : (command : Command) (bytes text : List ℕ) (status : ℕ) (bays : Bays) → Makes command bytes status text bays → IsZeroWhere (Succeeds command bytes) status
makes_zero commands.Simulate bytes text status bays made =
    let h = run_zero made.document made.orders status text bays made.answer in
    record {
      zero_if = λ (d, orders, run, plan). h.zero_if (subst (λ (x : Document). HasPlan x.spec) (one_document (document_of bytes) d made.document run.read made.taken.read) plan);
      only_if = λ is. (made.document, made.orders, made.taken, h.only_if is);
    }
makes_zero commands.Analyse bytes text status bays (made, alone) =
    let h = analysis_zero made.document.spec status text made.answer in
    record {
      zero_if = λ (d, read, plan). h.zero_if (subst (λ (x : Document). HasPlan x.spec) (one_document (document_of bytes) d made.document read made.read) plan);
      only_if = λ is. (made.document, made.read, h.only_if is);
    }
makes_zero commands.Check bytes text status bays (made, alone) =
    let h = check_zero made.document.spec (length (document_lines (lines_of bytes))) (plan_lines (lines_of bytes)) status text made.answer in
    record {
      zero_if = λ (d, read, good). h.zero_if (subst (λ (x : Document). HasYes x.spec (plan_lines (lines_of bytes))) (one_document (document_before bytes) d made.document read made.read) good);
      only_if = λ is. (made.document, made.read, h.only_if is);
    }
makes_zero commands.Print bytes text status bays (is, printed, alone) = is_zero (Succeeds commands.Print bytes) status (printed.document, printed.read) is

-- what is owed by a refusal, and by what was made of an input
pub owed_refused : (Taken Success : Type 0) (status : ℕ) → status ≡ 3 → (Taken → ⊥) → (Success → Taken) → IsOwedWhere Taken Success status
owed_refused Taken Success status is none taken = record {
  other = λ no_input. inl is;
  succeeds = λ success. absurd (none (taken success));
  fails = λ no_success zero. absurd (omega (arith, is, zero));
}

pub owed_made : (Taken Success : Type 0) (status : ℕ) → Taken → IsZeroWhere Success status → IsOwedWhere Taken Success status
owed_made Taken Success status taken h = record {
  other = λ no_input. absurd (no_input taken);
  succeeds = λ success. inl (h.zero_if success);
  fails = λ no_success zero. no_success (h.only_if zero);
}

owed_answer : (command : Command) (bytes text : List ℕ) (status : ℕ) (bays : Bays) → IsAnswerTo command bytes status text bays → IsOwedBy command bytes status
owed_answer command bytes text status bays (inl (is, refused, alone)) =
    owed_refused (IsInputOf command bytes) (Succeeds command bytes) status is (input_whole command bytes refused.line refused.cause refused.refused) (success_input command bytes)
owed_answer command bytes text status bays (inr made) =
    owed_made (IsInputOf command bytes) (Succeeds command bytes) status (makes_input command bytes text status bays made) (makes_zero command bytes text status bays made)

-- the reply to an input that the source tells, where nothing failed: the input is too long, or is answered so
abbrev pub IsTold : (List ℕ → ℕ → List ℕ → Type 0) → List ℕ → ℕ → List ℕ → Type 0
IsTold Answers told status text = ((input_limit < length told) × (status ≡ 6)) ⊎ ((length told ≤ input_limit) × Answers told status text)

pub reply_told : (Answers : List ℕ → ℕ → List ℕ → Type 0) (source : Stream) (bays : Bays) (told text : List ℕ) (status : ℕ) → source.before ≡ Some told → (Failed source → ⊥) → IsReplyBy Answers source bays status text → IsTold Answers told status text
reply_told Answers source bays told text status is whole (inl fault) = absurd (whole fault.2)
reply_told Answers source bays told text status is whole (inr (inl long)) =
    let over = taken_within source.before source.after told (input_limit + 1) is long.2 in
    inl (omega (arith, over), long.0)
reply_told Answers source bays told text status is whole (inr (inr read)) =
    let h = read_told source told (λ bytes. Answers bytes status text) is read in
    inr (h.1, h.0)

owed_command : (words : List (List ℕ)) (command : Command) (bays : Bays) (told text : List ℕ) (status : ℕ) → IsNamed words command → IsTold (λ bytes n t. IsAnswerTo command bytes n t bays) told status text → IsOwed words told status
owed_command words command bays told text status named (inl (over, is)) = record {
  other_words = λ other. absurd (other (inl (command, named)));
  long = λ again named' more. inl is;
  short = λ again named' within. absurd (omega (arith, over, within));
}
owed_command words command bays told text status named (inr (within, answer)) = record {
  other_words = λ other. absurd (other (inl (command, named)));
  long = λ again named' more. absurd (omega (arith, within, more));
  short = λ again named' short. subst (λ c. IsOwedBy c told status) (one_command words command again named named') (owed_answer command told text status bays answer);
}

owed_reply : (words : List (List ℕ)) (source : Stream) (bays : Bays) (told text : List ℕ) (status : ℕ) → source.before ≡ Some told → (Failed source → ⊥) → IsReply words source bays status text → IsOwed words told status
owed_reply words source bays told text status is whole (inl bad) = record {
  other_words = λ other. bad.0;
  long = λ command named over. absurd (bad.2 (inl (command, named)));
  short = λ command named within. absurd (bad.2 (inl (command, named)));
}
owed_reply words source bays told text status is whole (inr (inl (command, named, reply))) =
    owed_command words command bays told text status named (reply_told (λ bytes n t. IsAnswerTo command bytes n t bays) source bays told text status is whole reply)
owed_reply words source bays told text status is whole (inr (inr soak)) = record {
  other_words = λ other. absurd (other (inr (soak.0, soak.1)));
  long = λ command named more. absurd (no_both words command soak.0 named soak.1);
  short = λ command named within. absurd (no_both words command soak.0 named soak.1);
}

owed_known : (words : List (List ℕ)) (source : Stream) (bays : Bays) (told : List ℕ) → WasBegun words source bays → IsOwed words told 9
owed_known words source bays told begun = record {
  other_words = λ other. absurd (other (known begun));
  long = λ command named more. inr refl;
  short = λ command named within. record { other = λ no_input. inr refl; succeeds = λ success. inr refl; fails = λ no_success zero. absurd (omega (arith, zero)) };
}
  where
    known : WasBegun words source bays → AreKnown words
    known (inl read) = inl (read.0, read.1)
    known (inr soak) = inr (soak.0, soak.1)

pub complete : (words : List (List ℕ)) (source sink : Stream) (bays : Bays) (status : ℕ) → IsAnswered words source sink bays status → IsComplete words source sink status
complete words source sink bays status (inl written) = λ told is whole out. owed_reply words source bays told written.text status is whole written.reply
complete words source sink bays status (inr (inl cut)) = λ told is whole out. absurd (out cut.1.failed)
complete words source sink bays status (inr (inr memory)) = λ told is whole out. subst (IsOwed words told) (sym memory.0) (owed_known words source bays told memory.1)

soak_reply : (words : List (List ℕ)) (source : Stream) (bays : Bays) (seed : ℕ) (text : List ℕ) (status : ℕ) → AsksSoak words seed → IsReply words source bays status text → status ≡ 0
soak_reply words source bays seed text status asks (inl bad) = absurd (bad.2 (inr (seed, asks)))
soak_reply words source bays seed text status asks (inr (inl (command, named, reply))) = absurd (no_both words command seed named asks)
soak_reply words source bays seed text status asks (inr (inr soak)) = soak.2

pub soak_complete : (words : List (List ℕ)) (source sink : Stream) (bays : Bays) (status : ℕ) → IsAnswered words source sink bays status → IsSoakOwed words sink status
soak_complete words source sink bays status (inl written) = λ seed asks out. inl (soak_reply words source bays seed written.text status asks written.reply)
soak_complete words source sink bays status (inr (inl cut)) = λ seed asks out. absurd (out cut.1.failed)
soak_complete words source sink bays status (inr (inr memory)) = λ seed asks out. inr memory.0

-- ---- words

first_of_two : (a b c d : List ℕ) → a ∷ b ∷ [] ≡ c ∷ d ∷ [] → a ≡ c
first_of_two a b c d e = cc

second_of_two : (a b c d : List ℕ) → a ∷ b ∷ [] ≡ c ∷ d ∷ [] → b ≡ d
second_of_two a b c d e = cc

-- a number that is read has at most 64 bits
small_where : (canonical small : Bool) (v n : ℕ) → ltb v (2 ^ 64) ≡ small → cond (canonical && small) (Some v) None ≡ Some n → n < 2 ^ 64
small_where true true v n is e = let same : v ≡ n = cc in subst (λ (m : ℕ). m < 2 ^ 64) same (ltb-true v (2 ^ 64) is)
small_where true false v n is e = absurd cc
small_where false small v n is e = absurd cc

num_small : (text : List ℕ) (n : ℕ) → num_of text ≡ Some n → n < 2 ^ 64
num_small text n e = small_where (is_canonical text) (ltb (value_after 0 text) (2 ^ 64)) (value_after 0 text) n refl e

-- a word and digits that ask for a soak
pub seed_some : (word digits : List ℕ) (result : Option ℕ) → word ≡ codes "soak" → result ≡ num_of digits → IfSome result (λ n. digits ≡ decimal n) → IfSome result (λ seed. AsksSoak (word ∷ digits ∷ []) seed)
seed_some word digits None is value number = tt
seed_some word digits (Some n) is value number = record {
  small = num_small digits n (sym value);
  are = ap (λ (w : List ℕ). w ∷ digits ∷ []) is ∙ ap (λ (ds : List ℕ). codes "soak" ∷ ds ∷ []) number;
}

-- digits that are no number ask for none
pub seed_none : (word digits : List ℕ) (result : Option ℕ) → IfNone result ((n : ℕ) → n < 2 ^ 64 → digits ≡ decimal n → ⊥) → IfNone result ((seed : ℕ) → AsksSoak (word ∷ digits ∷ []) seed → ⊥)
seed_none word digits None none = λ seed asks. none seed asks.small (second_of_two _ _ _ _ asks.are)
seed_none word digits (Some n) none = tt

-- nor does another word
pub seed_other : (word digits : List ℕ) → (word ≡ codes "soak" → ⊥) → (seed : ℕ) → AsksSoak (word ∷ digits ∷ []) seed → ⊥
seed_other word digits other seed asks = other (first_of_two _ _ _ _ asks.are)

pub two_words : {X : Type 0} (f : X → List ℕ) (words : List X) (w v : X) (a b : List ℕ) → 2 ≤ length words → length words < 3 → w ≡ get_or words 0 w → v ≡ get_or words 1 v → a ≡ f w → b ≡ f v → map f words ≡ a ∷ b ∷ []
two_words f [] w v a b some few first second a_is b_is = absurd (omega (arith, some))
two_words f (x ∷ []) w v a b some few first second a_is b_is = absurd (omega (arith, some))
two_words f (x ∷ y ∷ []) w v a b some few first second a_is b_is =
    ap (λ (z : _). f z ∷ f y ∷ []) (sym first) ∙ ap (λ (z : _). f w ∷ f z ∷ []) (sym second) ∙ ap (λ (t : List ℕ). t ∷ f v ∷ []) (sym a_is) ∙ ap (λ (t : List ℕ). a ∷ t ∷ []) (sym b_is)
two_words f (x ∷ y ∷ z ∷ words) w v a b some few first second a_is b_is = absurd (omega (arith, few))

-- a soak has two words
pub asks_two : {X : Type 0} (f : X → List ℕ) (words : List X) (seed : ℕ) → AsksSoak (map f words) seed → length words ≡ 2
asks_two f words seed asks = sym (length-map words f) ∙ ap length asks.are

pub no_command : (words : List (List ℕ)) → (words ≡ codes "simulate" ∷ [] → ⊥) → (words ≡ codes "analyse" ∷ [] → ⊥) → (words ≡ codes "check" ∷ [] → ⊥) → (words ≡ codes "print" ∷ [] → ⊥) → (command : Command) → IsNamed words command → ⊥
no_command words simulate analyse check print commands.Simulate named = simulate named
no_command words simulate analyse check print commands.Analyse named = analyse named
no_command words simulate analyse check print commands.Check named = check named
no_command words simulate analyse check print commands.Print named = print named
