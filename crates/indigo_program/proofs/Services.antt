-- Documents whose clients are served or refused, and why the answers are complete.
use Rattle.std.proofs.Common.{◌≡◌, inl, inr, ℕ, List, [], ◌∷◌, ◌++◌, length, map, refl, sym, ap, subst, ◌∙◌, arith}
use Rattle.std.specs.Prelude.{Result, Ok, Err, IfOk, Some, Option}
use Rattle.std.specs.List.{flat_map}
use Rattle.line_text.specs.declared.cause.Cause.{Cause}
use Rattle.line_text.specs.declared.cause.Cause.TheVariants as causes
use Rattle.line_text.specs.Lines.{lines_of}
use Rattle.spec_model.specs.declared.plan.Setup.{Setup}
use Rattle.spec_model.specs.declared.spec.Spec.{Spec}
use Rattle.run_model.specs.declared.history.Final.{Final}
use Rattle.run_model.specs.declared.history.History.{History}
use Rattle.run_model.specs.declared.step.StepEntry.{StepEntry}
use Rattle.run_model.specs.Trace.{entry_text, lasts_text}
use Rattle.run_trace.specs.Merging.{IsMerged}
use Rattle.client_asks.specs.Asking.{ClientWork, client_work}
use Rattle.client_runs.specs.Serving.{ups_of}
use Rattle.request_workers.specs.Histories.{Bays}
use Rattle.request_workers.specs.Serving.{AreServed}
use Rattle.scenario_text.specs.declared.document.Document.{Document}
use Rattle.scenario_text.specs.declared.document.StopLine.{StopLine}
use Rattle.scenario_text.specs.declared.document.Work.{Work}
use Rattle.scenario_text.specs.declared.document.Work.TheVariants as works
use Rattle.scenario_text.specs.Groups.{first_line, schedule_words}
use Rattle.scenario_text.specs.Lacking.{HasNoOrder}
use Rattle.scenario_text.specs.Reading.{document_of}
use Rattle.scenario_text.specs.WellFormed.{ClientsFit, IsWellFormedDocument, WorkFits}
use Rattle.plan_answers.specs.Analysing.{HasPlan}
use Rattle.plan_answers.specs.declared.answer.Answer.{Answer}
use Rattle.indigo_program.specs.CauseTexts.{refusal_text}
use Rattle.indigo_program.specs.Headline.{AsksSoak, IsLeftAlone, IsOwedWhere, IsSoakOwed, Stream}
use Rattle.indigo_program.specs.Inputs.{IsInputOfRun, IsOfSchedule, RefusesToRun}
use Rattle.indigo_program.specs.Running.{AsksRun, IsAnswerToRun, IsIndigoAnswered, IsIndigoComplete, IsIndigoOwed, IsRun, IsServedAnswer, IsServedTrace, RunSucceeds}
use Rattle.indigo_program.proofs.Answered.{IsTold, IsZeroWhere, both_read, complete, is_zero, one_document, owed_made, owed_refused, planless_zero, reply_told, soak_complete}

-- ---- the trace

-- histories that were served, merged and written
pub served_trace : (setup : Setup) (work : ClientWork) (stops : List StopLine) (histories : List History) (entries : List StepEntry) (text : List ℕ) (bays : Bays) → AreServed setup work stops histories bays → IsMerged histories entries
    → text ≡ flat_map (entry_text setup.spec) entries ++ lasts_text setup.spec 0 (map (λ h. h.last) histories) → IsServedTrace setup work stops text bays
served_trace setup work stops histories entries text bays served merged is =
    let told = served.legal entries merged in
    record {
      ups = ups_of histories;
      entries = entries;
      world = told.world;
      legal = told.run.legal;
      sound = told.run.sound;
      written = is ∙ ap (λ (lasts : List (Option Final)). flat_map (entry_text setup.spec) entries ++ lasts_text setup.spec 0 lasts) told.run.lasts;
      disks = told.disks;
    }

-- ---- the work

same_work : (a b : ClientWork) → Some a ≡ Some b → a ≡ b
same_work a b e = cc

-- the work of clients of a document fits, also where it has none
work_fits : (spec : Spec) (replicas : ℕ) (work : Work) (clients : ClientWork) → WorkFits spec replicas work → client_work work ≡ Some clients → ClientsFit spec replicas clients.turns clients.homes clients.asked
work_fits spec replicas (works.Clients turns homes asks) clients fits is =
    subst (λ (w : ClientWork). ClientsFit spec replicas w.turns w.homes w.asked) (same_work (record { turns = turns; homes = homes; asked = asks }) clients is) fits
work_fits spec replicas (works.Schedule []) clients fits is =
    subst (λ (w : ClientWork). ClientsFit spec replicas w.turns w.homes w.asked) (same_work (record { turns = 0; homes = []; asked = [] }) clients is)
    (record { few_turns = omega arith; homes_fit = tt; few_homes = omega arith; asks_fit = tt; few_asks = omega arith })
work_fits spec replicas (works.Schedule (order ∷ orders)) clients fits is = absurd cc

pub clients_fit : (d : Document) (clients : ClientWork) → IsWellFormedDocument d → client_work d.work ≡ Some clients → ClientsFit d.spec d.replicas clients.turns clients.homes clients.asked
clients_fit d clients formed is = work_fits d.spec d.replicas d.work clients formed.work is

-- a schedule with lines doesn't lack them
pub some_order : (work : Work) → IsOfSchedule work → HasNoOrder work → ⊥
some_order (works.Clients turns homes asks) other lacks = absurd cc
some_order (works.Schedule []) other lacks = absurd cc
some_order (works.Schedule (order ∷ orders)) other lacks = absurd cc

-- ---- the answer

-- the reply that refuses a line is an answer
pub run_refused : {E : Type 0} (bytes : List ℕ) (line : ℕ) (cause : Cause) (bays : Bays) (result : Result Answer E) → IsLeftAlone bays → RefusesToRun bytes line cause
    → IfOk result (λ reply. (reply.status ≡ 3) × (reply.text ≡ refusal_text line cause)) → IfOk result (λ reply. IsAnswerToRun bytes reply.status reply.text bays)
run_refused bytes line cause bays (Ok reply) alone refused is = inl (is.0, record { line = line; cause = cause; refused = refused; written = is.1 }, alone)
run_refused bytes line cause bays (Err e) alone refused is = tt

-- the first line of a schedule, which is refused
pub schedule_refused : {E : Type 0} (bytes : List ℕ) (d : Document) (line : ℕ) (bays : Bays) (result : Result Answer E) → document_of bytes ≡ Ok d → IsOfSchedule d.work → first_line schedule_words (lines_of bytes) ≡ Some line → IsLeftAlone bays
    → IfOk result (λ reply. (reply.status ≡ 3) × (reply.text ≡ refusal_text line causes.OutOfPlace)) → IfOk result (λ reply. IsAnswerToRun bytes reply.status reply.text bays)
schedule_refused bytes d line bays result read other first alone is =
    run_refused bytes line causes.OutOfPlace bays result alone (inr (record { document = d; read = read; other = other; first = first; cause_is = refl })) is

-- what is answered to clients is an answer
pub served_answer : {E : Type 0} (bytes : List ℕ) (d : Document) (clients : ClientWork) (bays : Bays) (result : Result Answer E) → document_of bytes ≡ Ok d → client_work d.work ≡ Some clients
    → IfOk result (λ reply. IsServedAnswer d clients reply.status reply.text bays) → IfOk result (λ reply. IsAnswerToRun bytes reply.status reply.text bays)
served_answer bytes d clients bays (Ok reply) read is answer = inr (record { document = d; work = clients; taken = record { read = read; clients = is }; answer = answer })
served_answer bytes d clients bays (Err e) read is answer = tt

-- ---- completeness

both_work : (work : Work) (clients : ClientWork) → client_work work ≡ Some clients → IsOfSchedule work → ⊥
both_work work clients some none = absurd (let both = sym some ∙ none in cc)

-- `run` isn't for an input of which it refuses a line
input_whole : (bytes : List ℕ) (line : ℕ) (cause : Cause) → RefusesToRun bytes line cause → IsInputOfRun bytes → ⊥
input_whole bytes line cause (inl bad) (d, clients, taken) = both_read (document_of bytes) d (line, cause) taken.read bad
input_whole bytes line cause (inr out) (d, clients, taken) =
    both_work out.document.work clients (ap (λ (x : Document). client_work x.work) (one_document (document_of bytes) out.document d out.read taken.read) ∙ taken.clients) out.other

served_zero : (d : Document) (clients : ClientWork) (status : ℕ) (text : List ℕ) (bays : Bays) → IsServedAnswer d clients status text bays → IsZeroWhere (HasPlan d.spec) status
served_zero d clients status text bays (inl (is, trace)) = is_zero (HasPlan d.spec) status trace.certified.has is
served_zero d clients status text bays (inr (none, alone)) = planless_zero d.spec status text none

run_zero : (bytes text : List ℕ) (status : ℕ) (bays : Bays) → IsRun bytes status text bays → IsZeroWhere (RunSucceeds bytes) status
run_zero bytes text status bays made =
    let h = served_zero made.document made.work status text bays made.answer in
    record {
      zero_if = λ (d, clients, taken, plan). h.zero_if (subst (λ (x : Document). HasPlan x.spec) (one_document (document_of bytes) d made.document taken.read made.taken.read) plan);
      only_if = λ is. (made.document, made.work, made.taken, h.only_if is);
    }

owed_answer : (bytes text : List ℕ) (status : ℕ) (bays : Bays) → IsAnswerToRun bytes status text bays → IsOwedWhere (IsInputOfRun bytes) (RunSucceeds bytes) status
owed_answer bytes text status bays (inl (is, refused, alone)) =
    owed_refused (IsInputOfRun bytes) (RunSucceeds bytes) status is (input_whole bytes refused.line refused.cause refused.refused) (λ (d, clients, taken, plan). (d, clients, taken))
owed_answer bytes text status bays (inr made) =
    owed_made (IsInputOfRun bytes) (RunSucceeds bytes) status (made.document, made.work, made.taken) (run_zero bytes text status bays made)

owed_told : (words : List (List ℕ)) (bays : Bays) (told text : List ℕ) (status : ℕ) → AsksRun words → IsTold (λ bytes n t. IsAnswerToRun bytes n t bays) told status text → IsIndigoOwed words told status
owed_told words bays told text status asks (inl (over, is)) =
    record { others = λ other. absurd (other asks); long = λ again more. inl is; short = λ again within. absurd (omega (arith, over, within)) }
owed_told words bays told text status asks (inr (within, answer)) =
    record { others = λ other. absurd (other asks); long = λ again more. absurd (omega (arith, within, more)); short = λ again short. owed_answer told text status bays answer }

owed_wanting : (words : List (List ℕ)) (told : List ℕ) → AsksRun words → IsIndigoOwed words told 9
owed_wanting words told asks = record {
  others = λ other. absurd (other asks);
  long = λ again more. inr refl;
  short = λ again within. record { other = λ no_input. inr refl; succeeds = λ success. inr refl; fails = λ no_success zero. absurd (omega (arith, zero)) };
}

pub indigo_complete : (words : List (List ℕ)) (source sink : Stream) (bays : Bays) (status : ℕ) → IsIndigoAnswered words source sink bays status → IsIndigoComplete words source sink status
indigo_complete words source sink bays status (inl (asks, inl written)) = λ told is whole out.
    owed_told words bays told written.text status asks (reply_told (λ bytes n t. IsAnswerToRun bytes n t bays) source bays told written.text status is whole written.reply)
indigo_complete words source sink bays status (inl (asks, inr (inl cut))) = λ told is whole out. absurd (out cut.1.failed)
indigo_complete words source sink bays status (inl (asks, inr (inr memory))) = λ told is whole out. subst (IsIndigoOwed words told) (sym memory.0) (owed_wanting words told asks)
indigo_complete words source sink bays status (inr (other, answered)) = λ told is whole out.
    record { others = λ again. complete words source sink bays status answered told is whole out; long = λ asks. absurd (other asks); short = λ asks. absurd (other asks) }

-- no words ask for a run and for a soak
no_both : (words : List (List ℕ)) (seed : ℕ) → AsksRun words → AsksSoak words seed → ⊥
no_both words seed asks soak = absurd (omega (arith, ap length (sym asks ∙ soak.are)))

pub indigo_soaked : (words : List (List ℕ)) (source sink : Stream) (bays : Bays) (status : ℕ) → IsIndigoAnswered words source sink bays status → IsSoakOwed words sink status
indigo_soaked words source sink bays status (inl (asks, answered)) = λ seed soak out. absurd (no_both words seed asks soak)
indigo_soaked words source sink bays status (inr (other, answered)) = soak_complete words source sink bays status answered
