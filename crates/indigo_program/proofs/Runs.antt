-- Documents that are run or refused.
use Rattle.std.proofs.Common.{◌≡◌, ◌<◌, inl, inr, ℕ, List, length, refl, sym, ap, subst, ◌∙◌}
use Rattle.std.specs.Prelude.{Result, Ok, Err, IfOk, OnErr, Some}
use Rattle.line_text.specs.declared.cause.Cause.{Cause}
use Rattle.line_text.specs.declared.cause.Cause.TheVariants as causes
use Rattle.run_model.specs.declared.step.Order.{Order}
use Rattle.scenario_text.specs.declared.document.Document.{Document}
use Rattle.scenario_text.specs.declared.document.Work.TheVariants as works
use Rattle.line_text.specs.Lines.{lines_of}
use Rattle.spec_model.specs.declared.plan.Setup.{Setup}
use Rattle.spec_model.specs.declared.spec.Spec.{Spec}
use Rattle.spec_model.specs.Fits.{IsWellFormed, PlanFits}
use Rattle.spec_model.specs.Stable.{IsEnough}
use Rattle.run_model.specs.Sound.{IsSettled}
use Rattle.reservation_plan.specs.declared.analysed.Analysed.{Analysed}
use Rattle.plan_answers.specs.Analysing.{IsAnalysed}
use Rattle.scenario_text.specs.Groups.{client_words, first_line}
use Rattle.scenario_text.specs.Reading.{document_of, document_of_draft, draft_of}
use Rattle.plan_answers.specs.Checking as checks
use Rattle.plan_answers.specs.Splitting.{document_lines, plan_lines}
use Rattle.indigo_program.specs.declared.command.Command.{Command}
use Rattle.indigo_program.specs.declared.command.Command.TheVariants as commands
use Rattle.plan_answers.specs.declared.answer.Answer.{Answer}
use Rattle.indigo_program.specs.CauseTexts.{refusal_text}
use Rattle.request_workers.specs.Histories.{Bays}
use Rattle.indigo_program.specs.Headline.{IsAnswerTo, IsLeftAlone, IsScheduleAnswer, LeavesAlone}
use Rattle.indigo_program.specs.Inputs.{IsOfClients, Refuses}

-- the reply that refuses a line is an answer
pub refused_answer : {E : Type 0} (command : Command) (bytes : List ℕ) (line : ℕ) (cause : Cause) (bays : Bays) (result : Result Answer E) → IsLeftAlone bays → Refuses command bytes line cause
    → IfOk result (λ reply. (reply.status ≡ 3) × (reply.text ≡ refusal_text line cause)) → IfOk result (λ reply. IsAnswerTo command bytes reply.status reply.text bays)
refused_answer command bytes line cause bays (Ok reply) alone refused is = inl (is.0, record { line = line; cause = cause; refused = refused; written = is.1 }, alone)
refused_answer command bytes line cause bays (Err e) alone refused is = tt

-- the first line about clients, which a simulation refuses
pub clients_refused : {E : Type 0} (bytes : List ℕ) (d : Document) (line : ℕ) (bays : Bays) (result : Result Answer E) → document_of bytes ≡ Ok d → IsOfClients d.work → first_line client_words (lines_of bytes) ≡ Some line → IsLeftAlone bays
    → IfOk result (λ reply. (reply.status ≡ 3) × (reply.text ≡ refusal_text line causes.OutOfPlace)) → IfOk result (λ reply. IsAnswerTo commands.Simulate bytes reply.status reply.text bays)
clients_refused bytes d line bays result read other first alone is =
    refused_answer commands.Simulate bytes line causes.OutOfPlace bays result alone (inr (record { document = d; read = read; other = other; first = first; cause_is = refl })) is

-- what is answered to a schedule is an answer
pub simulated_answer : {E : Type 0} (bytes : List ℕ) (d : Document) (orders given : List Order) (bays : Bays) (result : Result Answer E) → document_of bytes ≡ Ok d → d.work ≡ works.Schedule orders → given ≡ orders
    → IfOk result (λ reply. IsScheduleAnswer d given reply.status reply.text bays) → IfOk result (λ reply. IsAnswerTo commands.Simulate bytes reply.status reply.text bays)
simulated_answer bytes d orders given bays (Ok reply) read is same answer =
    inr (record { document = d; orders = orders; taken = record { read = read; schedule = is }; answer = subst (λ (os : List Order). IsScheduleAnswer d os reply.status reply.text bays) same answer })
simulated_answer bytes d orders given bays (Err e) read is same answer = tt

-- what a command that asks for no disk answers
pub answer_of : {E : Type 0} (command given : Command) (bytes : List ℕ) (bays : Bays) (result : Result Answer E) → command ≡ given → IsLeftAlone bays → ((other : Bays) → IsLeftAlone other → IfOk result (λ reply. IsAnswerTo given bytes reply.status reply.text other))
    → IfOk result (λ reply. IsAnswerTo command bytes reply.status reply.text bays)
answer_of command given bytes bays result is alone all = subst (λ (c : Command). IfOk result (λ reply. IsAnswerTo c bytes reply.status reply.text bays)) (sym is) (all bays alone)

-- and where memory is wanting
pub alone_of : {E : Type 0} (command given : Command) (bays : Bays) (result : Result Answer E) → command ≡ given → LeavesAlone given bays → OnErr result (LeavesAlone command bays)
alone_of command given bays (Ok reply) is alone = tt
alone_of command given bays (Err e) is alone = subst (λ (c : Command). LeavesAlone c bays) (sym is) alone

-- the verdict on what stands behind the document is an answer
pub checked_answer : {E : Type 0} (bytes front plan : List ℕ) (d : Document) (before : ℕ) (bays : Bays) (result : Result Answer E) → lines_of front ≡ document_lines (lines_of bytes) → lines_of plan ≡ plan_lines (lines_of bytes) → document_of front ≡ Ok d → before ≡ length (lines_of front) → IsLeftAlone bays
    → IfOk result (λ reply. checks.IsAnswer d.spec before (lines_of plan) reply.status reply.text) → IfOk result (λ reply. IsAnswerTo commands.Check bytes reply.status reply.text bays)
checked_answer bytes front plan d before bays (Ok reply) is_front is_plan read count alone is =
    inr (
      record {
        document = d;
        read = ap (λ lines. document_of_draft (draft_of lines)) (sym is_front) ∙ read;
        answer = subst (λ n. checks.IsAnswer d.spec n (plan_lines (lines_of bytes)) reply.status reply.text) (count ∙ ap length is_front) (subst (λ lines. checks.IsAnswer d.spec before lines reply.status reply.text) is_plan is);
      },
      alone,
    )
checked_answer bytes front plan d before bays (Err e) is_front is_plan read count alone is = tt

-- a derived plan settles its setup
pub plan_settles : (spec : Spec) (replicas : ℕ) (analysed : Analysed) → 0 < replicas → IsWellFormed spec → IsAnalysed spec analysed → (let setup : Setup = record { spec = spec; plan = analysed.plan; replicas = replicas } in IsSettled setup)
plan_settles spec replicas analysed some formed is = record {
  fits = record { some = some; spec = formed; plan = subst (PlanFits spec) (sym is.plan) is.certified.fits };
  enough = subst (IsEnough spec) (sym is.plan) is.certified.enough;
}
