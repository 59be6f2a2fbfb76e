-- Inputs that weren't read, and replies to those that were.
use Rattle.std.proofs.Common.{◌≡◌, inl, inr, ℕ, ◌+◌, ◌≤◌, List, length, refl, subst}
use Rattle.std.specs.Prelude.{codes, Result, Ok, Err, IfOk, OnErr}
use Rattle.std.specs.Io.KnownBytes.{Consumes, IsAtEnd}
use Rattle.ind_io.specs.Streams.{ConsumesJust, ConsumesWithin, ReadsInTurns}
use Rattle.ind_io.specs.declared.stream.ReadAllError.{ReadAllError}
use Rattle.ind_io.specs.declared.stream.ReadAllError.TheVariants as errors
use Rattle.plan_answers.specs.declared.answer.Answer.{Answer}
use Rattle.request_workers.specs.Histories.{Bays}
use Rattle.indigo_program.specs.declared.command.Command.{Command}
use Rattle.indigo_program.specs.declared.command.Command.TheVariants as commands
use Rattle.indigo_program.specs.Finishing.{IsConcluded, IsUnread}
use Rattle.indigo_program.specs.Headline.{Failed, IsAnswerBy, IsAnswerTo, IsAnswered, IsLeftAlone, IsNamed, IsReply, IsReplyBy, IsReplyOf, LeavesAlone, Stream, WasBegun, input_limit}
use Rattle.indigo_program.specs.Running.{IsAnswerToRun, IsReplyOfRun, IsRunAnswered}
use Rattle.indigo_program.proofs.Answered.{finished_by}

-- what is answered by one kind of reply is answered by another that each of the first is
answered_more : (Reply Other : ℕ → List ℕ → Type 0) (Begun More : Type 0) (sink : Stream) (status : ℕ) → ((n : ℕ) (text : List ℕ) → Reply n text → Other n text) → (Begun → More)
    → IsAnswerBy Reply Begun sink status → IsAnswerBy Other More sink status
answered_more Reply Other Begun More sink status other more (inl written) = inl (record { text = written.text; reply = other status written.text written.reply; out = written.out })
answered_more Reply Other Begun More sink status other more (inr (inl (is, cut))) =
    inr (inl (is, record { status = cut.status; text = cut.text; front = cut.front; behind = cut.behind; reply = other cut.status cut.text cut.reply; failed = cut.failed; parts = cut.parts; out = cut.out }))
answered_more Reply Other Begun More sink status other more (inr (inr (is, begun, same))) = inr (inr (is, more begun, same))

-- a command that did nothing left the bay alone
leaves_alone : (command : Command) (bays : Bays) → IsLeftAlone bays → LeavesAlone command bays
leaves_alone commands.Simulate bays alone = tt
leaves_alone commands.Analyse bays alone = alone
leaves_alone commands.Check bays alone = alone
leaves_alone commands.Print bays alone = alone

-- what is known of a source where a read ended
pub read_within : (before after : _) (calls now : ℕ) → ReadsInTurns before after calls now input_limit → ConsumesWithin before after (input_limit + 1)
read_within before after calls now h = (h.taken, h.within, h.consumed)

-- why a source wasn't read to its end
pub record IsStopped (source : Stream) (error : ReadAllError) : Type 0 where
  pub failed : error ≡ errors.Fault → Failed source
  pub fault : error ≡ errors.Fault → ConsumesWithin source.before source.after input_limit
  pub long : error ≡ errors.TooLong → ConsumesJust source.before source.after (input_limit + 1)
  pub within : ConsumesWithin source.before source.after (input_limit + 1)

-- that is told in a reply
unread_by : (Answers : List ℕ → ℕ → List ℕ → Type 0) (source sink : Stream) (bays : Bays) (error : ReadAllError) (result : ℕ) → IsLeftAlone bays → IsStopped source error
    → IsUnread error sink.before sink.after sink.faults_before sink.faults_after result → IsAnswerBy (IsReplyBy Answers source bays) (ConsumesWithin source.before source.after (input_limit + 1)) sink result
unread_by Answers source sink bays errors.Fault result alone why is =
    finished_by (IsReplyBy Answers source bays) (ConsumesWithin source.before source.after (input_limit + 1)) sink 4 result (codes "read fault\n") _ (inl (refl, refl, why.failed refl, why.fault refl, alone)) refl is
unread_by Answers source sink bays errors.TooLong result alone why is =
    finished_by (IsReplyBy Answers source bays) (ConsumesWithin source.before source.after (input_limit + 1)) sink 6 result (codes "input too long\n") _ (inr (inl (refl, refl, why.long refl, alone))) refl is
unread_by Answers source sink bays errors.Memory result alone why is = inr (inr (is.0, why.within, is.1))

-- a reply that was made is answered, or memory was wanting for it
concluded_by : {E : Type 0} (Reply : ℕ → List ℕ → Type 0) (Begun : Type 0) (sink : Stream) (reply : Result Answer E) (result : ℕ) → IfOk reply (λ a. Reply a.status a.text) → OnErr reply Begun
    → IsConcluded reply sink.before sink.after sink.faults_before sink.faults_after result → IsAnswerBy Reply Begun sink result
concluded_by Reply Begun sink (Ok a) result made begun is = finished_by Reply Begun sink a.status result a.text a.text made refl is
concluded_by Reply Begun sink (Err e) result made begun is = inr (inr (is.0, begun, is.1))

-- what holds anyway holds of an error
on_error : {T E : Type 0} {P : Type 0} (r : Result T E) → P → OnErr r P
on_error (Ok x) p = tt
on_error (Err e) p = p

-- the answer to an input that was read is a reply
read_by : {E : Type 0} (Answers : List ℕ → ℕ → List ℕ → Type 0) (source : Stream) (bays : Bays) (bytes given : List ℕ) (reply : Result Answer E) → Consumes source.before source.after bytes → IsAtEnd source.after → length bytes ≤ input_limit → given ≡ bytes
    → IfOk reply (λ a. Answers given a.status a.text) → IfOk reply (λ a. IsReplyBy Answers source bays a.status a.text)
read_by Answers source bays bytes given (Ok a) all end short is answer =
    inr (inr (record { bytes = bytes; all = all; end = end; short = short; holds = subst (λ (b : List ℕ). Answers b a.status a.text) is answer }))
read_by Answers source bays bytes given (Err e) all end short is answer = tt

-- the same of the words that name a command
pub command_unread : (words : List (List ℕ)) (command : Command) (source sink : Stream) (bays : Bays) (error : ReadAllError) (result : ℕ) → IsNamed words command → IsLeftAlone bays → IsStopped source error
    → IsUnread error sink.before sink.after sink.faults_before sink.faults_after result → IsAnswered words source sink bays result
command_unread words command source sink bays error result named alone why is =
    answered_more (IsReplyOf command source bays) (IsReply words source bays) (ConsumesWithin source.before source.after (input_limit + 1)) (WasBegun words source bays) sink result
    (λ n text reply. inr (inl (command, named, reply))) (λ within. inl (command, named, within, leaves_alone command bays alone))
    (unread_by (λ bytes n text. IsAnswerTo command bytes n text bays) source sink bays error result alone why is)

pub command_read : {E : Type 0} (words : List (List ℕ)) (command : Command) (source sink : Stream) (bays : Bays) (bytes given : List ℕ) (reply : Result Answer E) (result : ℕ) → IsNamed words command
    → Consumes source.before source.after bytes → IsAtEnd source.after → length bytes ≤ input_limit → given ≡ bytes → ConsumesWithin source.before source.after (input_limit + 1)
    → IfOk reply (λ a. IsAnswerTo command given a.status a.text bays) → OnErr reply (LeavesAlone command bays)
    → IsConcluded reply sink.before sink.after sink.faults_before sink.faults_after result → IsAnswered words source sink bays result
command_read words command source sink bays bytes given reply result named all end short same within answer alone is =
    concluded_by (IsReply words source bays) (WasBegun words source bays) sink reply result
    (replies reply (read_by (λ b n text. IsAnswerTo command b n text bays) source bays bytes given reply all end short same answer)) (begun reply alone) is
  where
    replies : {E : Type 0} (r : Result Answer E) → IfOk r (λ a. IsReplyOf command source bays a.status a.text) → IfOk r (λ a. IsReply words source bays a.status a.text)
    replies (Ok a) made = inr (inl (command, named, made))
    replies (Err e) made = tt

    begun : {E : Type 0} (r : Result Answer E) → OnErr r (LeavesAlone command bays) → OnErr r (WasBegun words source bays)
    begun (Ok a) left = tt
    begun (Err e) left = inl (command, named, within, left)

-- and of `run`
pub run_unread : (source sink : Stream) (bays : Bays) (error : ReadAllError) (result : ℕ) → IsLeftAlone bays → IsStopped source error → IsUnread error sink.before sink.after sink.faults_before sink.faults_after result → IsRunAnswered source sink bays result
run_unread source sink bays error result alone why is = unread_by (λ bytes n text. IsAnswerToRun bytes n text bays) source sink bays error result alone why is

pub run_read : {E : Type 0} (source sink : Stream) (bays : Bays) (bytes given : List ℕ) (reply : Result Answer E) (result : ℕ) → Consumes source.before source.after bytes → IsAtEnd source.after → length bytes ≤ input_limit → given ≡ bytes
    → ConsumesWithin source.before source.after (input_limit + 1) → IfOk reply (λ a. IsAnswerToRun given a.status a.text bays) → IsConcluded reply sink.before sink.after sink.faults_before sink.faults_after result → IsRunAnswered source sink bays result
run_read source sink bays bytes given reply result all end short same within answer is =
    concluded_by (IsReplyOfRun source bays) (ConsumesWithin source.before source.after (input_limit + 1)) sink reply result
    (read_by (λ b n text. IsAnswerToRun b n text bays) source bays bytes given reply all end short same answer) (on_error reply within) is
