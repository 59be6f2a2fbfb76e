-- Steps that have nothing in hand and put nothing.
use Rattle.std.proofs.Common.{◌≡◌, inl, inr, ℕ, Bool, true, false, List, [], ◌∷◌, ◌++◌, length, refl, sym, ap, subst, ◌∙◌}
use Rattle.std.specs.Prelude.{slice_get, Option, Some, None}
use Rattle.std.proofs.lemmas.List.{append-nil}
use Rattle.spec_model.specs.declared.plan.Setup.{Setup}
use Rattle.run_model.specs.declared.batch.Batch.{Batch}
use Rattle.run_model.specs.declared.message.Message.{Message}
use Rattle.run_model.specs.declared.step.Ask.{Ask}
use Rattle.run_model.specs.declared.step.Ask.TheVariants as asks
use Rattle.run_model.specs.declared.step.StepEntry.{StepEntry}
use Rattle.run_model.specs.Locals.{Local, LocalSteps}
use Rattle.run_model.specs.Worlds.{Running, Up, Down, Sending}
use Rattle.local_runs.specs.Handed.{AskFits, HandSteps, IsRefused}
use Rattle.replica_course.specs.Courses.{IsAsBefore, IsCourse, local_of, running_of}
use Rattle.replica_course.specs.Steps as course
use Rattle.replica_course.specs.Steps.{HasInHand, IsCounted, sent_by}
use Rattle.replica_course.specs.declared.answer.Answer.{Answer}
use Rattle.replica_course.specs.declared.course.Course.{Course}
use Rattle.replica_course.specs.declared.heard.Heard.TheVariants as heard
use Rattle.replica_node.specs.Nodes.{IsStill, StaysStill, in_hand}
use Rattle.replica_node.specs.Steps.{Acts, CourseAdds, RestsDown, finds_none}
use Rattle.replica_node.specs.declared.still.Still.{Still}
use Rattle.replica_node.proofs.Grown.{still_same, still_steps}
use Rattle.replica_node.proofs.Stepped.{down_rests, down_sends, down_takes}

never : (n : ℕ) → Some n ≡ None → ⊥
never n is = cc

not_both : {b : Bool} → b ≡ false → b ≡ true → ⊥
not_both false_is true_is = let wrong : false ≡ true = sym false_is ∙ true_is in cc

pub acts_counted : (running : Running) (ask : Ask) (sendings : List Sending) → Acts running ask → IsCounted ask sendings
acts_counted running (asks.Do inst) sendings acts = tt
acts_counted running (asks.Send to None) sendings acts = tt
acts_counted Up (asks.Send to (Some number)) sendings acts = absurd acts
acts_counted (Down pending) (asks.Send to (Some number)) sendings acts = absurd (never number acts)
acts_counted running (asks.Take from number) sendings acts = tt
acts_counted running asks.Crash sendings acts = tt
acts_counted running asks.Recover sendings acts = tt

pub acts_silent : (running : Running) (ask : Ask) (stamp : ℕ) (sent : Option Message) → Acts running ask → sent_by ask stamp sent ≡ []
acts_silent running (asks.Do inst) stamp sent acts = refl
acts_silent running (asks.Send to None) stamp sent acts = refl
acts_silent Up (asks.Send to (Some number)) stamp sent acts = absurd acts
acts_silent (Down pending) (asks.Send to (Some number)) stamp sent acts = absurd (never number acts)
acts_silent running (asks.Take from number) stamp sent acts = refl
acts_silent running asks.Crash stamp sent acts = refl
acts_silent running asks.Recover stamp sent acts = refl

-- none is a send that found no room
pub acts_unrefused : (setup : Setup) (me : ℕ) (running : Running) (ask : Ask) (old new : Local) (heard : Option Sending) (e : StepEntry) → Acts running ask → old.standing.running ≡ running → e.ask ≡ ask → LocalSteps setup me heard old e new → (to : ℕ) → IsRefused to e → ⊥
acts_unrefused setup me running (asks.Do inst) old new heard e acts is asked step to refused = differ (sym asked ∙ refused.asked)
  where
    differ : asks.Do inst ≡ asks.Send to None → ⊥
    differ eq = cc
acts_unrefused setup me Up (asks.Send t number) old new heard e acts is asked step to refused = absurd acts
acts_unrefused setup me (Down pending) (asks.Send t number) old new heard e acts is asked step to refused = down_rests setup me to pending heard old new e step is refused
acts_unrefused setup me running (asks.Take from number) old new heard e acts is asked step to refused = differ (sym asked ∙ refused.asked)
  where
    differ : asks.Take from number ≡ asks.Send to None → ⊥
    differ eq = cc
acts_unrefused setup me running asks.Crash old new heard e acts is asked step to refused = differ (sym asked ∙ refused.asked)
  where
    differ : asks.Crash ≡ asks.Send to None → ⊥
    differ eq = cc
acts_unrefused setup me running asks.Recover old new heard e acts is asked step to refused = differ (sym asked ∙ refused.asked)
  where
    differ : asks.Recover ≡ asks.Send to None → ⊥
    differ eq = cc

-- a replica that is down leaves a send and a take
pub acts_rest : (setup : Setup) (running : Running) (ask : Ask) (before after : List Sending) (old new : Course) (heard : Option Sending) (e : StepEntry) → Acts running ask → running_of old ≡ running → (running_of old ≡ Up → ⊥) → e.ask ≡ ask
    → LocalSteps setup old.me heard (local_of setup.replicas before old) e (local_of setup.replicas after new) → RestsDown ask old e new
acts_rest setup running (asks.Do inst) before after old new heard e acts is down asked step = asked
acts_rest setup Up (asks.Send to number) before after old new heard e acts is down asked step = absurd acts
acts_rest setup (Down pending) (asks.Send to number) before after old new heard e acts is down asked step =
    let none : e.ask ≡ asks.Send to None = asked ∙ ap (asks.Send to) acts in
    let rests = down_sends setup old.me to pending heard (local_of setup.replicas before old) (local_of setup.replicas after new) e step is none in
    (none, rests.0, rests.1)
acts_rest setup Up (asks.Take from number) before after old new heard e acts is down asked step = absurd acts
acts_rest setup (Down pending) (asks.Take from number) before after old new heard e acts is down asked step =
    let none : e.ask ≡ asks.Take from None = asked ∙ ap (asks.Take from) acts in
    let rests = down_takes setup old.me from None pending heard (local_of setup.replicas before old) (local_of setup.replicas after new) e step is none in
    (none, rests.0, rests.1)
acts_rest setup running asks.Crash before after old new heard e acts is down asked step = asked
acts_rest setup running asks.Recover before after old new heard e acts is down asked step = asked

-- so none is a take that found no message
pub acts_busy : (running : Running) (ask : Ask) (old new : Course) (e : StepEntry) → Acts running ask → e.ask ≡ ask → ((running ≡ Up → ⊥) → RestsDown ask old e new) → finds_none e.ask e.outcome ≡ true → ⊥
acts_busy running (asks.Do inst) old new e acts asked rests none = not_both (ap (λ (a : Ask). finds_none a e.outcome) asked) none
acts_busy running (asks.Send to number) old new e acts asked rests none = not_both (ap (λ (a : Ask). finds_none a e.outcome) asked) none
acts_busy Up (asks.Take from number) old new e acts asked rests none = absurd acts
acts_busy (Down pending) (asks.Take from number) old new e acts asked rests none =
    let it = rests differ in
    not_both (ap (λ (a : Ask). finds_none a e.outcome) it.0 ∙ ap (finds_none (asks.Take from None)) it.1) none
  where
    differ : Down pending ≡ Up → ⊥
    differ is = cc
acts_busy running asks.Crash old new e acts asked rests none = not_both (ap (λ (a : Ask). finds_none a e.outcome) asked) none
acts_busy running asks.Recover old new e acts asked rests none = not_both (ap (λ (a : Ask). finds_none a e.outcome) asked) none

-- it stays such a replica
pub acted : {S D : Type 0} (keeps : S → ℕ → List Batch → Running → Type 0) (setup : Setup) (old new : Still S D) (ask : Ask) (answer : Answer) → Acts (running_of old.course) ask → IsCourse setup old.course.me new.course
    → keeps new.storage setup.replicas new.course.kept (running_of new.course) → CourseAdds ask old.course answer new.course
    → ((sendings : List Sending) → IsCounted ask sendings → HandSteps setup old.course.me None (local_of setup.replicas sendings old.course) answer.entry (local_of setup.replicas (sendings ++ sent_by ask answer.entry.stamp answer.sent) new.course))
    → new.hands ≡ old.hands → StaysStill keeps setup old.course.me old new
acted keeps setup old new ask answer acts own kept adds steps hands taken put is =
    let silent : sent_by ask answer.entry.stamp answer.sent ≡ [] = acts_silent (running_of old.course) ask answer.entry.stamp answer.sent acts in (
      taken,
      still_steps keeps setup old new ask heard.Nothing answer taken put taken is own kept adds
          (λ sendings. subst (λ (xs : List Sending). HandSteps setup old.course.me None (local_of setup.replicas sendings old.course) answer.entry (local_of setup.replicas (sendings ++ xs) new.course)) silent
          (steps sendings (acts_counted (running_of old.course) ask sendings acts)))
          (ap length hands ∙ is.hands) (λ k x there. is.from k x (ap (λ hs. slice_get hs k) (sym hands) ∙ there)) (λ from. sym (append-nil (taken from))),
      λ from. ap (λ hs. taken from ++ in_hand hs from) hands,
    )

-- so it does without memory
pub acted_not : {S D : Type 0} (keeps : S → ℕ → List Batch → Running → Type 0) (setup : Setup) (old new : Still S D) → IsCourse setup old.course.me new.course → keeps new.storage setup.replicas new.course.kept (running_of new.course)
    → IsAsBefore old.course new.course → new.hands ≡ old.hands → StaysStill keeps setup old.course.me old new
acted_not keeps setup old new own kept same hands taken put is =
    (taken, still_same keeps setup old new taken put is own kept same hands, λ from. ap (λ hs. taken from ++ in_hand hs from) hands)
