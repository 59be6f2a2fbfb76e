-- A send that is made: what was put, and its link full.
use Rattle.std.proofs.Common.{◌≡◌, ℕ, ◌+◌, ◌<◌, ◌≤◌, Bool, List, [], ◌∷◌, ◌++◌, length, refl, sym, ap, subst, ◌∙◌, arith}
use Rattle.std.specs.Prelude.{slice_get, slice_set, Option, Some, None}
use Rattle.std.proofs.lemmas.List.{length-append}
use Rattle.std.proofs.lemmas.List.Sums.{count_by-le-length, length-filter}
use Rattle.std.proofs.lemmas.Option.{same_Some}
use Rattle.spec_model.specs.declared.plan.Setup.{Setup}
use Rattle.run_model.specs.declared.batch.Batch.{Batch}
use Rattle.run_model.specs.declared.message.Message.{Message}
use Rattle.run_model.specs.declared.step.Ask.{Ask}
use Rattle.run_model.specs.declared.step.Ask.TheVariants as asks
use Rattle.run_model.specs.declared.step.Outcome.TheVariants as outcomes
use Rattle.run_model.specs.declared.step.StepEntry.{StepEntry}
use Rattle.run_model.specs.Locals.{Local}
use Rattle.run_model.specs.Worlds.{Running, Up, Down, Sending, sent_to}
use Rattle.batch_storage.specs.Shown.{Costs, Shown}
use Rattle.local_runs.specs.Handed.{HandSteps, IsPeer, Puts, sending_of}
use Rattle.replica_course.specs.Courses.{IsCourse, local_of, running_of}
use Rattle.replica_course.specs.Parts.{entry_of}
use Rattle.replica_course.specs.Steps as course
use Rattle.replica_course.specs.Steps.{SentFits, sent_by}
use Rattle.replica_course.specs.declared.answer.Answer.{Answer}
use Rattle.replica_course.specs.declared.course.Course.{Course}
use Rattle.replica_node.specs.Ends.{AddsOne, AreSame}
use Rattle.replica_node.specs.Nodes.{IsNode, IsSending, asks_send, sends_to}
use Rattle.replica_node.specs.Steps.{AddsEntry, CourseAdds, IsOf, NumberedUp}
use Rattle.replica_node.specs.declared.node.Node.{Node}
use Rattle.replica_node.specs.declared.still.Still.{Still}
use Rattle.replica_node.proofs.Putting.{found_full, full_adds, full_course, has_put, put_adds, sent_before, sent_is}
use Rattle.replica_node.proofs.Stepped.{last_same}

-- a failure told by less
pub costs_less : (P Q : Type 0) (old mid new : Shown) → Costs old mid P → new ≡ mid → (Q → P) → Costs old new Q
costs_less P Q old mid new costs same less =
    let it : Costs old mid Q = record {
      tells = costs.tells;
      tells_stops = costs.tells_stops;
      faults = costs.faults;
      no_more_stops = costs.no_more_stops;
      failed = λ q. costs.failed (less q);
      spent = λ q. costs.spent (less q);
    } in
    subst (λ (x : Shown). Costs old x Q) (sym same) it

sends_few : (to : ℕ) (es : List StepEntry) → sends_to to es ≤ length es
sends_few to es = let p : StepEntry → Bool = λ e. asks_send to e.ask in subst (λ n. n ≤ length es) (sym (length-filter p es)) (count_by-le-length p es)

module _ {S E D M : Type 0} (keeps : S → ℕ → List Batch → Running → Type 0) (mark : E → M) (owner : M → ℕ) (reaches : M → ℕ → Type 0) (room : M → ℕ → ℕ) (puts gots : E → ℕ → List Message) (setup : Setup) where
  -- the next message was made
  pub is_sending : (to number : ℕ) (answer : Answer) (old now : Node S E D M) → IsNode keeps mark owner reaches room puts gots setup old.still.course.me old → running_of old.still.course ≡ Up → length old.still.course.entries < 100000
      → now ≡ record old { still = record old.still { course = now.still.course; storage = now.still.storage } } → IsCourse setup old.still.course.me now.still.course
      → keeps now.still.storage setup.replicas now.still.course.kept (running_of now.still.course) → IsPeer setup old.still.course.me to → slice_get old.counts to ≡ Some number
      → CourseAdds (asks.Send to (Some number)) old.still.course answer now.still.course → SentFits setup old.still.course.me (asks.Send to (Some number)) answer.entry.stamp answer.sent
      → ((sendings : List Sending) → number ≡ length (sent_to to sendings)
      → HandSteps setup old.still.course.me None (local_of setup.replicas sendings old.still.course) answer.entry (local_of setup.replicas (sendings ++ sent_by (asks.Send to (Some number)) answer.entry.stamp answer.sent) now.still.course))
      → IsSending keeps mark owner reaches room puts gots setup to number answer old now
  is_sending to number answer old now was up few becomes own kept peer count adds fits steps = record {
    was = was;
    up = up;
    few = few;
    becomes = becomes;
    own = own;
    kept = kept;
    peer = peer;
    counted = same_Some number (length (puts old.ends to)) (sym count ∙ was.counted to peer);
    adds = adds;
    fits = fits;
    steps = steps;
  }

  -- its number has a place
  pub has_count : (to number : ℕ) (answer : Answer) (old now : Node S E D M) → IsSending keeps mark owner reaches room puts gots setup to number answer old now → slice_get now.counts to ≡ Some number
  has_count to number answer old now h =
      ap (λ (n : Node S E D M). slice_get n.counts to) h.becomes ∙ h.was.counted to h.peer ∙ ap Some (sym h.counted)

  -- its number is small
  pub number_few : (to number : ℕ) (answer : Answer) (old now : Node S E D M) → IsSending keeps mark owner reaches room puts gots setup to number answer old now → number < 100000
  number_few to number answer old now h = let le = h.was.asked to in let few = sends_few to old.still.course.entries in let lt = h.few in omega (arith, h.counted, le, few, lt)

  -- its message was put
  pub put_done : (to number : ℕ) (answer : Answer) (old now : Node S E D M) (m : Message) (ends : E) (counts : List ℕ) → IsSending keeps mark owner reaches room puts gots setup to number answer old now → answer.sent ≡ Some m
      → mark ends ≡ mark now.ends → AddsOne m.to m (puts now.ends) (puts ends) → AreSame (gots now.ends) (gots ends) → counts ≡ slice_set now.counts to (number + 1)
      → IsNode keeps mark owner reaches room puts gots setup old.still.course.me (record now { ends = ends; counts = counts }) × IsOf old.still.course now.still.course × AddsEntry (asks.Send to None) answer.entry old.still.course now.still.course
  put_done to number answer old now m ends counts h is same put got count =
      let adds = put_adds keeps mark owner reaches room puts gots setup to number answer old now h in
      let node = has_put keeps mark owner reaches room puts gots setup to number answer old now m ends h is (same ∙ ap (λ (n : Node S E D M). mark n.ends) h.becomes) (subst (λ (n : Node S E D M). AddsOne m.to m (puts n.ends) (puts ends)) h.becomes put)
      (subst (λ (n : Node S E D M). AreSame (gots n.ends) (gots ends)) h.becomes got) in
      let it : Node S E D M = record now { ends = ends; counts = counts } in
      let becomes : it ≡ record old { still = record old.still { course = now.still.course; storage = now.still.storage }; ends = ends; counts = slice_set old.counts to (number + 1) } =
      ap (λ (cs : List ℕ). let n : Node S E D M = record now { ends = ends; counts = cs } in n) count ∙ ap (λ (n : Node S E D M). let x : Node S E D M = record n { ends = ends; counts = slice_set n.counts to (number + 1) } in x) h.becomes in
      (subst (IsNode keeps mark owner reaches room puts gots setup old.still.course.me) (sym becomes) node, adds.0, adds.1)

  -- its link was full
  pub full_done : (to number : ℕ) (answer : Answer) (old now : Node S E D M) (m : Message) (ends : E) (e : StepEntry) (after : Course) → IsSending keeps mark owner reaches room puts gots setup to number answer old now → answer.sent ≡ Some m
      → e ≡ entry_of now.still.course now.still.course.stamp (asks.Send to None) outcomes.Full
      → ((front : List StepEntry) (last : StepEntry) → now.still.course.entries ≡ front ++ last ∷ [] → after ≡ record now.still.course { entries = front ++ e ∷ [] })
      → mark ends ≡ mark now.ends → AreSame (puts now.ends) (puts ends) → room (mark now.ends) m.to ≤ length (puts now.ends m.to) → AreSame (gots now.ends) (gots ends)
      → IsNode keeps mark owner reaches room puts gots setup old.still.course.me (record now { still = record now.still { course = after }; ends = ends }) × IsOf old.still.course after × AddsEntry (asks.Send to None) e old.still.course after
  full_done to number answer old now m ends e after h is entry ended same put no_room got =
      let course : Course = full_course old.still.course now.still.course e in
      let becomes : after ≡ course = ended old.still.course.entries answer.entry h.adds.entries in
      let adds = full_adds keeps mark owner reaches room puts gots setup to number answer old now e h entry in
      let node = found_full keeps mark owner reaches room puts gots setup to number answer old now m ends e h is entry (same ∙ ap (λ (n : Node S E D M). mark n.ends) h.becomes) (subst (λ (n : Node S E D M). AreSame (puts n.ends) (puts ends)) h.becomes put)
      (subst (λ (n : Node S E D M). room (mark n.ends) m.to ≤ length (puts n.ends m.to)) h.becomes no_room) (subst (λ (n : Node S E D M). AreSame (gots n.ends) (gots ends)) h.becomes got) in
      let it : Node S E D M = record now { still = record now.still { course = after }; ends = ends } in
      let is_it : it ≡ record old { still = record old.still { course = course; storage = now.still.storage }; ends = ends } =
      ap (λ (c : Course). let n : Node S E D M = record now { still = record now.still { course = c }; ends = ends } in n) becomes
      ∙ ap (λ (n : Node S E D M). let x : Node S E D M = record n { still = record n.still { course = course }; ends = ends } in x) h.becomes in (
        subst (IsNode keeps mark owner reaches room puts gots setup old.still.course.me) (sym is_it) node,
        subst (IsOf old.still.course) (sym becomes) adds.0,
        subst (AddsEntry (asks.Send to None) e old.still.course) (sym becomes) adds.1,
      )
