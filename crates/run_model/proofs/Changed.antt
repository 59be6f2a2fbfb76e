-- What a step does to its replica: log and cut grow, and what is pending can be kept.
use Rattle.std.proofs.Common.{◌≡◌, inl, inr, ℕ, ◌≤◌, List, [], ◌++◌, length, refl, sym, ap, subst, ◌∙◌}
use Rattle.std.specs.Prelude.{slice_get, slice_index, Some, None, Option}
use Rattle.std.specs.List.{AllByRecursion}
use Rattle.spec_model.specs.declared.plan.Setup.{Setup}
use Rattle.spec_model.specs.declared.log.LogItem.{LogItem}
use Rattle.run_model.specs.declared.batch.Batch.{Batch}
use Rattle.run_model.specs.declared.step.Ask.{Ask}
use Rattle.run_model.specs.declared.step.Ask.TheVariants as asks
use Rattle.run_model.specs.declared.step.Outcome.{Outcome}
use Rattle.run_model.specs.declared.step.StepEntry.{StepEntry}
use Rattle.run_model.specs.Logs.{Logs, log_at, cut_after}
use Rattle.run_model.specs.Worlds.{Standing, Sending, World, Running, Up, Down, logs_of, batch_of, items_between}
use Rattle.run_model.specs.Steps.{Finds, AnswersUp, AnswersDown, Answers, Steps}
use Rattle.run_model.proofs.Growth.{IsStanding, HasGrown, grown_first, grown_like}
use Rattle.run_model.proofs.Answers.{drafts_grown, drafts_running, IsSent, SendsMore, answers_sendings}
use Rattle.run_model.proofs.Taken.{IsTaken, taken_later}
use Rattle.run_model.proofs.Batched.{IsPending, batch_items, can_grow}

-- how a replica stands among these logs, and what it sent
pub record IsWell (n : ℕ) (logs : Logs) (me : ℕ) (p : Standing) : Type 0 where
  pub stands : IsStanding me p.log p.cut
  pub wide : length p.cut ≡ n
  pub within : (j : ℕ) → slice_index p.cut j ≤ length (log_at logs j)
  pub sent : AllByRecursion (IsSent me p.log) p.sendings
  pub pending : IsPending logs me p.log p.cut p.running

-- all replicas of the world stand so
pub record IsKept (n : ℕ) (w : World) : Type 0 where
  pub whole : length w ≡ n
  pub each : (me : ℕ) (p : Standing) → slice_get w me ≡ Some p → IsWell n (logs_of w) me p

-- log and cut have grown by what is applied and logged, and the sendings by what is sent; what is pending can be kept
pub record HasStepped (logs : Logs) (me stamp : ℕ) (old : Standing) (applied : List LogItem) (new : Standing) : Type 0 where
  pub grown : HasGrown me old.log (cut_after old.cut applied) new
  pub sent : SendsMore me stamp old.log old.sendings new.sendings
  pub pending : IsPending logs me new.log new.cut new.running

-- log and cut have grown so, and what is pending can be kept
pub record Grows (logs : Logs) (me : ℕ) (old : Standing) (applied : List LogItem) (new : Standing) : Type 0 where
  pub grown : HasGrown me old.log (cut_after old.cut applied) new
  pub pending : IsPending logs me new.log new.cut new.running

-- where log and cut stay, and the replica is up or nothing new is pending
pub grows_same : (logs : Logs) (me : ℕ) (old : Standing) (applied : List LogItem) (new : Standing) (running : Running) → IsStanding me old.log old.cut → applied ≡ [] → new.log ≡ old.log → new.cut ≡ old.cut → new.running ≡ running
    → IsPending logs me old.log old.cut running → Grows logs me old applied new
grows_same logs me old applied new running stands none log cut runs waits = record {
  grown = subst (λ (items : List LogItem). HasGrown me old.log (cut_after old.cut items) new) (sym none) (grown_like me old.log old.cut old new log cut (grown_first me old stands));
  pending = subst (IsPending logs me new.log new.cut) (sym runs) (subst (λ (l : List LogItem). IsPending logs me l new.cut running) (sym log) (subst (λ (c : List ℕ). IsPending logs me old.log c running) (sym cut) waits));
}

-- a recovery
pub finds_grows : (logs : Logs) (replicas me : ℕ) (pending : Option Batch) (applied : List LogItem) (old : Standing) (outcome : Outcome) (new : Standing) → IsStanding me old.log old.cut → ((j : ℕ) → slice_index old.cut j ≤ length (log_at logs j))
    → IsPending logs me old.log old.cut (Down pending) → Finds replicas me pending applied old outcome new → Grows logs me old applied new
finds_grows logs replicas me None applied old outcome new stands within pending h =
    grows_same logs me old applied new Up stands h.0 (ap (λ (p : Standing). p.log) h.2) (ap (λ (p : Standing). p.cut) h.2) (ap (λ (p : Standing). p.running) h.2) tt
finds_grows logs replicas me (Some batch) applied old outcome new stands within pending h =
    elim h [
      | inl kept ↦
          let is = can_grow logs me old.log old.cut batch.items stands within pending in
          let grown : HasGrown me old.log (cut_after old.cut pending.items) new =
          grown_like me old.log (cut_after old.cut pending.items) pending.draft new (ap (λ (p : Standing). p.log) kept.2 ∙ is.log_is) (ap (λ (p : Standing). p.cut) kept.2 ∙ is.cut_is) pending.grown in
          record {
            grown = subst (λ (items : List LogItem). HasGrown me old.log (cut_after old.cut items) new) (sym (kept.0 ∙ is.others)) grown;
            pending = subst (IsPending logs me new.log new.cut) (sym (ap (λ (p : Standing). p.running) kept.2)) tt;
          }
      | inr lost ↦ grows_same logs me old applied new Up stands lost.0 (ap (λ (p : Standing). p.log) lost.2) (ap (λ (p : Standing). p.cut) lost.2) (ap (λ (p : Standing). p.running) lost.2) tt
    ]

-- where nothing is done
pub rests_grow : (logs : Logs) (me : ℕ) (pending : Option Batch) (applied : List LogItem) (old new : Standing) → IsStanding me old.log old.cut → old.running ≡ Down pending → IsPending logs me old.log old.cut (Down pending) → applied ≡ [] → new ≡ old
    → Grows logs me old applied new
rests_grow logs me pending applied old new stands runs waits none is =
    grows_same logs me old applied new (Down pending) stands none (ap (λ (p : Standing). p.log) is) (ap (λ (p : Standing). p.cut) is) (ap (λ (p : Standing). p.running) is ∙ runs) waits

-- what a replica does that is down
pub down_grows : (logs : Logs) (replicas me : ℕ) (pending : Option Batch) (applied : List LogItem) (stamp : ℕ) (ask : Ask) (old : Standing) (outcome : Outcome) (new : Standing) → IsStanding me old.log old.cut
    → ((j : ℕ) → slice_index old.cut j ≤ length (log_at logs j)) → old.running ≡ Down pending → IsPending logs me old.log old.cut (Down pending) → AnswersDown replicas me pending applied stamp ask old outcome new → Grows logs me old applied new
down_grows logs replicas me pending applied stamp (asks.Do inst) old outcome new stands within runs waits h = rests_grow logs me pending applied old new stands runs waits h.0 h.2
down_grows logs replicas me pending applied stamp (asks.Send to (Some number)) old outcome new stands within runs waits h =
    grows_same logs me old applied new (Down pending) stands h.0 (ap (λ (p : Standing). p.log) h.1.becomes) (ap (λ (p : Standing). p.cut) h.1.becomes) (ap (λ (p : Standing). p.running) h.1.becomes ∙ runs) waits
down_grows logs replicas me pending applied stamp (asks.Send to None) old outcome new stands within runs waits h = rests_grow logs me pending applied old new stands runs waits h.0 h.2
down_grows logs replicas me pending applied stamp (asks.Take from number) old outcome new stands within runs waits h = rests_grow logs me pending applied old new stands runs waits h.0 h.2
down_grows logs replicas me pending applied stamp asks.Crash old outcome new stands within runs waits h = rests_grow logs me pending applied old new stands runs waits h.0 h.2
down_grows logs replicas me pending applied stamp asks.Recover old outcome new stands within runs waits h =
    elim h [
      | inl found ↦ finds_grows logs replicas me pending applied old outcome new stands within waits found
      | inr failed ↦ rests_grow logs me pending applied old new stands runs waits failed.0 failed.2
    ]

-- what a replica does that is up
pub up_grows : (setup : Setup) (logs : Logs) (me : ℕ) (heard : Option Sending) (admitted applied : List LogItem) (stamp : ℕ) (ask : Ask) (old : Standing) (outcome : Outcome) (new : Standing) → IsStanding me old.log old.cut
    → ((j : ℕ) → slice_index old.cut j ≤ length (log_at logs j)) → old.running ≡ Up → IsTaken logs me old.cut admitted → AnswersUp setup logs me heard admitted applied stamp ask old outcome new → Grows logs me old applied new
up_grows setup logs me heard admitted applied stamp ask old outcome new stands within runs tried answers =
    let draft : Standing = answers.draft in
    let later = (taken_later logs me old.cut admitted tried within).0 in
    let grown = drafts_grown setup logs me stamp old answers.would draft heard admitted ask stands later answers.drafts in
    let nothing : IsPending logs me draft.log draft.cut draft.running = elim (drafts_running setup logs me stamp old answers.would draft heard admitted ask answers.drafts) [
      | inl same ↦ subst (IsPending logs me draft.log draft.cut) (sym (same ∙ runs)) tt
      | inr down ↦ subst (IsPending logs me draft.log draft.cut) (sym down) tt
    ] in
    elim answers.ends [
      | inl whole ↦ record {
        grown = subst (λ (items : List LogItem). HasGrown me old.log (cut_after old.cut items) new) (sym whole.0) (subst (HasGrown me old.log (cut_after old.cut admitted)) (sym whole.2) grown);
        pending = subst (λ (p : Standing). IsPending logs me p.log p.cut p.running) (sym whole.2) nothing;
      }
      | inr broken ↦
          grows_same logs me old applied new (Down (Some broken.0)) stands broken.2 (ap (λ (p : Standing). p.log) broken.4) (ap (λ (p : Standing). p.cut) broken.4) (ap (λ (p : Standing). p.running) broken.4)
          (record { items = admitted; taken = tried; draft = draft; grown = grown; is = batch_items (items_between admitted old draft) broken.0 broken.1 })
    ]

pub answers_grow : (setup : Setup) (logs : Logs) (me : ℕ) (running : Running) (heard : Option Sending) (admitted applied : List LogItem) (stamp : ℕ) (ask : Ask) (old : Standing) (outcome : Outcome) (new : Standing) → IsStanding me old.log old.cut
    → ((j : ℕ) → slice_index old.cut j ≤ length (log_at logs j)) → old.running ≡ running → IsPending logs me old.log old.cut running → IsTaken logs me old.cut admitted → Answers setup logs me running heard admitted applied stamp ask old outcome new → Grows logs me old applied new
answers_grow setup logs me Up heard admitted applied stamp ask old outcome new stands within runs waits tried answers = up_grows setup logs me heard admitted applied stamp ask old outcome new stands within runs tried answers
answers_grow setup logs me (Down pending) heard admitted applied stamp ask old outcome new stands within runs waits tried answers =
    down_grows logs setup.replicas me pending applied stamp ask old outcome new stands within runs waits answers.1

-- a step does so
pub steps_stepped : (setup : Setup) (logs : Logs) (n me : ℕ) (heard : Option Sending) (admitted applied : List LogItem) (old : Standing) (entry : StepEntry) (new : Standing) → IsWell n logs me old → IsTaken logs me old.cut admitted
    → Steps setup logs me heard admitted applied old entry new → HasStepped logs me entry.stamp old applied new
steps_stepped setup logs n me heard admitted applied old entry new well tried h =
    let stamped : Standing = record h.after { stamp = entry.stamp; kept = old.kept ++ batch_of (items_between applied old h.after) } in
    let grows = answers_grow setup logs me old.running heard admitted applied entry.stamp entry.ask old entry.outcome h.after well.stands well.within refl well.pending tried h.answers in
    subst (λ (p : Standing). HasStepped logs me entry.stamp old applied p) (sym h.becomes) (record {
      grown = grown_like me old.log (cut_after old.cut applied) h.after stamped refl refl grows.grown;
      sent = answers_sendings setup logs me old.running entry.stamp old entry.outcome h.after heard admitted applied entry.ask h.answers;
      pending = grows.pending;
    })
