-- A pending batch: what the replica may log once it is known to be kept.
use Rattle.std.proofs.Common.{◌≡◌, inl, inr, ℕ, ◌≤◌, List, [], ◌∷◌, ◌++◌, length, refl, sym, ap, subst, ◌∙◌}
use Rattle.std.specs.Prelude.{slice_get, slice_index, Some, None, Option}
use Rattle.spec_model.specs.declared.plan.Setup.{Setup}
use Rattle.spec_model.specs.declared.log.Body.{Body}
use Rattle.spec_model.specs.declared.log.LogItem.{LogItem}
use Rattle.run_model.specs.declared.batch.Batch.{Batch}
use Rattle.run_model.specs.declared.step.Ask.{Ask}
use Rattle.run_model.specs.declared.step.Ask.TheVariants as asks
use Rattle.run_model.specs.declared.step.Outcome.{Outcome}
use Rattle.run_model.specs.Logs.{Logs, log_at, cut_after}
use Rattle.run_model.specs.Worlds.{Standing, Sending, World, Running, Up, Down, logs_of, logged, logged_all, items_between}
use Rattle.run_model.specs.Steps.{Drafts, Finds, AnswersDown, Answers}
use Rattle.run_model.proofs.Growth.{IsStanding}
use Rattle.run_model.proofs.Answers.{drafts_grown, drafts_running}
use Rattle.run_model.proofs.Taken.{IsTaken, taken_later}
use Rattle.run_model.proofs.Batched.{CanGrow, batch_items, can_grow}
use Rattle.run_model.proofs.Logging.{MayLog, IsKeptBy, logged_all_append, drafts_go}

-- ---- several items

-- the bodies may be logged one after the other
abbrev pub MayLogAll : Setup → Logs → ℕ → Standing → List Body → Type 0
MayLogAll setup logs me p [] = Unit {0}
MayLogAll setup logs me p (b ∷ bodies) = MayLog setup logs me p.log p.cut b × MayLogAll setup logs me (logged me b p) bodies

-- with one more that may be logged then
may_log_more : (setup : Setup) (logs : Logs) (me : ℕ) (p : Standing) (bodies : List Body) (b : Body) → MayLogAll setup logs me p bodies → MayLog setup logs me (logged_all me bodies p).log (logged_all me bodies p).cut b → MayLogAll setup logs me p (bodies ++ b ∷ [])
may_log_more setup logs me p [] b all may = (may, tt)
may_log_more setup logs me p (a ∷ bodies) b all may = (all.0, may_log_more setup logs me (logged me a p) bodies b all.1 may)

-- what stays true as items are logged
pub logged_all_go : (setup : Setup) (logs : Logs) (me : ℕ) (P : List LogItem → List ℕ → Type 0) (p : Standing) (bodies : List Body) → IsKeptBy setup logs me P → MayLogAll setup logs me p bodies → P p.log p.cut → P (logged_all me bodies p).log (logged_all me bodies p).cut
logged_all_go setup logs me P p [] keeps all holds = holds
logged_all_go setup logs me P p (b ∷ bodies) keeps all holds = logged_all_go setup logs me P (logged me b p) bodies keeps all.1 (keeps p b all.0 holds)

-- ---- what leads to a log and a cut

-- from this standing, by bodies that may be logged one after the other
pub record IsLed (setup : Setup) (logs : Logs) (me : ℕ) (start : Standing) (log : List LogItem) (cut : List ℕ) : Type 0 where
  pub bodies : List Body
  pub may : MayLogAll setup logs me start bodies
  pub log_is : (logged_all me bodies start).log ≡ log
  pub cut_is : (logged_all me bodies start).cut ≡ cut

-- a log and a cut with one more item
same_logged : (me : ℕ) (b : Body) (p q : Standing) → q.log ≡ p.log → q.cut ≡ p.cut → ((logged me b q).log ≡ (logged me b p).log) × ((logged me b q).cut ≡ (logged me b p).cut)
same_logged me b p q l c =
    let log_by : List LogItem → List ℕ → List LogItem = λ log cut. let r : Standing = record p { log = log; cut = cut } in (logged me b r).log in
    let cut_by : List LogItem → List ℕ → List ℕ = λ log cut. let r : Standing = record p { log = log; cut = cut } in (logged me b r).cut in
    (ap (λ (x : List LogItem). log_by x q.cut) l ∙ ap (log_by p.log) c, ap (λ (x : List LogItem). cut_by x q.cut) l ∙ ap (cut_by p.log) c)

-- it leads on as the replica logs what it may
led_more : (setup : Setup) (logs : Logs) (me : ℕ) (start : Standing) → IsKeptBy setup logs me (IsLed setup logs me start)
led_more setup logs me start p b may h =
    let q : Standing = logged_all me h.bodies start in
    let there : MayLog setup logs me q.log q.cut b = subst (λ (l : List LogItem). MayLog setup logs me l q.cut b) (sym h.log_is) (subst (λ (c : List ℕ). MayLog setup logs me p.log c b) (sym h.cut_is) may) in
    let ends = logged_all_append me h.bodies (b ∷ []) start in
    let same = same_logged me b p q h.log_is h.cut_is in
    record {
      bodies = h.bodies ++ b ∷ [];
      may = may_log_more setup logs me start h.bodies b h.may there;
      log_is = ap (λ (r : Standing). r.log) ends ∙ same.0;
      cut_is = ap (λ (r : Standing). r.cut) ends ∙ same.1;
    }

-- ---- what is pending

-- a replica of which only log and cut are known
abbrev pub bare : List LogItem → List ℕ → Standing
bare log cut = record { log = log; cut = cut; stamp = 0; wants = []; told = []; sendings = []; running = Up; kept = [] }

-- a batch of the next items of another log, and of items that may be logged once these are applied
pub record CanKeep (setup : Setup) (logs : Logs) (me : ℕ) (log : List LogItem) (cut : List ℕ) (batch : List LogItem) : Type 0 where
  pub can : CanGrow logs me log cut batch
  pub led : IsLed setup logs me (bare log (cut_after cut can.items)) can.draft.log can.draft.cut

-- what may be pending of a replica with this log and cut is such a batch
abbrev pub IsWaiting : Setup → Logs → ℕ → List LogItem → List ℕ → Running → Type 0
IsWaiting setup logs me log cut Up = Unit {0}
IsWaiting setup logs me log cut (Down None) = Unit {0}
IsWaiting setup logs me log cut (Down (Some batch)) = CanKeep setup logs me log cut batch.items

-- so of every replica
pub record HasWaiting (setup : Setup) (w : World) : Type 0 where
  pub each : (i : ℕ) (p : Standing) → slice_get w i ≡ Some p → IsWaiting setup (logs_of w) i p.log p.cut p.running

-- a draft's batch is such a batch
pub draft_can : (setup : Setup) (logs : Logs) (me stamp : ℕ) (old : Standing) (outcome : Outcome) (new : Standing) (heard : Option Sending) (admitted : List LogItem) (ask : Ask)
    → IsStanding me old.log old.cut → ((j : ℕ) → slice_index old.cut j ≤ length (log_at logs j)) → IsTaken logs me old.cut admitted → Drafts setup logs me heard admitted stamp ask old outcome new → CanKeep setup logs me old.log old.cut (items_between admitted old new)
draft_can setup logs me stamp old outcome new heard admitted ask stands within took drafts =
    let later = (taken_later logs me old.cut admitted took within).0 in
    let start : Standing = bare old.log (cut_after old.cut admitted) in
    record {
      can = record { items = admitted; taken = took; draft = new; grown = drafts_grown setup logs me stamp old outcome new heard admitted ask stands later drafts; is = refl };
      led = drafts_go setup logs me stamp (IsLed setup logs me start) old outcome new heard admitted ask (led_more setup logs me start) stands within later took (record { bodies = []; may = tt; log_is = refl; cut_is = refl }) drafts;
    }

-- ---- the steps

-- where log and cut stay and nothing is applied
same_go : (P : List LogItem → List ℕ → Type 0) (applied : List LogItem) (old new : Standing) → applied ≡ [] → new.log ≡ old.log → new.cut ≡ old.cut → P old.log (cut_after old.cut applied) → P new.log new.cut
same_go P applied old new none log cut holds =
    subst (λ (l : List LogItem). P l new.cut) (sym log) (subst (λ (c : List ℕ). P old.log c) (sym cut) (subst (λ (items : List LogItem). P old.log (cut_after old.cut items)) none holds))

-- what holds of log and cut with what is applied, and stays true as items are logged, holds after a recovery
finds_go : (setup : Setup) (logs : Logs) (replicas me : ℕ) (P : List LogItem → List ℕ → Type 0) (pending : Option Batch) (applied : List LogItem) (old : Standing) (outcome : Outcome) (new : Standing) → IsKeptBy setup logs me P → IsStanding me old.log old.cut
    → ((j : ℕ) → slice_index old.cut j ≤ length (log_at logs j)) → IsWaiting setup logs me old.log old.cut (Down pending) → P old.log (cut_after old.cut applied) → Finds replicas me pending applied old outcome new → P new.log new.cut
finds_go setup logs replicas me P None applied old outcome new keeps stands within waits holds h = same_go P applied old new h.0 (ap (λ (p : Standing). p.log) h.2) (ap (λ (p : Standing). p.cut) h.2) holds
finds_go setup logs replicas me P (Some batch) applied old outcome new keeps stands within waits holds h =
    elim h [
      | inl kept ↦
          let can = waits.can in
          let led = waits.led in
          let is = can_grow logs me old.log old.cut batch.items stands within can in
          let start : Standing = bare old.log (cut_after old.cut can.items) in
          let begins : P start.log start.cut = subst (λ (items : List LogItem). P old.log (cut_after old.cut items)) (kept.0 ∙ is.others) holds in
          let ends : P (logged_all me led.bodies start).log (logged_all me led.bodies start).cut = logged_all_go setup logs me P start led.bodies keeps led.may begins in
          let drafted : P can.draft.log can.draft.cut = subst (λ (l : List LogItem). P l can.draft.cut) led.log_is (subst (λ (c : List ℕ). P (logged_all me led.bodies start).log c) led.cut_is ends) in
          subst (λ (l : List LogItem). P l new.cut) (sym (ap (λ (p : Standing). p.log) kept.2 ∙ is.log_is)) (subst (λ (c : List ℕ). P can.draft.log c) (sym (ap (λ (p : Standing). p.cut) kept.2 ∙ is.cut_is)) drafted)
      | inr lost ↦ same_go P applied old new lost.0 (ap (λ (p : Standing). p.log) lost.2) (ap (λ (p : Standing). p.cut) lost.2) holds
    ]

-- after what a replica does that is down
down_go : (setup : Setup) (logs : Logs) (replicas me : ℕ) (P : List LogItem → List ℕ → Type 0) (pending : Option Batch) (applied : List LogItem) (stamp : ℕ) (ask : Ask) (old : Standing) (outcome : Outcome) (new : Standing) → IsKeptBy setup logs me P
    → IsStanding me old.log old.cut → ((j : ℕ) → slice_index old.cut j ≤ length (log_at logs j)) → IsWaiting setup logs me old.log old.cut (Down pending) → P old.log (cut_after old.cut applied) → AnswersDown replicas me pending applied stamp ask old outcome new → P new.log new.cut
down_go setup logs replicas me P pending applied stamp (asks.Do inst) old outcome new keeps stands within waits holds h = same_go P applied old new h.0 (ap (λ (p : Standing). p.log) h.2) (ap (λ (p : Standing). p.cut) h.2) holds
down_go setup logs replicas me P pending applied stamp (asks.Send to (Some number)) old outcome new keeps stands within waits holds h =
    same_go P applied old new h.0 (ap (λ (p : Standing). p.log) h.1.becomes) (ap (λ (p : Standing). p.cut) h.1.becomes) holds
down_go setup logs replicas me P pending applied stamp (asks.Send to None) old outcome new keeps stands within waits holds h =
    same_go P applied old new h.0 (ap (λ (p : Standing). p.log) h.2) (ap (λ (p : Standing). p.cut) h.2) holds
down_go setup logs replicas me P pending applied stamp (asks.Take from number) old outcome new keeps stands within waits holds h =
    same_go P applied old new h.0 (ap (λ (p : Standing). p.log) h.2) (ap (λ (p : Standing). p.cut) h.2) holds
down_go setup logs replicas me P pending applied stamp asks.Crash old outcome new keeps stands within waits holds h = same_go P applied old new h.0 (ap (λ (p : Standing). p.log) h.2) (ap (λ (p : Standing). p.cut) h.2) holds
down_go setup logs replicas me P pending applied stamp asks.Recover old outcome new keeps stands within waits holds h =
    elim h [
      | inl found ↦ finds_go setup logs replicas me P pending applied old outcome new keeps stands within waits holds found
      | inr failed ↦ same_go P applied old new failed.0 (ap (λ (p : Standing). p.log) failed.2) (ap (λ (p : Standing). p.cut) failed.2) holds
    ]

-- after any answer
pub answers_go : (setup : Setup) (logs : Logs) (me : ℕ) (running : Running) (stamp : ℕ) (P : List LogItem → List ℕ → Type 0) (old : Standing) (outcome : Outcome) (new : Standing) (heard : Option Sending) (admitted applied : List LogItem) (ask : Ask) → IsKeptBy setup logs me P
    → IsStanding me old.log old.cut → ((j : ℕ) → slice_index old.cut j ≤ length (log_at logs j)) → IsWaiting setup logs me old.log old.cut running → IsTaken logs me old.cut admitted → P old.log (cut_after old.cut applied)
    → Answers setup logs me running heard admitted applied stamp ask old outcome new → P new.log new.cut
answers_go setup logs me Up stamp P old outcome new heard admitted applied ask keeps stands within waits tried holds answers =
    elim answers.ends [
      | inl whole ↦
          let later = (taken_later logs me old.cut admitted tried within).0 in
          let begins = subst (λ (items : List LogItem). P old.log (cut_after old.cut items)) whole.0 holds in
          subst (λ (p : Standing). P p.log p.cut) (sym whole.2) (drafts_go setup logs me stamp P old answers.would answers.draft heard admitted ask keeps stands within later tried begins answers.drafts)
      | inr broken ↦ same_go P applied old new broken.2 (ap (λ (p : Standing). p.log) broken.4) (ap (λ (p : Standing). p.cut) broken.4) holds
    ]
answers_go setup logs me (Down pending) stamp P old outcome new heard admitted applied ask keeps stands within waits tried holds answers =
    down_go setup logs setup.replicas me P pending applied stamp ask old outcome new keeps stands within waits holds answers.1

-- ---- what is pending after a step

-- where nothing new is pending
waiting_same : (setup : Setup) (logs : Logs) (me : ℕ) (old new : Standing) (running : Running) → new.log ≡ old.log → new.cut ≡ old.cut → new.running ≡ running → IsWaiting setup logs me old.log old.cut running → IsWaiting setup logs me new.log new.cut new.running
waiting_same setup logs me old new running log cut runs waits =
    subst (IsWaiting setup logs me new.log new.cut) (sym runs) (subst (λ (l : List LogItem). IsWaiting setup logs me l new.cut running) (sym log) (subst (λ (c : List ℕ). IsWaiting setup logs me old.log c running) (sym cut) waits))

-- of a replica that is up nothing is
waiting_up : (setup : Setup) (logs : Logs) (me : ℕ) (new : Standing) → new.running ≡ Up → IsWaiting setup logs me new.log new.cut new.running
waiting_up setup logs me new runs = subst (IsWaiting setup logs me new.log new.cut) (sym runs) tt

finds_waiting : (setup : Setup) (logs : Logs) (replicas me : ℕ) (pending : Option Batch) (applied : List LogItem) (old : Standing) (outcome : Outcome) (new : Standing) → Finds replicas me pending applied old outcome new → IsWaiting setup logs me new.log new.cut new.running
finds_waiting setup logs replicas me None applied old outcome new h = waiting_up setup logs me new (ap (λ (p : Standing). p.running) h.2)
finds_waiting setup logs replicas me (Some batch) applied old outcome new h =
    elim h [ inl kept ↦ waiting_up setup logs me new (ap (λ (p : Standing). p.running) kept.2) | inr lost ↦ waiting_up setup logs me new (ap (λ (p : Standing). p.running) lost.2) ]

rests_waiting : (setup : Setup) (logs : Logs) (me : ℕ) (pending : Option Batch) (old new : Standing) → old.running ≡ Down pending → IsWaiting setup logs me old.log old.cut (Down pending) → new ≡ old → IsWaiting setup logs me new.log new.cut new.running
rests_waiting setup logs me pending old new runs waits is =
    waiting_same setup logs me old new (Down pending) (ap (λ (p : Standing). p.log) is) (ap (λ (p : Standing). p.cut) is) (ap (λ (p : Standing). p.running) is ∙ runs) waits

down_waiting : (setup : Setup) (logs : Logs) (replicas me : ℕ) (pending : Option Batch) (applied : List LogItem) (stamp : ℕ) (ask : Ask) (old : Standing) (outcome : Outcome) (new : Standing) → old.running ≡ Down pending
    → IsWaiting setup logs me old.log old.cut (Down pending) → AnswersDown replicas me pending applied stamp ask old outcome new → IsWaiting setup logs me new.log new.cut new.running
down_waiting setup logs replicas me pending applied stamp (asks.Do inst) old outcome new runs waits h = rests_waiting setup logs me pending old new runs waits h.2
down_waiting setup logs replicas me pending applied stamp (asks.Send to (Some number)) old outcome new runs waits h =
    waiting_same setup logs me old new (Down pending) (ap (λ (p : Standing). p.log) h.1.becomes) (ap (λ (p : Standing). p.cut) h.1.becomes) (ap (λ (p : Standing). p.running) h.1.becomes ∙ runs) waits
down_waiting setup logs replicas me pending applied stamp (asks.Send to None) old outcome new runs waits h = rests_waiting setup logs me pending old new runs waits h.2
down_waiting setup logs replicas me pending applied stamp (asks.Take from number) old outcome new runs waits h = rests_waiting setup logs me pending old new runs waits h.2
down_waiting setup logs replicas me pending applied stamp asks.Crash old outcome new runs waits h = rests_waiting setup logs me pending old new runs waits h.2
down_waiting setup logs replicas me pending applied stamp asks.Recover old outcome new runs waits h =
    elim h [ inl found ↦ finds_waiting setup logs replicas me pending applied old outcome new found | inr failed ↦ rests_waiting setup logs me pending old new runs waits failed.2 ]

-- by the logs before it
pub answers_waiting : (setup : Setup) (logs : Logs) (me : ℕ) (running : Running) (stamp : ℕ) (old : Standing) (outcome : Outcome) (new : Standing) (heard : Option Sending) (admitted applied : List LogItem) (ask : Ask)
    → IsStanding me old.log old.cut → ((j : ℕ) → slice_index old.cut j ≤ length (log_at logs j)) → old.running ≡ running → IsWaiting setup logs me old.log old.cut running → IsTaken logs me old.cut admitted
    → Answers setup logs me running heard admitted applied stamp ask old outcome new → IsWaiting setup logs me new.log new.cut new.running
answers_waiting setup logs me Up stamp old outcome new heard admitted applied ask stands within runs waits tried answers =
    elim answers.ends [
      | inl whole ↦ subst (λ (p : Standing). IsWaiting setup logs me p.log p.cut p.running) (sym whole.2) (elim (drafts_running setup logs me stamp old answers.would answers.draft heard admitted ask answers.drafts) [
        | inl same ↦ waiting_up setup logs me answers.draft (same ∙ runs)
        | inr down ↦ subst (IsWaiting setup logs me answers.draft.log answers.draft.cut) (sym down) tt
      ])
      | inr broken ↦
          waiting_same setup logs me old new (Down (Some broken.0)) (ap (λ (p : Standing). p.log) broken.4) (ap (λ (p : Standing). p.cut) broken.4) (ap (λ (p : Standing). p.running) broken.4)
          (subst (CanKeep setup logs me old.log old.cut) (sym (batch_items (items_between admitted old answers.draft) broken.0 broken.1))
          (draft_can setup logs me stamp old answers.would answers.draft heard admitted ask stands within tried answers.drafts))
    ]
answers_waiting setup logs me (Down pending) stamp old outcome new heard admitted applied ask stands within runs waits tried answers =
    down_waiting setup logs setup.replicas me pending applied stamp ask old outcome new runs waits answers.1
