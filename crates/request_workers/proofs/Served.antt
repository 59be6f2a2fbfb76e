-- What a telling bay tells of a run of clients.
use Rattle.std.proofs.Common.{◌≡◌, ℕ, ◌<◌, ◌≤◌, List, length, map, sym, ap, subst, ◌∙◌, arith}
use Rattle.std.proofs.lemmas.Option.{slice_get_within}
use Rattle.std.specs.Prelude.{slice_get, Some, Bool, IsTrue}
use Rattle.std.proofs.lemmas.List.{length-map}
use Rattle.ind_disk.specs.Bay.{CameBack, returned_of, with_one}
use Rattle.ind_disk.specs.Disk.{Standing as DiskStanding}
use Rattle.ind_disk.specs.declared.stop.Stop.{Stop}
use Rattle.spec_model.specs.declared.plan.Setup.{Setup}
use Rattle.run_model.specs.declared.batch.Batch.{Batch}
use Rattle.run_model.specs.declared.history.History.{History}
use Rattle.run_model.specs.declared.step.StepEntry.{StepEntry}
use Rattle.run_model.specs.Locals.{Local}
use Rattle.run_model.specs.Sound.{IsSettled}
use Rattle.run_model.specs.Worlds.{Running, Standing, World}
use Rattle.run_trace.specs.Merging.{IsMerged}
use Rattle.rights_journal.specs.Image.{IsFinished, StandsFor}
use Rattle.batch_storage.specs.Held.{IsLeftBy}
use Rattle.batch_storage.specs.Shown.{shown_of}
use Rattle.scenario_text.specs.declared.document.StopLine.{StopLine}
use Rattle.replica_course.specs.declared.course.Course.{Course}
use Rattle.replica_course.specs.Courses.{HasStops, failures, history_of, local_of, running_of}
use Rattle.client_asks.specs.Asking.{ClientWork}
use Rattle.client_runs.specs.Laws.{AreServedRun, ServedIsLegal}
use Rattle.request_workers.specs.Handing.{AreBack, AreHanded}
use Rattle.client_runs.specs.Serving.{ups_of}
use Rattle.request_workers.specs.Histories.{BayTells, Bays, ComesBack, HasSpent, stops_of}
use Rattle.request_workers.specs.Serving.{AreServed}
use Rattle.request_workers.specs.Taking.{HasRun}
use Rattle.client_runs.proofs.Joined.{mapped, some_at, some_same}

-- what a journal leaves of a replica
abbrev left_by : ℕ → List Batch → Running → List ℕ → Type 0
left_by n = IsLeftBy (IsFinished n) (StandsFor n)

module _ {B D : Type 0} (standing : D → DiskStanding) (may_leave : D → List ℕ → Type 0) (tells : B → Bool) (has_given : B → ℕ → Type 0) (given : B → ℕ → List (List Stop)) (left : B → ℕ → CameBack)
    (setup : Setup) (work : ClientWork) (lines : List StopLine) (old middle new : B) (disks ended : List D) (histories : List History)
    (handed : AreHanded standing may_leave tells has_given given left lines setup.replicas old middle disks) (run : HasRun standing left_by setup work disks histories ended)
    (back : AreBack standing tells has_given given left (length ended) middle new ended) where
  abbrev bays : Bays
  bays = record { tells = tells old; given_before = given old; given_after = given new; left_before = left old; left_after = left new }

  -- the disk of a replica at the end, and what came back of it
  record IsReturned (me : ℕ) (c : Course) : Type 0 where
    disk : D
    there : slice_get ended me ≡ Some disk
    stops : HasStops (length (stops_of me lines)) (shown_of (standing disk)) c
    came : left new me ≡ with_one (left old me) (returned_of (standing disk))

  returned : IsTrue (tells old) → (me : ℕ) (c : Course) → slice_get run.courses me ≡ Some c → IsReturned me c
  returned telling me c is =
      let lt : me < setup.replicas = omega (arith, slice_get_within run.courses me c is, run.served.closed.whole) in
      let before = some_at disks me (omega (arith, lt, handed.whole)) in
      let d = some_at ended me (omega (arith, lt, run.whole)) in
      let has : HasStops (length (stops_of me lines)) (shown_of (standing d.0)) c = run.stops me (length (stops_of me lines)) c before.0 d.0 is before.1 d.1 (handed.told telling me before.0 before.1) in
      record {
        disk = d.0;
        there = d.1;
        stops = has;
        came = back.told (subst IsTrue (sym handed.same) telling) me d.0 (omega (arith, lt, run.whole)) d.1 has.tells has.tells_stops
            ∙ ap (λ (b : CameBack). with_one b (returned_of (standing d.0))) (handed.nothing_back telling me);
      }

  bay_tells : IsTrue (tells old) → (sorted : List StepEntry) (world : World) → IsMerged (map (history_of setup) run.courses) sorted → length world ≡ setup.replicas
      → ((me : ℕ) (c : Course) → slice_get run.courses me ≡ Some c → (p : Standing) → slice_get world me ≡ Some p → (p.kept ≡ c.kept) × (p.running ≡ running_of c))
      → BayTells setup lines (ups_of (map (history_of setup) run.courses)) sorted world bays
  bay_tells telling sorted world merged long stand =
      let still : IsTrue (tells middle) = subst IsTrue (sym handed.same) telling in
      record {
        asked = λ r lt. back.asked still r ∙ handed.asked telling r lt;
        nothing_else = λ r le. back.asked still r ∙ handed.nothing_else telling r le;
        stops = λ r up is.
            let one = mapped (λ (k : History). k.first_up) (map (history_of setup) run.courses) r up is in
            let c = mapped (history_of setup) run.courses r one.0 one.1 in
            let its = returned telling r c.0 c.1 in
            let Spent : Bool → List StepEntry → Type 0 = λ first_up es. ComesBack (left old r) (left new r) (HasSpent (length (stops_of r lines)) (failures first_up es)) in
            let here : Spent c.0.first_up c.0.entries = (returned_of (standing its.disk), its.came, its.stops.few) in
            subst (Spent up) (sym (merged.each r one.0 one.1 ∙ ap (λ (k : History). k.entries) c.2)) (subst (λ (b : Bool). Spent b c.0.entries) (sym (one.2 ∙ ap (λ (k : History). k.first_up) c.2)) here);
        journals = λ r p at.
            let lt : r < setup.replicas = omega (arith, slice_get_within world r p at, long) in
            let c = some_at run.courses r (omega (arith, lt, run.served.closed.whole)) in
            let its = returned telling r c.0 c.1 in
            let same = stand r c.0 c.1 p at in
            let journal : left_by setup.replicas c.0.kept (running_of c.0) (standing its.disk).bytes = run.journals r c.0 its.disk c.1 its.there its.stops.tells in
            (returned_of (standing its.disk), its.came, subst (λ (r : Running). left_by setup.replicas p.kept r (standing its.disk).bytes) (sym same.1) (subst (λ (bs : List Batch). left_by setup.replicas bs (running_of c.0) (standing its.disk).bytes) (sym same.0) journal));
        nothing_more = λ r le. back.nothing_more still r (omega (arith, le, run.whole)) ∙ handed.nothing_back telling r;
      }

  -- a replica of the run stands in its world with what it kept, up or down as it is
  stands_so : (sorted : List StepEntry) (world : World) → AreServedRun setup work run.courses sorted world → (me : ℕ) (c : Course) → slice_get run.courses me ≡ Some c → (p : Standing) → slice_get world me ≡ Some p → (p.kept ≡ c.kept) × (p.running ≡ running_of c)
  stands_so sorted world served me c is p at =
      let one = served.stand me c is in
      let l : Local = local_of setup.replicas one.0 c in
      let same : p ≡ l.standing = some_same p l.standing (sym at ∙ one.1.is) in
      (ap (λ (q : Standing). q.kept) same, ap (λ (q : Standing). q.running) same)

  pub are_served : ServedIsLegal → IsSettled setup → setup.replicas ≤ 8 → AreServed setup work lines histories bays
  are_served law settled few =
      let its = law setup work run.courses run.taken run.put settled (omega (arith, few)) run.served in
      subst (λ (hs : List History). AreServed setup work lines hs bays) (sym run.shown) (record {
        whole = length-map run.courses (history_of setup) ∙ run.served.closed.whole;
        own = its.0;
        legal = λ entries merged.
            let one = its.1 entries merged in
            record {
              world = one.0;
              run = one.1.run;
              disks = λ telling. bay_tells telling entries one.0 merged one.1.whole (stands_so entries one.0 one.1);
            };
      })
