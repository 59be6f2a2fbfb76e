-- What a telling bay tells of a run.
use Rattle.std.proofs.Common.{◌≡◌, ℕ, ◌+◌, ◌<◌, ◌≤◌, List, length, sym, ap, subst, ◌∙◌, arith}
use Rattle.std.proofs.lemmas.Option.{slice_get_within}
use Rattle.std.specs.Prelude.{slice_get, Some, Bool, IsTrue, map}
use Rattle.ind_disk.specs.Bay.{CameBack, returned_of, with_one}
use Rattle.ind_disk.specs.Disk.{Standing as DiskStanding}
use Rattle.ind_disk.specs.declared.stop.Stop.{Stop}
use Rattle.spec_model.specs.declared.plan.Setup.{Setup}
use Rattle.run_model.specs.declared.history.History.{History}
use Rattle.run_model.specs.declared.step.Order.{Order}
use Rattle.run_model.specs.declared.step.StepEntry.{StepEntry}
use Rattle.run_model.specs.Locals.{Local}
use Rattle.run_model.specs.Worlds.{Standing}
use Rattle.run_trace.specs.Merging.{IsMerged}
use Rattle.rights_journal.specs.Image.{IsFinished, StandsFor}
use Rattle.batch_storage.specs.Held.{IsLeftBy}
use Rattle.batch_storage.specs.Shown.{Shown, shown_of}
use Rattle.scenario_text.specs.declared.document.StopLine.{StopLine}
use Rattle.replica_course.specs.declared.course.Course.{Course}
use Rattle.replica_course.specs.declared.heard.Heard.{Heard}
use Rattle.replica_course.specs.Courses.{HasStops, failures, history_of, local_of, running_of}
use Rattle.replica_world.specs.Links.{sendings_at}
use Rattle.replica_world.specs.Worlds.{AreRunning, HasStopsAt}
use Rattle.client_runs.specs.Serving.{ups_of}
use Rattle.request_workers.specs.Histories.{BayTells, ComesBack, HasJournal, HasSpent, stops_of}
use Rattle.request_workers.specs.Handing.{AreBack, AreHanded}
use Rattle.client_runs.proofs.Joined.{mapped, some_at, some_same}

-- the disks at the end, with the storages that they were of: each is the journal of its replica
pub record AreDisksOf {D S : Type 0} (standing : D → DiskStanding) (shows : S → Shown) (setup : Setup) (courses : List Course) (storages : List S) (disks : List D) : Type 0 where
  pub whole : length disks ≡ setup.replicas
  pub storages_whole : length storages ≡ length courses
  pub shown : (me : ℕ) (s : S) (d : D) → slice_get storages me ≡ Some s → slice_get disks me ≡ Some d → shows s ≡ shown_of (standing d)
  pub journals : (me : ℕ) (c : Course) (d : D) → slice_get courses me ≡ Some c → slice_get disks me ≡ Some d → IsTrue (standing d).tells → IsLeftBy (IsFinished setup.replicas) (StandsFor setup.replicas) c.kept (running_of c) (standing d).bytes

pub bay_tells : {B D S : Type 0} (standing : D → DiskStanding) (may_leave : D → List ℕ → Type 0) (tells : B → Bool) (has_given : B → ℕ → Type 0) (given : B → ℕ → List (List Stop)) (left : B → ℕ → CameBack) (shows : S → Shown)
    (setup : Setup) (lines : List StopLine) (schedule : List Order) (old middle new : B) (disks ended : List D) (courses : List Course) (storages : List S) (links : List (List Heard)) (h : AreRunning setup schedule courses links)
    → AreHanded standing may_leave tells has_given given left lines setup.replicas old middle disks
    → ((me : ℕ) → HasStopsAt shows courses storages me (length (stops_of me lines)))
    → AreDisksOf standing shows setup courses storages ended
    → AreBack standing tells has_given given left (length ended) middle new ended
    → IsTrue (tells old) → (sorted : List StepEntry) → IsMerged (map (history_of setup) courses) sorted
    → BayTells setup lines (ups_of (map (history_of setup) courses)) sorted h.world (record { tells = tells old; given_before = given old; given_after = given new; left_before = left old; left_after = left new })
bay_tells {B} {D} {S} standing may_leave tells has_given given left shows setup lines schedule old middle new disks ended courses storages links h handed stops disks_of back telling sorted merged =
    let still : IsTrue (tells middle) = subst IsTrue (sym handed.same) telling in
    let storage_at : (me : ℕ) → me < setup.replicas → (s : S) × (slice_get storages me ≡ Some s) = λ me lt. some_at storages me (omega (arith, lt, disks_of.storages_whole, h.whole)) in
    let has_stops : (me : ℕ) (c : Course) (lt : me < setup.replicas) → slice_get courses me ≡ Some c → HasStops (length (stops_of me lines)) (shows (storage_at me lt).0) c = λ me c lt is. stops me c (storage_at me lt).0 is (storage_at me lt).1 in
    let disk_at : (me : ℕ) → me < setup.replicas → (d : D) × (slice_get ended me ≡ Some d) = λ me lt. some_at ended me (omega (arith, lt, disks_of.whole)) in
    let shown : (me : ℕ) (lt : me < setup.replicas) → shows (storage_at me lt).0 ≡ shown_of (standing (disk_at me lt).0) = λ me lt. disks_of.shown me (storage_at me lt).0 (disk_at me lt).0 (storage_at me lt).1 (disk_at me lt).1 in
    let tells_it : (me : ℕ) (c : Course) (lt : me < setup.replicas) → slice_get courses me ≡ Some c → IsTrue (standing (disk_at me lt).0).tells = λ me c lt is. subst (λ (s : Shown). IsTrue s.tells) (shown me lt) (has_stops me c lt is).tells in
    let came_back : (me : ℕ) (c : Course) (lt : me < setup.replicas) → slice_get courses me ≡ Some c → left new me ≡ with_one (left old me) (returned_of (standing (disk_at me lt).0)) = λ me c lt is.
    back.told still me (disk_at me lt).0 (omega (arith, lt, disks_of.whole)) (disk_at me lt).1 (tells_it me c lt is) (subst (λ (s : Shown). IsTrue s.tells_stops) (shown me lt) (has_stops me c lt is).tells_stops)
    ∙ ap (λ (b : CameBack). with_one b (returned_of (standing (disk_at me lt).0))) (handed.nothing_back telling me) in
    record {
      asked = λ r lt. back.asked still r ∙ handed.asked telling r lt;
      nothing_else = λ r le. back.asked still r ∙ handed.nothing_else telling r le;
      stops = λ r up is.
          let one = mapped (λ (k : History). k.first_up) (map (history_of setup) courses) r up is in
          let c = mapped (history_of setup) courses r one.0 one.1 in
          let lt : r < setup.replicas = omega (arith, slice_get_within courses r c.0 c.1, h.whole) in
          let d : D = (disk_at r lt).0 in
          let same : (shows (storage_at r lt).0).stops_left ≡ (standing d).stops_left = ap (λ (s : Shown). s.stops_left) (shown r lt) in
          let few : failures c.0.first_up c.0.entries + (standing d).stops_left ≤ length (stops_of r lines) = omega (arith, (has_stops r c.0 lt c.1).few, same) in
          let Spent : Bool → List StepEntry → Type 0 = λ first_up es. ComesBack (left old r) (left new r) (HasSpent (length (stops_of r lines)) (failures first_up es)) in
          let here : Spent c.0.first_up c.0.entries = (returned_of (standing d), came_back r c.0 lt c.1, few) in
          subst (Spent up) (sym (merged.each r one.0 one.1 ∙ ap (λ (k : History). k.entries) c.2)) (subst (λ (b : Bool). Spent b c.0.entries) (sym (one.2 ∙ ap (λ (k : History). k.first_up) c.2)) here);
      journals = λ r p at.
          let lt : r < setup.replicas = omega (arith, slice_get_within h.world r p at, h.world_whole) in
          let c = some_at courses r (omega (arith, lt, h.whole)) in
          let d : D = (disk_at r lt).0 in
          let l : Local = local_of setup.replicas (sendings_at h.world r) c.0 in
          let stands : l.standing ≡ p = some_same l.standing p (sym (h.each r c.0 c.1).stands.is ∙ at) in
          let journal : IsLeftBy (IsFinished setup.replicas) (StandsFor setup.replicas) c.0.kept (running_of c.0) (standing d).bytes = disks_of.journals r c.0 d c.1 (disk_at r lt).1 (tells_it r c.0 lt c.1) in
          (returned_of (standing d), came_back r c.0 lt c.1, subst (λ (q : Standing). HasJournal setup.replicas q (returned_of (standing d))) stands journal);
      nothing_more = λ r le. back.nothing_more still r (omega (arith, le, disks_of.whole)) ∙ handed.nothing_back telling r;
    }
