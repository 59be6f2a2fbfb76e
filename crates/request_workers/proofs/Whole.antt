-- What replicas did that served clients, with their closing takes, and their disks.
use Rattle.std.proofs.Common.{◌≡◌, ◌≢◌, ◌⊎◌, inl, inr, ℕ, ◌+◌, ◌-◌, ◌*◌, ◌<◌, ◌≤◌, List, [], ◌∷◌, ◌++◌, length, map, refl, sym, ap, subst, ◌∙◌, arith}
use Rattle.std.proofs.lemmas.Option.{slice_get_within}
use Rattle.std.specs.Prelude.{slice_get, slice_index, Some}
use Rattle.std.specs.List.{AllByRecursion}
use Rattle.std.specs.Option.{option_map_or}
use Rattle.std.proofs.lemmas.Bool.{cases_lt}
use Rattle.std.proofs.lemmas.List.{append_assoc, length-append, length-map}
use Rattle.ind_disk.specs.Bay.{TellsAll}
use Rattle.ind_disk.specs.Disk.{Standing as DiskStanding}
use Rattle.spec_model.specs.declared.plan.Setup.{Setup}
use Rattle.run_model.specs.declared.batch.Batch.{Batch}
use Rattle.run_model.specs.declared.history.History.{History}
use Rattle.run_model.specs.declared.message.Message.{Message}
use Rattle.run_model.specs.declared.step.StepEntry.{StepEntry}
use Rattle.run_model.specs.Worlds.{Running, Sending}
use Rattle.batch_storage.specs.Shown.{Shown, shown_of}
use Rattle.local_runs.specs.Alone.{IsFront, RunsAlone, gots_in}
use Rattle.local_runs.specs.Handed.{AskFits, IsPeer, IsRefused}
use Rattle.local_runs.specs.Laws.{AloneIsCounted}
use Rattle.replica_course.specs.Courses.{HasStops, history_of, local_of, running_of}
use Rattle.replica_course.specs.declared.course.Course.{Course}
use Rattle.replica_node.specs.Nodes.{in_hand, sends_to}
use Rattle.replica_node.specs.declared.still.Still.{Still}
use Rattle.replica_wires.specs.declared.passes.Passes.{Passes}
use Rattle.replica_wires.specs.declared.web.Web.{Web}
use Rattle.replica_wires.specs.Passing.{AreSettled, put_for}
use Rattle.replica_wires.specs.Webs.{HasRooms, replicas_of, room_on}
use Rattle.scenario_text.specs.WellFormed.{ClientsFit}
use Rattle.client_asks.specs.Asking.{ClientWork, courier_asks, sends_in}
use Rattle.client_runs.specs.Alone.{HaveServed, ServesAlone}
use Rattle.client_runs.specs.Serving.{asked_in}
use Rattle.client_runs.proofs.Counted.{sends_are}
use Rattle.client_runs.proofs.Joined.{mapped, some_at, some_same, takes_same}
use Rattle.request_workers.specs.Taking.{AreFinished, HasRun, HasTaken, HaveTaken, TakesFronts, to_take}
use Rattle.request_workers.proofs.Over.{AreOver, IsOver, alone_fits, sends_same}
use Rattle.request_workers.proofs.Taking.{both_all, index_is}

-- ---- no link was full

-- a send that is asked goes to another replica
refused_peer : (setup : Setup) (me to : ℕ) (e : StepEntry) → AskFits setup me e.ask → IsRefused to e → IsPeer setup me to
refused_peer setup me to e fits refused = subst (AskFits setup me) refused.asked fits

-- where no link to a replica that there is was full, none was
none_full : (setup : Setup) (me : ℕ) (P : ℕ → Type 0) (es : List StepEntry) → AllByRecursion (λ (e : StepEntry). AskFits setup me e.ask) es → AllByRecursion (λ (e : StepEntry). (to : ℕ) → IsRefused to e → P to) es
    → ((to : ℕ) → IsPeer setup me to → P to → ⊥) → AllByRecursion (λ (e : StepEntry). (to : ℕ) → IsRefused to e → ⊥) es
none_full setup me P [] fit full never = tt
none_full setup me P (e ∷ es) fit full never = ((λ to refused. never to (refused_peer setup me to e fit.0 refused) (full.0 to refused)), none_full setup me P es fit.1 full.1 never)

module _ {S D : Type 0} (keeps : S → ℕ → List Batch → Running → Type 0) (shows : S → Shown) (standing : D → DiskStanding) (comes_back : ℕ → List Batch → Running → List ℕ → Type 0) (setup : Setup) (work : ClientWork) (web : Web) (rooms : List ℕ) where
  -- what is known of the links
  pub record AreLinked : Type 0 where
    pub replicas : replicas_of web ≡ setup.replicas
    pub rooms_are : HasRooms rooms web
    pub enough : (from to : ℕ) → from < setup.replicas → to < setup.replicas → sends_in to (courier_asks setup.replicas from work.turns) ≤ slice_index rooms (from * setup.replicas + to)

  room_enough : AreLinked → (me to : ℕ) → me < setup.replicas → to < setup.replicas → sends_in to (courier_asks setup.replicas me work.turns) ≤ room_on web me to
  room_enough linked me to lt less =
      let is : room_on web me to ≡ slice_index rooms (me * setup.replicas + to) = linked.rooms_are me to (omega (arith, lt, linked.replicas)) (omega (arith, less, linked.replicas)) ∙ ap (λ n. slice_index rooms (me * n + to)) linked.replicas in
      omega (arith, is, linked.enough me to lt less)

  -- no send of its turns found a link full
  never_full : ClientsFit setup.spec setup.replicas work.turns work.homes work.asked → AreLinked → (me : ℕ) (d : D) (s : Still S D) (p : Passes) → me < setup.replicas → IsOver keeps shows standing setup work web me d s p
      → AllByRecursion (λ (e : StepEntry). (to : ℕ) → IsRefused to e → ⊥) s.course.entries
  never_full fit linked me d s p lt over =
      none_full setup me (λ to. room_on web me to < sends_to to s.course.entries) s.course.entries (alone_fits setup me s.course.first_up over.taken (put_for me p) s.course.entries _ over.still.alone) over.full (λ to peer full.
      let sends : sends_to to s.course.entries ≡ sends_in to (courier_asks setup.replicas me work.turns) = sends_same to s.course.entries ∙ sends_are setup.spec setup.replicas work me to (asked_in s.course.entries) fit over.asked in
      omega (arith, full, sends, room_enough linked me to lt peer.0))

  module _ (disks : List D) (stills nows : List (Still S D)) (passes : List Passes) (left : List (List (List Message)))
      (fit : ClientsFit setup.spec setup.replicas work.turns work.homes work.asked) (linked : AreLinked) (over : AreOver keeps shows standing setup work web disks stills passes)
      (settled : AreSettled web passes left) (took : HaveTaken keeps shows setup setup.replicas left stills nows) where
    -- one replica, with all that is known of it
    pub record Here (me : ℕ) : Type 0 where
      pub disk : D
      pub disk_at : slice_get disks me ≡ Some disk
      pub before : Still S D
      pub before_at : slice_get stills me ≡ Some before
      pub its : Passes
      pub its_at : slice_get passes me ≡ Some its
      pub lists : List (List Message)
      pub lists_at : slice_get left me ≡ Some lists
      pub now : Still S D
      pub now_at : slice_get nows me ≡ Some now
      pub turns_over : IsOver keeps shows standing setup work web me disk before its
      pub taken : HasTaken keeps shows setup me setup.replicas lists before now

    pub here : (me : ℕ) → me < setup.replicas → Here me
    here me lt =
        let d = some_at disks me (omega (arith, lt, over.disks_whole)) in
        let s = some_at stills me (omega (arith, lt, over.whole)) in
        let p = some_at passes me (omega (arith, lt, over.passes_whole)) in
        let l = some_at left me (omega (arith, lt, settled.whole, linked.replicas)) in
        let n = some_at nows me (omega (arith, lt, took.whole, over.whole)) in
        record {
          disk = d.0;
          disk_at = d.1;
          before = s.0;
          before_at = s.1;
          its = p.0;
          its_at = p.1;
          lists = l.0;
          lists_at = l.1;
          now = n.0;
          now_at = n.1;
          turns_over = over.each me d.0 s.0 p.0 d.1 s.1 p.1;
          taken = took.each me s.0 n.0 l.0 lt s.1 n.1 l.1;
        }

    abbrev pub fronts : (me : ℕ) (h : Here me) → TakesFronts keeps setup me setup.replicas (to_take h.before h.lists) h.turns_over.taken (put_for me h.its) h.now
    fronts me h = h.taken.takes h.turns_over.taken (put_for me h.its) h.turns_over.still

    -- what each took, and what it put
    pub taken_by : (me : ℕ) → (me < setup.replicas) ⊎ (setup.replicas ≤ me) → ℕ → List Message
    taken_by me (inl lt) = (fronts me (here me lt)).after
    taken_by me (inr le) = λ from. []

    abbrev pub taken_all : ℕ → ℕ → List Message
    taken_all me = taken_by me (cases_lt me setup.replicas)

    abbrev pub put_all : ℕ → ℕ → List Message
    put_all me to = option_map_or (λ p. put_for me p to) (slice_get passes me) []

    put_here : (me : ℕ) (h : Here me) (to : ℕ) → put_all me to ≡ put_for me h.its to
    put_here me h to = ap (λ o. option_map_or (λ p. put_for me p to) o []) h.its_at

    put_same : (me : ℕ) (h : Here me) → put_all me ≡ put_for me h.its
    put_same me h = ap (λ o. λ (to : ℕ). option_map_or (λ p. put_for me p to) o []) h.its_at

    abbrev pub courses : List Course
    courses = map (λ (s : Still S D). s.course) nows

    -- the replica of a course
    course_here : (me : ℕ) (c : Course) (lt : me < setup.replicas) → slice_get courses me ≡ Some c → (here me lt).now.course ≡ c
    course_here me c lt is =
        let m = mapped (λ (s : Still S D). s.course) nows me c is in
        ap (λ (s : Still S D). s.course) (some_same (here me lt).now m.0 (sym (here me lt).now_at ∙ m.1)) ∙ sym m.2

    courses_long : length courses ≡ setup.replicas
    courses_long = length-map nows (λ (s : Still S D). s.course) ∙ took.whole ∙ over.whole

    course_within : (me : ℕ) (c : Course) → slice_get courses me ≡ Some c → me < setup.replicas
    course_within me c is = omega (arith, slice_get_within courses me c is, courses_long)

    -- it ran by itself
    runs_by : (me : ℕ) (c : Course) → slice_get courses me ≡ Some c → (place : (me < setup.replicas) ⊎ (setup.replicas ≤ me)) → (sendings : List Sending) × RunsAlone setup me c.first_up (taken_by me place) (put_all me) c.entries (local_of setup.replicas sendings c)
    unfolding taken_by here
    runs_by me c is (inl lt) =
        let h = here me lt in
        let f = fronts me h in
        subst (λ (x : Course). (sendings : List Sending) × RunsAlone setup me x.first_up f.after (put_all me) x.entries (local_of setup.replicas sendings x)) (course_here me c lt is)
        (subst (λ (put : ℕ → List Message). (sendings : List Sending) × RunsAlone setup me h.now.course.first_up f.after put h.now.course.entries (local_of setup.replicas sendings h.now.course)) (sym (put_same me h)) (f.still.sendings, f.still.alone))
    runs_by me c is (inr le) = absurd (omega (arith, course_within me c is, le))

    -- what was put for a replica: what it took before its closing takes, and what there was to take then
    put_is : (me from : ℕ) (mine : Here me) (theirs : Here from) → from < setup.replicas → put_for from theirs.its me ≡ mine.turns_over.taken from ++ to_take mine.before mine.lists from
    put_is me from mine theirs less =
        let l = some_at mine.lists from (omega (arith, less, settled.each_whole me mine.lists mine.lists_at, linked.replicas)) in
        let passed = (settled.each me mine.lists mine.lists_at).passed from l.0 theirs.its mine.its l.1 theirs.its_at mine.its_at in
        passed
        ∙ ap (λ (ms : List Message). ms ++ l.0) (mine.turns_over.got from)
        ∙ append_assoc (mine.turns_over.taken from) (in_hand mine.before.hands from) l.0
        ∙ ap (λ (ms : List Message). mine.turns_over.taken from ++ (in_hand mine.before.hands from ++ ms)) (sym (index_is mine.lists from l.0 [] l.1))

    passed_by : (me from : ℕ) (place : (me < setup.replicas) ⊎ (setup.replicas ≤ me)) → me < setup.replicas → from < setup.replicas → from ≢ me → IsFront (taken_by me place from) (put_all from me)
    unfolding taken_by here
    passed_by me from (inl lt) _ less other =
        let mine = here me lt in
        let theirs = here from less in
        let f = (fronts me mine).fronts from less other in
        let rest = f.1 in (
          rest.0,
          put_here from theirs me
              ∙ put_is me from mine theirs less
              ∙ ap (λ (ms : List Message). mine.turns_over.taken from ++ ms) rest.1
              ∙ sym (append_assoc (mine.turns_over.taken from) f.0 rest.0)
              ∙ ap (λ (ms : List Message). ms ++ rest.0) (sym f.2),
        )
    passed_by me from (inr le) lt less other = absurd (omega (arith, lt, le))

    never_refused : (me : ℕ) (c : Course) → slice_get courses me ≡ Some c → AllByRecursion (λ (e : StepEntry). (to : ℕ) → IsRefused to e → ⊥) c.entries
    never_refused me c is =
        let lt = course_within me c is in
        let h = here me lt in
        let adds = h.taken.closing in
        subst (λ (x : Course). AllByRecursion (λ (e : StepEntry). (to : ℕ) → IsRefused to e → ⊥) x.entries) (course_here me c lt is)
        (subst (AllByRecursion (λ (e : StepEntry). (to : ℕ) → IsRefused to e → ⊥)) (sym adds.entries)
        (both_all (λ (e : StepEntry). (to : ℕ) → IsRefused to e → ⊥) h.before.course.entries adds.closing (never_full fit linked me h.disk h.before h.its lt h.turns_over) adds.unrefused))

    -- it took just what was put for it and what it hadn't got
    takes_are : AloneIsCounted → (me : ℕ) (h : Here me) (peer : ℕ) → peer < setup.replicas → length (to_take h.before h.lists peer) ≡ length (put_all peer me) - gots_in peer h.before.course.entries
    takes_are counts me h peer less =
        let theirs = here peer less in
        let put_long : length (put_all peer me) ≡ length (h.turns_over.taken peer) + length (to_take h.before h.lists peer) = ap length (put_here peer theirs me ∙ put_is me peer h theirs less) ∙ length-append (h.turns_over.taken peer) (to_take h.before h.lists peer) in
        let gots : gots_in peer h.before.course.entries ≡ length (h.turns_over.taken peer) = (counts setup me h.before.course.first_up h.turns_over.taken (put_for me h.its) h.before.course.entries _ h.turns_over.still.alone).1 peer in
        omega (arith, put_long, gots)

    serves : AloneIsCounted → (me : ℕ) (c : Course) → slice_get courses me ≡ Some c → ServesAlone setup work put_all me c.entries
    serves counts me c is =
        let lt = course_within me c is in
        let h = here me lt in
        let adds = h.taken.closing in
        subst (λ (x : Course). ServesAlone setup work put_all me x.entries) (course_here me c lt is) (record {
          turns = h.before.course.entries;
          closing = adds.closing;
          parts = adds.entries;
          asked = h.turns_over.asked;
          closing_asked = adds.asked ∙ takes_same (λ peer. length (to_take h.before h.lists peer)) (λ peer. length (put_all peer me) - gots_in peer h.before.course.entries) me setup.replicas (takes_are counts me h);
          found = adds.found;
        })

    pub have_served : AloneIsCounted → HaveServed setup work courses taken_all put_all
    have_served counts = record {
      closed = record {
        whole = courses_long;
        each = λ me c is. runs_by me c is (cases_lt me setup.replicas);
        passed = λ me from lt less other. passed_by me from (cases_lt me setup.replicas) lt less other;
        never_full = never_refused;
      };
      place = λ me c is.
          let lt = course_within me c is in
          let h = here me lt in
          subst (λ (x : Course). x.me ≡ me) (course_here me c lt is) (fronts me h).still.own.me_is;
      served = serves counts;
    }

    -- each can be finished
    pub all_still : (me : ℕ) (s : Still S D) → slice_get nows me ≡ Some s → (lt : me < setup.replicas) → (h : Here me) × (h.now ≡ s)
    all_still me s is lt = let h = here me lt in (h, some_same h.now s (sym h.now_at ∙ is))

    pub has_run : AloneIsCounted → (histories : List History) (ended : List D) → AreFinished standing shows comes_back setup nows histories ended → HasRun standing comes_back setup work disks histories ended
    has_run counts histories ended finished = record {
      courses = courses;
      taken = taken_all;
      put = put_all;
      served = have_served counts;
      shown = finished.histories_are ∙ histories_map nows;
      whole = finished.whole ∙ took.whole ∙ over.whole;
      journals = λ me c d is at.
          let m = mapped (λ (s : Still S D). s.course) nows me c is in
          λ tells. subst (λ (x : Course). comes_back setup.replicas x.kept (running_of x) (standing d).bytes) (sym m.2) (finished.journals me m.0 d m.1 at tells);
      stops = λ me given c before d is before_at at tells.
          let lt = course_within me c is in
          let h = here me lt in
          let disk_is : h.disk ≡ before = some_same h.disk before (sym h.disk_at ∙ before_at) in
          let had = h.turns_over.stops given (subst (λ (x : D). TellsAll given (standing x)) (sym disk_is) tells) in
          let has : HasStops given (shows h.now.storage) h.now.course = h.taken.stops given had in
          subst (λ (x : Course). HasStops given (shown_of (standing d)) x) (course_here me c lt is) (subst (λ (w : Shown). HasStops given w h.now.course) (finished.shown me h.now d h.now_at at) has);
    }
      where
        histories_map : (ss : List (Still S D)) → map (λ (s : Still S D). history_of setup s.course) ss ≡ map (history_of setup) (map (λ (s : Still S D). s.course) ss)
        histories_map [] = refl
        histories_map (s ∷ ss) = ap (λ (hs : List History). history_of setup s.course ∷ hs) (histories_map ss)
