-- Runs of replicas by themselves are one run, entry by entry.
use Rattle.std.proofs.Common.{◌≡◌, ◌≢◌, inl, inr, ℕ, zero, suc, ◌<◌, ◌≤◌, Bool, List, [], ◌∷◌, ◌++◌, length, map, refl, sym, ap, subst, ◌∙◌, arith, length-set, eq-eqb}
use Rattle.std.specs.Prelude.{slice_get, slice_set, Option, Some, None, if◌then◌else◌}
use Rattle.std.specs.List.{AllByRecursion}
use Rattle.std.proofs.lemmas.Bool.{cases_eq, cases_lt}
use Rattle.std.proofs.lemmas.List.{append-nil, append_assoc, length-map, length-replicate}
use Rattle.std.proofs.lemmas.List.Concat.{flat_map-append, flat_map-cons}
use Rattle.std.proofs.lemmas.Option.{same_Some, slice_get_within}
use Rattle.spec_model.specs.declared.plan.Setup.{Setup}
use Rattle.run_model.specs.declared.message.Message.{Message}
use Rattle.run_model.specs.declared.step.Ask.TheVariants as asks
use Rattle.run_model.specs.declared.step.StepEntry.{StepEntry}
use Rattle.run_model.specs.Fitting.{AsksFit, DoFits}
use Rattle.run_model.specs.Locals.{Local, LocalStepIsOne, StandsIn, StepsHere, first_local}
use Rattle.run_model.specs.Logs.{log_at}
use Rattle.run_model.specs.Runs.{InOrder, Runs, WorldSteps, entries_at}
use Rattle.run_model.specs.Sound.{IsSettled}
use Rattle.run_model.specs.Steps.{Hears, links_of, next_stamp}
use Rattle.run_model.specs.Worlds.{Running, Up, Sending, World, first_standing, first_world, logs_of, sent_to}
use Rattle.run_model.proofs.Joined.{entries_same, entries_other, knows_nothing}
use Rattle.run_model.proofs.Known.{in_order_late, each_of, earlier_named}
use Rattle.run_model.proofs.Lists.{each_append, get_behind, get_front}
use Rattle.run_model.proofs.WorldLogs.{links_there, logs_there}
use Rattle.message_laws.specs.Laws.{MessagesAreHeeded}
use Rattle.local_runs.specs.Alone.{AreAlone, IsBareWhereDown, RunsAlone}
use Rattle.local_runs.specs.Handed.{Handed, HandRuns, HandSteps, IsHeeded, IsPeer, IsRefused, hand_from, heard_of, sending_of, taken_from}
use Rattle.local_runs.specs.Laws.{AloneIsTogether}
use Rattle.local_runs.proofs.Bare.{bare_step}
use Rattle.local_runs.proofs.Hearing.{IsSent, do_fits, from_peer, hand_is_heard, up_with_one}
use Rattle.local_runs.proofs.Sendings.{AreNumbered, sends_later, sends_numbered}

-- ---- lists

get_map : {X Y : Type 0} (f : X → Y) (xs : List X) (k : ℕ) (x : X) → slice_get xs k ≡ Some x → slice_get (map f xs) k ≡ Some (f x)
get_map f [] k x is = absurd cc
get_map f (y ∷ xs) zero x is = let same : y ≡ x = cc in ap (λ z. Some (f z)) same
get_map f (y ∷ xs) (suc k) x is = get_map f xs k x is

some_at : {X : Type 0} (xs : List X) (k : ℕ) → k < length xs → (x : X) × (slice_get xs k ≡ Some x)
some_at [] k lt = absurd (omega (arith, lt))
some_at (x ∷ xs) zero lt = (x, refl)
some_at (x ∷ xs) (suc k) lt = some_at xs k (omega (arith, lt))

runs_more : (setup : Setup) (a : World) (es : List StepEntry) (b : World) (e : StepEntry) (c : World) → Runs setup a es b → WorldSteps setup b e c → Runs setup a (es ++ e ∷ []) c
runs_more setup a [] b e c runs step = (c, subst (λ w. WorldSteps setup w e c) runs step, refl)
runs_more setup a (f ∷ es) b e c runs step = (runs.0, runs.1, runs_more setup runs.0 es b e c runs.2 step)

taken_more : (from : ℕ) (before steps : List Handed) (s : Handed) → taken_from from before ++ taken_from from (s ∷ steps) ≡ taken_from from (before ++ s ∷ []) ++ taken_from from steps
taken_more from before steps s =
    let f : Handed → List Message = λ x. hand_from from x.hand in
    let front : taken_from from (before ++ s ∷ []) ≡ taken_from from before ++ taken_from from (s ∷ []) = flat_map-append f before (s ∷ []) in
    let one : taken_from from (s ∷ steps) ≡ taken_from from (s ∷ []) ++ taken_from from steps = flat_map-append f (s ∷ []) steps in
    ap (λ (ms : List Message). taken_from from before ++ ms) one
    ∙ sym (append_assoc (taken_from from before) (taken_from from (s ∷ [])) (taken_from from steps))
    ∙ ap (λ (ms : List Message). ms ++ taken_from from steps) (sym front)

-- ---- midway

-- a replica that has taken its part of the steps so far: what is behind leads to how it stands at the end
record IsMidway (setup : Setup) (world : World) (me : ℕ) (rest : List StepEntry) (taken : ℕ → List Message) (last : Local) : Type 0 where
  now : Local
  before : List Handed
  behind : List Handed
  stands : StandsIn world me now
  runs : HandRuns setup me now behind last
  are : map (λ s. s.entry) behind ≡ entries_at me rest
  took : (from : ℕ) → taken from ≡ taken_from from before ++ taken_from from behind
  short : length now.standing.log ≤ 4194304

-- all of them
record AreMidway (setup : Setup) (ups : List Bool) (taken : ℕ → ℕ → List Message) (done rest : List StepEntry) (lasts : List Local) (world : World) : Type 0 where
  runs : Runs setup (first_world setup.replicas ups) done world
  fit : AsksFit setup.spec done
  whole : length world ≡ setup.replicas
  each : (me : ℕ) (l : Local) → slice_get lasts me ≡ Some l → IsMidway setup world me rest (taken me) l

-- what stays so at each entry
record IsGiven (setup : Setup) (ups : List Bool) (taken put : ℕ → ℕ → List Message) (lasts : List Local) : Type 0 where
  one : LocalStepIsOne
  heeded : MessagesAreHeeded
  settled : IsSettled setup
  few : setup.replicas ≤ 16
  all : length ups ≡ setup.replicas
  whole : length lasts ≡ setup.replicas
  passed : (me from : ℕ) → me < setup.replicas → from < setup.replicas → from ≢ me → (rest : List Message) × (put from me ≡ taken me from ++ rest)
  sent : (me : ℕ) (l : Local) → slice_get lasts me ≡ Some l → (to : ℕ) → sent_to to l.standing.sendings ≡ map sending_of (put me to)
  numbered : (me : ℕ) (l : Local) → slice_get lasts me ≡ Some l → AreNumbered l.standing.sendings

-- the entry that is next, and its replica
record IsNow (setup : Setup) (lasts : List Local) (taken : ℕ → List Message) (e : StepEntry) (es : List StepEntry) (world : World) (s : Handed) (steps : List Handed) (now middle last : Local) : Type 0 where
  within : e.replica < setup.replicas
  order : InOrder (e ∷ es)
  unrefused : (to : ℕ) → IsRefused to e → ⊥
  there : slice_get lasts e.replica ≡ Some last
  before : List Handed
  stands : StandsIn world e.replica now
  step : HandSteps setup e.replica s.hand now e middle
  runs : HandRuns setup e.replica middle steps last
  are : map (λ s. s.entry) steps ≡ entries_at e.replica es
  took : (from : ℕ) → taken from ≡ taken_from from before ++ taken_from from (s ∷ steps)

-- ---- the next entry

-- the message stands where it is taken, at the place that is next
taken_there : (from : ℕ) (before steps : List Handed) (s : Handed) (m : Message) → s.hand ≡ Some m → m.from ≡ from → slice_get (taken_from from before ++ taken_from from (s ∷ steps)) (length (taken_from from before)) ≡ Some m
taken_there from before steps s m is at =
    let f : Handed → List Message = λ x. hand_from from x.hand in
    let hand : hand_from from s.hand ≡ m ∷ [] = ap (hand_from from) is ∙ ap (λ b. if b then m ∷ [] else []) (eq-eqb m.from from at) in
    let here : taken_from from (s ∷ steps) ≡ m ∷ taken_from from steps = flat_map-cons f s steps ∙ ap (λ (ms : List Message). ms ++ taken_from from steps) hand in
    let tb : List Message = taken_from from before in
    ap (slice_get (tb ++ taken_from from (s ∷ steps))) (omega arith)
    ∙ get_behind tb (taken_from from (s ∷ steps)) 0
    ∙ ap (λ (ms : List Message). slice_get ms 0) here

-- a message in hand stands on its link already
sent_now : (setup : Setup) (ups : List Bool) (taken put : ℕ → ℕ → List Message) (lasts : List Local) (done : List StepEntry) (e : StepEntry) (es : List StepEntry) (world : World) (s : Handed) (steps : List Handed) (now middle last : Local)
    → IsGiven setup ups taken put lasts → AreMidway setup ups taken done (e ∷ es) lasts world → IsNow setup lasts (taken e.replica) e es world s steps now middle last → (m : Message) → s.hand ≡ Some m → IsSent (links_of world) e.replica m
sent_now setup ups taken put lasts done e es world s steps now middle last g mid h m is =
    let me : ℕ = e.replica in
    let from : ℕ = m.from in
    let peer : IsPeer setup me from = from_peer setup me e.ask now.standing.running s.hand m h.step.fits h.step.in_hand is in
    let other = some_at lasts from (omega (arith, peer.0, g.whole)) in
    let its : IsMidway setup world from (e ∷ es) (taken from) other.0 = mid.each from other.0 other.1 in
    let tb : List Message = taken_from from h.before in
    let k : ℕ = length tb in
    let passed = g.passed me from h.within peer.0 peer.1 in
    let at_taken : slice_get (taken me from) k ≡ Some m = ap (λ (ms : List Message). slice_get ms k) (h.took from) ∙ taken_there from h.before steps s m is refl in
    let at_put : slice_get (put from me) k ≡ Some m = ap (λ (ms : List Message). slice_get ms k) passed.1 ∙ get_front (taken me from) passed.0 k m at_taken in
    let at_last : slice_get (sent_to me other.0.standing.sendings) k ≡ Some (sending_of m) =
    ap (λ (xs : List Sending). slice_get xs k) (g.sent from other.0 other.1 me) ∙ get_map sending_of (put from me) k m at_put in
    let number : m.number ≡ k = g.numbered from other.0 other.1 me k (sending_of m) m at_last refl in
    let late = each_of (λ (f : StepEntry). e.stamp ≤ f.stamp) from (e ∷ es) (in_order_late e.stamp e es (omega arith) h.order) in
    let sends = sends_later setup from e.stamp its.now other.0 its.behind (subst (AllByRecursion (λ (f : StepEntry). e.stamp ≤ f.stamp)) (sym its.are) late) its.runs in
    let stamp : e.stamp ≡ next_stamp now.standing.stamp (Some (sending_of m)) = h.step.stamp ∙ ap (λ (x : Option Message). next_stamp now.standing.stamp (heard_of x)) is in
    let at_now : slice_get (sent_to me its.now.standing.sendings) k ≡ Some (sending_of m) =
    earlier_named me k e.stamp (sending_of m) its.now.standing.sendings sends.0 other.0.standing.sendings sends.1 sends.2 (omega (arith, stamp)) at_last in
    ap (λ (xs : List Sending). slice_get (sent_to me xs) m.number) (links_there world from its.now.standing its.stands.is)
    ∙ ap (slice_get (sent_to me its.now.standing.sendings)) number
    ∙ at_now

-- no log is long
short_logs : (setup : Setup) (ups : List Bool) (taken : ℕ → ℕ → List Message) (done rest : List StepEntry) (lasts : List Local) (world : World) → length lasts ≡ setup.replicas → AreMidway setup ups taken done rest lasts world
    → (j : ℕ) → length (log_at (logs_of world) j) ≤ 4194304
short_logs setup ups taken done rest lasts world whole mid j = elim (cases_lt j (length world)) [
  | inl lt ↦
      let l = some_at lasts j (omega (arith, lt, whole, mid.whole)) in
      let its : IsMidway setup world j rest (taken j) l.0 = mid.each j l.0 l.1 in
      let same = ap length (logs_there world j its.now.standing its.stands.is) in
      let short = its.short in
      omega (arith, same, short)
  | inr le ↦ let none = ap length (past world j (omega (arith, le))) in omega (arith, none)
]
  where
    past : (w : World) (i : ℕ) → length w ≤ i → log_at (logs_of w) i ≡ []
    past [] i le = refl
    past (p ∷ w) zero le = absurd (omega (arith, le))
    past (p ∷ w) (suc i) le = past w i (omega (arith, le))

-- it is heeded whole
heeded_now : (setup : Setup) (ups : List Bool) (taken put : ℕ → ℕ → List Message) (lasts : List Local) (done : List StepEntry) (e : StepEntry) (es : List StepEntry) (world : World) (s : Handed) (steps : List Handed) (now middle last : Local)
    → IsGiven setup ups taken put lasts → AreMidway setup ups taken done (e ∷ es) lasts world → IsNow setup lasts (taken e.replica) e es world s steps now middle last → (hand : Option Message) → s.hand ≡ hand → IsHeeded setup e.replica now hand
heeded_now setup ups taken put lasts done e es world s steps now middle last g mid h None is = tt
heeded_now setup ups taken put lasts done e es world s steps now middle last g mid h (Some m) is =
    let me : ℕ = e.replica in
    let up : now.standing.running ≡ Up = up_with_one e.ask now.standing.running s.hand m h.step.in_hand is in
    let hears : Hears (links_of world) me (asks.Take m.from (Some m.number)) Up (Some (sending_of m)) = (sending_of m, sent_now setup ups taken put lasts done e es world s steps now middle last g mid h m is, refl) in
    g.heeded setup ups done world me now m.from m.number (sending_of m) m g.settled g.few g.all mid.fit mid.runs h.stands (short_logs setup ups taken done (e ∷ es) lasts world g.whole mid)
    (subst (λ (r : Running). Hears (links_of world) me (asks.Take m.from (Some m.number)) r (Some (sending_of m))) (sym up) hears) refl

steps_now : (setup : Setup) (ups : List Bool) (taken put : ℕ → ℕ → List Message) (lasts : List Local) (done : List StepEntry) (e : StepEntry) (es : List StepEntry) (world : World) (s : Handed) (steps : List Handed) (now middle last : Local)
    → IsGiven setup ups taken put lasts → AreMidway setup ups taken done (e ∷ es) lasts world → IsNow setup lasts (taken e.replica) e es world s steps now middle last → StepsHere setup world e.replica e middle
steps_now setup ups taken put lasts done e es world s steps now middle last g mid h =
    let me : ℕ = e.replica in
    let hears : Hears (links_of world) me e.ask now.standing.running (heard_of s.hand) =
    hand_is_heard (links_of world) me e.ask now.standing.running s.hand h.step.in_hand (λ m is. sent_now setup ups taken put lasts done e es world s steps now middle last g mid h m is) in
    elim (h.step.step (heeded_now setup ups taken put lasts done e es world s steps now middle last g mid h s.hand refl)) [
      | inl local ↦ g.one setup ups done world me (heard_of s.hand) now e middle g.all mid.runs h.stands hears local
      | inr full ↦ absurd (h.unrefused full.to full.refused)
    ]

-- it names no message if it is down
bare_now : (setup : Setup) (ups : List Bool) (taken put : ℕ → ℕ → List Message) (lasts : List Local) (done : List StepEntry) (e : StepEntry) (es : List StepEntry) (world : World) (s : Handed) (steps : List Handed) (now middle last : Local)
    → IsGiven setup ups taken put lasts → AreMidway setup ups taken done (e ∷ es) lasts world → IsNow setup lasts (taken e.replica) e es world s steps now middle last → IsBareWhereDown e
bare_now setup ups taken put lasts done e es world s steps now middle last g mid h =
    elim (h.step.step (heeded_now setup ups taken put lasts done e es world s steps now middle last g mid h s.hand refl)) [
      | inl local ↦ bare_step setup e.replica s.hand now e middle h.step local
      | inr full ↦ absurd (h.unrefused full.to full.refused)
    ]

-- ---- after it

-- the replica that has stepped
here_next : (setup : Setup) (lasts : List Local) (taken : ℕ → List Message) (e : StepEntry) (es : List StepEntry) (world : World) (s : Handed) (steps : List Handed) (now middle last : Local) → IsNow setup lasts taken e es world s steps now middle last
    → StepsHere setup world e.replica e middle → IsMidway setup (slice_set world e.replica middle.standing) e.replica es taken last
here_next setup lasts taken e es world s steps now middle last h one = record {
  now = middle;
  before = h.before ++ s ∷ [];
  behind = steps;
  stands = one.here;
  runs = h.runs;
  are = h.are;
  took = λ from. h.took from ∙ taken_more from h.before steps s;
  short = h.step.short;
}

-- another replica
other_next : (setup : Setup) (e : StepEntry) (es : List StepEntry) (world : World) (middle : Local) (j : ℕ) (taken : ℕ → List Message) (last : Local) → j ≢ e.replica → StepsHere setup world e.replica e middle
    → IsMidway setup world j (e ∷ es) taken last → IsMidway setup (slice_set world e.replica middle.standing) j es taken last
other_next setup e es world middle j taken last ne one its = record {
  now = its.now;
  before = its.before;
  behind = its.behind;
  stands = one.others j its.now ne its.stands;
  runs = its.runs;
  are = its.are ∙ entries_other j e es (λ same. ne (sym same));
  took = its.took;
  short = its.short;
}

midway_next : (setup : Setup) (ups : List Bool) (taken put : ℕ → ℕ → List Message) (lasts : List Local) (done : List StepEntry) (e : StepEntry) (es : List StepEntry) (world : World) (s : Handed) (steps : List Handed) (now middle last : Local)
    → IsGiven setup ups taken put lasts → AreMidway setup ups taken done (e ∷ es) lasts world → IsNow setup lasts (taken e.replica) e es world s steps now middle last
    → AreMidway setup ups taken (done ++ e ∷ []) es lasts (slice_set world e.replica middle.standing)
midway_next setup ups taken put lasts done e es world s steps now middle last g mid h =
    let me : ℕ = e.replica in
    let next : World = slice_set world me middle.standing in
    let one : StepsHere setup world me e middle = steps_now setup ups taken put lasts done e es world s steps now middle last g mid h in
    record {
      runs = runs_more setup (first_world setup.replicas ups) done world e next mid.runs one.steps;
      fit = each_append (λ (f : StepEntry). DoFits setup.spec f.ask) done (e ∷ []) mid.fit (do_fits setup me e.ask h.step.fits, tt);
      whole = length-set world me middle.standing ∙ mid.whole;
      each = λ j l there. elim (cases_eq j me) [
        | inl same ↦
            let it : last ≡ l = same_Some last l (sym h.there ∙ ap (slice_get lasts) (sym same) ∙ there) in
            subst (λ i. IsMidway setup next i es (taken i) l) (sym same) (subst (IsMidway setup next me es (taken me)) it (here_next setup lasts (taken me) e es world s steps now middle last h one))
        | inr other ↦ other_next setup e es world middle j (taken j) l other one (mid.each j l there)
      ];
    }

-- ---- all entries

-- the steps that are behind begin with the entry that is next
record BeginsWith (setup : Setup) (me : ℕ) (e : StepEntry) (es : List StepEntry) (now last : Local) (behind : List Handed) : Type 0 where
  s : Handed
  steps : List Handed
  middle : Local
  is : behind ≡ s ∷ steps
  step : HandSteps setup me s.hand now e middle
  runs : HandRuns setup me middle steps last
  are : map (λ s. s.entry) steps ≡ entries_at me es

begins_with : (setup : Setup) (me : ℕ) (e : StepEntry) (es : List StepEntry) (now last : Local) (behind : List Handed) → e.replica ≡ me → HandRuns setup me now behind last → map (λ s. s.entry) behind ≡ entries_at me (e ∷ es) → BeginsWith setup me e es now last behind
begins_with setup me e es now last [] mine runs are = absurd (nothing (are ∙ entries_same me e es mine))
  where
    nothing : [] ≡ e ∷ entries_at me es → ⊥
    nothing is = cc
begins_with setup me e es now last (s ∷ steps) mine runs are =
    let both : s.entry ∷ map (λ (x : Handed). x.entry) steps ≡ e ∷ entries_at me es = are ∙ entries_same me e es mine in
    record {
      s = s;
      steps = steps;
      middle = runs.0;
      is = refl;
      step = subst (λ (f : StepEntry). HandSteps setup me s.hand now f runs.0) (heads s.entry e (map (λ (x : Handed). x.entry) steps) (entries_at me es) both) runs.1;
      runs = runs.2;
      are = tails s.entry e (map (λ (x : Handed). x.entry) steps) (entries_at me es) both;
    }
  where
    heads : (a b : StepEntry) (xs ys : List StepEntry) → a ∷ xs ≡ b ∷ ys → a ≡ b
    heads a b xs ys is = cc

    tails : (a b : StepEntry) (xs ys : List StepEntry) → a ∷ xs ≡ b ∷ ys → xs ≡ ys
    tails a b xs ys is = cc

-- without steps a replica stands as at the end
stands_last : (setup : Setup) (world : World) (me : ℕ) (now last : Local) (behind : List Handed) → map (λ s. s.entry) behind ≡ [] → HandRuns setup me now behind last → StandsIn world me now → StandsIn world me last
stands_last setup world me now last [] are runs stands = subst (StandsIn world me) (sym runs) stands
stands_last setup world me now last (s ∷ steps) are runs stands = absurd (something s.entry (map (λ (x : Handed). x.entry) steps) are)
  where
    something : (a : StepEntry) (xs : List StepEntry) → a ∷ xs ≡ [] → ⊥
    something a xs is = cc

-- the world to which these entries lead, in which the replicas stand so
record AreSoFar (setup : Setup) (ups : List Bool) (entries : List StepEntry) (lasts : List Local) (world : World) : Type 0 where
  runs : Runs setup (first_world setup.replicas ups) entries world
  stand : (me : ℕ) (l : Local) → slice_get lasts me ≡ Some l → StandsIn world me l

go_on : (setup : Setup) (ups : List Bool) (taken put : ℕ → ℕ → List Message) (lasts : List Local) (done rest : List StepEntry) (world : World) → IsGiven setup ups taken put lasts → InOrder rest → AllByRecursion (λ e. e.replica < setup.replicas) rest
    → AllByRecursion (λ e. (to : ℕ) → IsRefused to e → ⊥) rest → AreMidway setup ups taken done rest lasts world → (end : World) × AreSoFar setup ups (done ++ rest) lasts end × AllByRecursion IsBareWhereDown rest
go_on setup ups taken put lasts done [] world g order within unrefused mid = (
  world,
  record {
    runs = subst (λ (es : List StepEntry). Runs setup (first_world setup.replicas ups) es world) (sym (append-nil done)) mid.runs;
    stand = λ me l there. let its = mid.each me l there in stands_last setup world me its.now l its.behind its.are its.runs its.stands;
  },
  tt,
)
go_on setup ups taken put lasts done (e ∷ es) world g order within unrefused mid =
    let me : ℕ = e.replica in
    let last = some_at lasts me (omega (arith, within.0, g.whole)) in
    let its : IsMidway setup world me (e ∷ es) (taken me) last.0 = mid.each me last.0 last.1 in
    let first : BeginsWith setup me e es its.now last.0 its.behind = begins_with setup me e es its.now last.0 its.behind refl its.runs its.are in
    let h : IsNow setup lasts (taken me) e es world first.s first.steps its.now first.middle last.0 = record {
      within = within.0;
      order = order;
      unrefused = unrefused.0;
      there = last.1;
      before = its.before;
      stands = its.stands;
      step = first.step;
      runs = first.runs;
      are = first.are;
      took = λ from. its.took from ∙ ap (λ (xs : List Handed). taken_from from its.before ++ taken_from from xs) first.is;
    } in
    let next = midway_next setup ups taken put lasts done e es world first.s first.steps its.now first.middle last.0 g mid h in
    let rest = go_on setup ups taken put lasts (done ++ e ∷ []) es (slice_set world me first.middle.standing) g order.1 within.1 unrefused.1 next in
    let bare = bare_now setup ups taken put lasts done e es world first.s first.steps its.now first.middle last.0 g mid h in
    (rest.0, subst (λ (all : List StepEntry). AreSoFar setup ups all lasts rest.0) (append_assoc done (e ∷ []) es) rest.1, (bare, rest.2))

-- ---- the beginning

first_stands : (n : ℕ) (ups : List Bool) (me : ℕ) (up : Bool) → slice_get ups me ≡ Some up → StandsIn (first_world n ups) me (first_local n up)
first_stands n ups me up is = record {
  is = get_map (first_standing n) ups me up is;
  long = length-replicate n [] ∙ sym (length-replicate n 0);
  knows = knows_nothing n (logs_of (first_world n ups));
}

nothing_numbered : AreNumbered []
nothing_numbered to k s m at is = absurd cc

given_of : LocalStepIsOne → MessagesAreHeeded → (setup : Setup) (ups : List Bool) (taken put : ℕ → ℕ → List Message) (entries : List StepEntry) (lasts : List Local) → IsSettled setup → setup.replicas ≤ 16 → AreAlone setup ups taken put entries lasts
    → IsGiven setup ups taken put lasts
given_of one heeded setup ups taken put entries lasts settled few h = record {
  one = one;
  heeded = heeded;
  settled = settled;
  few = few;
  all = h.all;
  whole = h.whole;
  passed = h.passed;
  sent = λ me l there. let up = up_at me l there in (h.each me up.0 l up.1 there).sent;
  numbered = λ me l there.
      let up = up_at me l there in
      let its : RunsAlone setup me up.0 (taken me) (put me) (entries_at me entries) l = h.each me up.0 l up.1 there in
      sends_numbered setup me (first_local setup.replicas up.0) l its.steps nothing_numbered its.runs;
}
  where
    up_at : (me : ℕ) (l : Local) → slice_get lasts me ≡ Some l → (up : Bool) × (slice_get ups me ≡ Some up)
    up_at me l there = let lt = slice_get_within lasts me l there in some_at ups me (omega (arith, lt, h.all, h.whole))

midway_first : (setup : Setup) (ups : List Bool) (taken put : ℕ → ℕ → List Message) (entries : List StepEntry) (lasts : List Local) → AreAlone setup ups taken put entries lasts
    → AreMidway setup ups taken [] entries lasts (first_world setup.replicas ups)
midway_first setup ups taken put entries lasts h = record {
  runs = refl;
  fit = tt;
  whole = length-map ups (first_standing setup.replicas) ∙ h.all;
  each = λ me l there.
      let lt = slice_get_within lasts me l there in
      let up = some_at ups me (omega (arith, lt, h.all, h.whole)) in
      let its : RunsAlone setup me up.0 (taken me) (put me) (entries_at me entries) l = h.each me up.0 l up.1 there in
      record {
        now = first_local setup.replicas up.0;
        before = [];
        behind = its.steps;
        stands = first_stands setup.replicas ups me up.0 up.1;
        runs = its.runs;
        are = its.are;
        took = λ from. sym (its.took from);
        short = omega arith;
      };
}

pub alone_together : LocalStepIsOne → MessagesAreHeeded → AloneIsTogether
alone_together one heeded setup ups taken put entries lasts settled few order h =
    let all = go_on setup ups taken put lasts [] entries (first_world setup.replicas ups) (given_of one heeded setup ups taken put entries lasts settled few h) order h.within h.never_full (midway_first setup ups taken put entries lasts h) in
    (all.0, record { runs = all.1.runs; stand = all.1.stand; bare = all.2 })
