-- Replicas whose turns are over: what each did, and that it can take all that was left for it.
use Rattle.std.proofs.Common.{◌≡◌, inl, inr, ℕ, zero, suc, ◌+◌, ◌*◌, ◌<◌, ◌≤◌, cond, Bool, true, false, List, [], ◌∷◌, ◌++◌, filter, length, map, refl, sym, ap, subst, ◌∙◌, arith}
use Rattle.std.proofs.lemmas.Option.{slice_get_within}
use Rattle.std.specs.Prelude.{replicate, slice_get, slice_index_or, Some, None}
use Rattle.std.specs.List.{AllByRecursion}
use Rattle.std.proofs.lemmas.Bool.{cases_eq}
use Rattle.std.proofs.lemmas.List.{length-append, length-map}
use Rattle.std.proofs.Math.Nat.{mul_assoc, mul_comm, suc-mul}
use Rattle.ind_disk.specs.Bay.{TellsAll}
use Rattle.ind_disk.specs.Disk.{Standing as DiskStanding}
use Rattle.spec_model.specs.declared.plan.Setup.{Setup}
use Rattle.run_model.specs.declared.batch.Batch.{Batch}
use Rattle.run_model.specs.declared.message.Message.{Message}
use Rattle.run_model.specs.declared.step.Ask.{Ask}
use Rattle.run_model.specs.declared.step.Ask.TheVariants as asks
use Rattle.run_model.specs.declared.step.StepEntry.{StepEntry}
use Rattle.run_model.specs.Worlds.{Running}
use Rattle.batch_storage.specs.Shown.{Shown}
use Rattle.local_runs.specs.Alone.{RunsAlone}
use Rattle.local_runs.specs.Handed.{AskFits, Handed, HandRuns, IsRefused}
use Rattle.run_model.specs.Locals.{Local}
use Rattle.replica_course.specs.Courses.{HasStops}
use Rattle.replica_node.specs.Nodes.{IsNode, IsStill, in_hand, sends_to}
use Rattle.replica_node.specs.Nodes as nodes
use Rattle.replica_node.specs.Serving.{Serving, turns_of}
use Rattle.replica_node.specs.Steps.{plain}
use Rattle.replica_node.specs.declared.still.Still.{Still}
use Rattle.replica_wires.specs.declared.passes.Passes.{Passes}
use Rattle.replica_wires.specs.declared.web.Web.{Web}
use Rattle.replica_wires.specs.declared.wires.Place.{Place}
use Rattle.replica_wires.specs.Ends.{passes_of, place_of}
use Rattle.replica_wires.specs.Passing.{AreLeft, AreSettled, got_from, put_for}
use Rattle.replica_wires.specs.Webs.{replicas_of, room_on}
use Rattle.scenario_text.specs.WellFormed.{ClientsFit}
use Rattle.client_asks.specs.Asking.{ClientWork, courier_asks, sends_in, turns_at}
use Rattle.client_asks.specs.Asking as asking
use Rattle.desk_workers.specs.Interleaving.{Interleaves, asks_of}
use Rattle.client_runs.specs.Serving.{asked_in, takes_of}
use Rattle.client_runs.proofs.Counted.{interleaves_long, lengths, sends_are, sends_few, turns_few}
use Rattle.request_workers.specs.Opening.{HasServedWired, IsOpened, IsParted, Wired}
use Rattle.request_workers.specs.Taking.{CanAllTake, to_take}
use Rattle.client_runs.proofs.Joined.{some_at}
use Rattle.request_workers.proofs.Taking.{index_is, takes_here, takes_there}

-- ---- sends

same_count : {X Y : Type 0} (b c : Bool) (x : X) (y : Y) (xs : List X) (ys : List Y) → b ≡ c → length xs ≡ length ys → length (cond b (x ∷ xs) xs) ≡ length (cond c (y ∷ ys) ys)
same_count true true x y xs ys same long = ap suc long
same_count true false x y xs ys same long = absurd cc
same_count false true x y xs ys same long = absurd cc
same_count false false x y xs ys same long = long

send_same : (to : ℕ) (ask : Ask) → nodes.asks_send to ask ≡ asking.asks_send to (plain ask)
send_same to (asks.Do inst) = refl
send_same to (asks.Send peer number) = refl
send_same to (asks.Take peer number) = refl
send_same to asks.Crash = refl
send_same to asks.Recover = refl

-- sends are the same without their numbers
pub sends_same : (to : ℕ) (es : List StepEntry) → sends_to to es ≡ sends_in to (asked_in es)
sends_same to [] = refl
sends_same to (e ∷ es) =
    same_count (nodes.asks_send to e.ask) (asking.asks_send to (plain e.ask)) e (plain e.ask) (filter (λ (f : StepEntry). nodes.asks_send to f.ask) es) (filter (asking.asks_send to) (asked_in es)) (send_same to e.ask) (sends_same to es)

-- the asks of turns are what was asked
turns_asked : (es : List StepEntry) → asks_of (turns_of es) ≡ asked_in es
turns_asked [] = refl
turns_asked (e ∷ es) = ap (λ (rest : List Ask). plain e.ask ∷ rest) (turns_asked es)

-- ---- what was asked of a replica by itself fits

hands_peers : (setup : Setup) (me : ℕ) (old new : Local) (steps : List Handed) → HandRuns setup me old steps new → AllByRecursion (λ (e : StepEntry). AskFits setup me e.ask) (map (λ (s : Handed). s.entry) steps)
hands_peers setup me old new [] runs = tt
hands_peers setup me old new (s ∷ steps) runs = (runs.1.fits, hands_peers setup me runs.0 new steps runs.2)

pub alone_fits : (setup : Setup) (me : ℕ) (up : Bool) (taken put : ℕ → List Message) (es : List StepEntry) (last : Local) → RunsAlone setup me up taken put es last → AllByRecursion (λ (e : StepEntry). AskFits setup me e.ask) es
alone_fits setup me up taken put es last h = subst (AllByRecursion (λ (e : StepEntry). AskFits setup me e.ask)) h.are (hands_peers setup me _ last h.steps h.runs)

-- ---- how much there is to take

takes_few : (many : ℕ → ℕ) (me n most : ℕ) → ((peer : ℕ) → peer < n → many peer ≤ most) → length (takes_of many me n) ≤ n * most
takes_few many me zero most few = omega arith
takes_few many me (suc n) most few =
    let before = takes_few many me n most (λ peer lt. few peer (omega (arith, lt))) in
    let one : suc n * most ≡ n * most + most = suc-mul n most in
    elim (cases_eq n me) [
      | inl same ↦ omega (arith, before, one, ap length (takes_here many me n same))
      | inr other ↦ omega (arith, before, one, few n (omega arith), ap length (takes_there many me n other), length-append (takes_of many me n) (replicate (many n) (asks.Take n None)), many_same (many n) (asks.Take n None))
    ]
  where
    many_same : (k : ℕ) (ask : Ask) → length (replicate k ask) ≡ k
    many_same zero ask = refl
    many_same (suc k) ask = omega (arith, many_same k ask)

-- all turns of one replica, and of each its closing takes, are no more than all asks and twice the turns of all
fits_within : (long turns taken asked each n : ℕ) → long ≡ turns → turns ≤ asked + each → taken ≤ n * each → asked + 2 * each * n ≤ 100000 → 0 < n → long + taken ≤ 100000
fits_within long turns taken asked each zero same few takes all some = absurd (omega (arith, some))
fits_within long turns taken asked each (suc n) same few takes all some =
    let twice : 2 * each * suc n ≡ 2 * (suc n * each) = mul_assoc 2 each (suc n) ∙ ap (λ k. 2 * k) (mul_comm each (suc n)) in
    let one : suc n * each ≡ n * each + each = suc-mul n each in
    omega (arith, same, few, takes, all, twice, one)

-- ---- one replica

-- its turns are over: it took these messages, and what it put are those of its passes
pub record IsOver {S D : Type 0} (keeps : S → ℕ → List Batch → Running → Type 0) (shows : S → Shown) (standing : D → DiskStanding) (setup : Setup) (work : ClientWork) (web : Web) (me : ℕ) (disk : D) (s : Still S D) (p : Passes) : Type 0 where
  pub taken : ℕ → List Message
  pub still : IsStill keeps setup me taken (put_for me p) s
  pub got : (from : ℕ) → got_from me p from ≡ taken from ++ in_hand s.hands from
  pub asked : Interleaves (turns_at setup.replicas work me) (asked_in s.course.entries)
  pub put_few : (to : ℕ) → length (put_for me p to) ≤ sends_to to s.course.entries
  pub full : AllByRecursion (λ e. (to : ℕ) → IsRefused to e → room_on web me to < sends_to to s.course.entries) s.course.entries
  pub stops : (given : ℕ) → TellsAll given (standing disk) → HasStops given (shows s.storage) s.course

module _ {S D R : Type 0} (keeps : S → ℕ → List Batch → Running → Type 0) (shows : S → Shown) (standing : D → DiskStanding) (setup : Setup) (work : ClientWork) (web : Web) where
  -- a value as it opened, and as it is when its turns are over
  abbrev pub SameOpening : Serving (Wired S D R) → Serving (Wired S D R) → Type 0
  SameOpening before v = (v.setup ≡ before.setup) × (v.first ≡ before.first)

  -- it is a node of this setup and place still
  pub over_node : (me : ℕ) (disk : D) (before v : Serving (Wired S D R)) → IsOpened standing shows setup web me disk before → SameOpening before v → HasServedWired keeps shows v.setup v.first v.node
      → (HasServedWired keeps shows setup before.node v.node) × (place_of v.node.ends ≡ record { me = me; web = web }) × (before.node.still.course.me ≡ me)
  over_node me disk before v opened same served =
      let first : v.first ≡ before.node = same.1 ∙ opened.first in
      let its : HasServedWired keeps shows setup before.node v.node = subst (λ n. HasServedWired keeps shows setup n v.node) first (subst (λ s. HasServedWired keeps shows s v.first v.node) (same.0 ∙ opened.setup_is) served) in
      (its, its.marked ∙ opened.placed, opened.me_is)

  pub is_over : (me : ℕ) (disk : D) (before v : Serving (Wired S D R)) (s : Still S D) (p : Passes) → IsOpened standing shows setup web me disk before → SameOpening before v
      → Interleaves (turns_at setup.replicas work me) (asks_of (turns_of v.node.still.course.entries)) → IsParted keeps shows v s p → IsOver keeps shows standing setup work web me disk s p
  is_over me disk before v s p opened same order parted =
      let its = over_node me disk before v opened same parted.served in
      let place : place_of v.node.ends ≡ record { me = me; web = web } = its.1 in
      let node = its.0.own in
      let at_me : (place_of v.node.ends).me ≡ me = ap (λ (q : Place). q.me) place in
      let s_is : s ≡ v.node.still = parted.still_is in
      let p_is : passes_of v.node.ends ≡ p = sym parted.passes_are in
      let put_is : put_for (place_of v.node.ends).me (passes_of v.node.ends) ≡ put_for me p = ap (λ k. put_for k (passes_of v.node.ends)) at_me ∙ ap (put_for me) p_is in
      let Over : Still S D → Type 0 = λ x. IsOver keeps shows standing setup work web me disk x p in
      subst Over (sym s_is) (record {
        taken = node.taken;
        still = subst (λ put. IsStill keeps setup me node.taken put v.node.still) put_is (subst (λ k. IsStill keeps setup k node.taken (put_for (place_of v.node.ends).me (passes_of v.node.ends)) v.node.still) its.2 node.still);
        got = λ from. ap (λ k. got_from k p from) (sym at_me) ∙ ap (λ (q : Passes). got_from (place_of v.node.ends).me q from) (sym p_is) ∙ node.got from;
        asked = subst (Interleaves (turns_at setup.replicas work me)) (turns_asked v.node.still.course.entries) order;
        put_few = λ to. subst (λ (put : ℕ → List Message). length (put to) ≤ sends_to to v.node.still.course.entries) put_is (node.asked to);
        full = subst (λ (q : Place). AllByRecursion (λ (e : StepEntry). (to : ℕ) → IsRefused to e → room_on q.web q.me to < sends_to to v.node.still.course.entries) v.node.still.course.entries) place node.full;
        stops = λ given tells. its.0.stops given (opened.stops given tells);
      })

-- ---- all of them

module _ {S D : Type 0} (keeps : S → ℕ → List Batch → Running → Type 0) (shows : S → Shown) (standing : D → DiskStanding) (setup : Setup) (work : ClientWork) (web : Web) where
  -- each replica's turns are over
  pub record AreOver (disks : List D) (stills : List (Still S D)) (passes : List Passes) : Type 0 where
    pub disks_whole : length disks ≡ setup.replicas
    pub whole : length stills ≡ setup.replicas
    pub passes_whole : length passes ≡ setup.replicas
    pub each : (me : ℕ) (d : D) (s : Still S D) (p : Passes) → slice_get disks me ≡ Some d → slice_get stills me ≡ Some s → slice_get passes me ≡ Some p → IsOver keeps shows standing setup work web me d s p

  -- what there is to take of a replica is no more than what its courier sends
  take_few : (most : ℕ) (me from : ℕ) (dm df : D) (sm sf : Still S D) (pm pf : Passes) (left : List Message) → ClientsFit setup.spec setup.replicas work.turns work.homes work.asked
      → IsOver keeps shows standing setup work web me dm sm pm → IsOver keeps shows standing setup work web from df sf pf → put_for from pf me ≡ got_from me pm from ++ left
      → length (in_hand sm.hands from ++ left) ≤ work.turns
  take_few most me from dm df sm sf pm pf left fit mine theirs passed =
      let put_long : length (put_for from pf me) ≡ length (got_from me pm from) + length left = ap length passed ∙ length-append (got_from me pm from) left in
      let got_long : length (got_from me pm from) ≡ length (mine.taken from) + length (in_hand sm.hands from) = ap length (mine.got from) ∙ length-append (mine.taken from) (in_hand sm.hands from) in
      let few : length (put_for from pf me) ≤ sends_to me sf.course.entries = theirs.put_few me in
      let sends : sends_to me sf.course.entries ≡ sends_in me (courier_asks setup.replicas from work.turns) = sends_same me sf.course.entries ∙ sends_are setup.spec setup.replicas work from me (asked_in sf.course.entries) fit theirs.asked in
      let turns = sends_few setup.replicas from work.turns me in
      omega (arith, put_long, got_long, few, sends, turns, length-append (in_hand sm.hands from) left)

  -- each can take all that was left for it
  pub can_take : (disks : List D) (stills : List (Still S D)) (passes : List Passes) (left : List (List (List Message))) → replicas_of web ≡ setup.replicas → ClientsFit setup.spec setup.replicas work.turns work.homes work.asked
      → AreOver disks stills passes → AreSettled web passes left → CanAllTake keeps setup left stills
  can_take disks stills passes left web_is fit over settled = record {
    whole = over.whole;
    left_whole = settled.whole ∙ web_is;
    each = λ me s lists s_at lists_at.
        let lt : me < setup.replicas = omega (arith, slice_get_within stills me s s_at, over.whole) in
        let d = some_at disks me (omega (arith, lt, over.disks_whole)) in
        let p = some_at passes me (omega (arith, lt, over.passes_whole)) in
        let mine = over.each me d.0 s p.0 d.1 s_at p.1 in
        let lists_long : length lists ≡ setup.replicas = settled.each_whole me lists lists_at ∙ web_is in
        let its : AreLeft passes me lists = settled.each me lists lists_at in
        let few : (from : ℕ) → from < setup.replicas → length (to_take s lists from) ≤ work.turns = λ from less.
        let l = some_at lists from (omega (arith, less, lists_long)) in
        let df = some_at disks from (omega (arith, less, over.disks_whole)) in
        let sf = some_at stills from (omega (arith, less, over.whole)) in
        let pf = some_at passes from (omega (arith, less, over.passes_whole)) in
        let here : slice_index_or lists from [] ≡ l.0 = index_is lists from l.0 [] l.1 in
        subst (λ (ms : List Message). length (in_hand s.hands from ++ ms) ≤ work.turns) (sym here)
        (take_few work.turns me from d.0 df.0 s sf.0 p.0 pf.0 l.0 fit mine (over.each from df.0 sf.0 pf.0 df.1 sf.1 pf.1) (its.passed from l.0 pf.0 p.0 l.1 pf.1 p.1)) in
        let takes = takes_few (λ peer. length (to_take s lists peer)) me setup.replicas work.turns few in
        let long : length s.course.entries ≡ length (asked_in s.course.entries) = sym (length-map s.course.entries (λ (e : StepEntry). plain e.ask)) in
        let asked : length (asked_in s.course.entries) ≡ lengths (turns_at setup.replicas work me) = interleaves_long (turns_at setup.replicas work me) (asked_in s.course.entries) mine.asked in
        record {
          place = mine.still.own.me_is;
          taken = mine.taken;
          put = put_for me p.0;
          own = mine.still;
          whole = lists_long;
          theirs = its.senders;
          room = fits_within (length s.course.entries) (lengths (turns_at setup.replicas work me)) (length (takes_of (λ peer. length (to_take s lists peer)) me setup.replicas)) (length work.asked) work.turns setup.replicas (long ∙ asked) (turns_few setup.replicas work me) takes fit.few_asks (omega (arith, lt));
        };
  }
