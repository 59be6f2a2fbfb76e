-- Replicas that came to desks, served, and left them.
use Rattle.std.proofs.Common.{◌≡◌, ℕ, ◌^◌, ◌<◌, ◌≤◌, List, [], length, sym, ap, subst, ◌∙◌, arith}
use Rattle.std.specs.Prelude.{IfOk, Result, Ok, Err, slice_get, slice_index_or, sum_by, Some}
use Rattle.std.proofs.lemmas.Option.{slice_get-get_or, slice_get_within}
use Rattle.ind_disk.specs.Disk.{Standing as DiskStanding}
use Rattle.spec_model.specs.declared.plan.Setup.{Setup}
use Rattle.run_model.specs.declared.batch.Batch.{Batch}
use Rattle.run_model.specs.declared.step.Ask.{Ask}
use Rattle.run_model.specs.Worlds.{Running}
use Rattle.batch_storage.specs.Shown.{Shown}
use Rattle.local_runs.specs.Handed.{AskFits}
use Rattle.replica_node.specs.Serving.{CanServe, Serving, turns_of}
use Rattle.replica_node.specs.Steps.{plain}
use Rattle.replica_node.specs.declared.served.Opening.{Opening}
use Rattle.replica_node.specs.declared.still.Still.{Still}
use Rattle.replica_wires.specs.declared.passes.Passes.{Passes}
use Rattle.replica_wires.specs.declared.web.Web.{Web}
use Rattle.replica_wires.specs.declared.wires.Place.{Place}
use Rattle.replica_wires.specs.Passing.{ArePassesOf, HaveTheirs}
use Rattle.replica_wires.specs.Webs.{replicas_of}
use Rattle.scenario_text.specs.WellFormed.{ClientsFit}
use Rattle.client_asks.specs.Asking.{ClientWork, turns_at}
use Rattle.client_workers.specs.Laws.{TurnsAreFew}
use Rattle.desk_workers.specs.declared.worker.Worker.{Worker}
use Rattle.desk_workers.specs.Interleaving.{Interleaves, asks_of}
use Rattle.desk_workers.specs.Places.{Each}
use Rattle.desk_workers.specs.Workers.{asks_at, lists_at}
use Rattle.request_workers.specs.Opening.{AreOpened, AreParted, IsOpened, Wired}
use Rattle.client_runs.proofs.Joined.{some_at}
use Rattle.request_workers.proofs.Over.{AreOver, is_over, over_node}

pub ok_so : {X E : Type 0} (P Q : X → Type 0) (result : Result X E) → IfOk result P → ((x : X) → P x → Q x) → IfOk result Q
ok_so P Q (Ok x) is so = so x is
ok_so P Q (Err e) is so = tt

-- what comes to a desk has room there
pub has_room : (setup : Setup) (work : ClientWork) (workers : List (Worker Ask)) (me : ℕ) → TurnsAreFew → ClientsFit setup.spec setup.replicas work.turns work.homes work.asked
    → ((k : ℕ) → k < setup.replicas → lists_at k workers ≡ turns_at setup.replicas work k) → me < setup.replicas → (0 < 100000) × (asks_at me workers ≤ 100000) × (asks_at me workers < 2 ^ 32)
has_room setup work workers me law fit turns lt =
    let few = (law setup.spec setup.replicas work me fit lt).few in
    let same : asks_at me workers ≡ sum_by length (turns_at setup.replicas work me) = ap (sum_by length) (turns me lt) in
    (omega arith, omega (arith, few, same), omega (arith, few, same))

module _ {S D R : Type 0} (keeps : S → ℕ → List Batch → Running → Type 0) (shows : S → Shown) (standing : D → DiskStanding) (setup : Setup) (work : ClientWork) (web : Web) (disks : List D) (values : List (Serving (Wired S D R)))
    (disks_whole : length disks ≡ setup.replicas) (opened : AreOpened standing shows setup web disks values) where
  -- what a replica at a desk opened with
  abbrev pub opening_of : Serving (Wired S D R) → Opening (Wired S D R)
  opening_of v = record { setup = v.setup; first = v.first }

  -- what stands at a place, and its disk
  opened_at : (k : ℕ) (v : Serving (Wired S D R)) → slice_get values k ≡ Some v → (k < setup.replicas) × (d : D) × (slice_get disks k ≡ Some d) × IsOpened standing shows setup web k d v
  opened_at k v at =
      let lt : k < setup.replicas = omega (arith, slice_get_within values k v at, opened.whole, disks_whole) in
      let d = some_at disks k (omega (arith, lt, disks_whole)) in
      (lt, d.0, d.1, opened.each k d.0 v d.1 at)

  pub within : (k : ℕ) (v : Serving (Wired S D R)) → slice_get values k ≡ Some v → k < setup.replicas
  within k v at = (opened_at k v at).0

  pub all_empty : (k : ℕ) (none : Serving (Wired S D R)) → k < length values → turns_of (slice_index_or values k none).node.still.course.entries ≡ []
  all_empty k none lt = ap turns_of (opened_at k (slice_index_or values k none) (slice_get-get_or values k none lt)).3.none

  pub can_serve : (k : ℕ) (v : Serving (Wired S D R)) (ask : Ask) → slice_get values k ≡ Some v → AskFits setup k ask → plain ask ≡ ask → CanServe (opening_of v) ask
  can_serve k v ask at fits is_plain =
      let o = (opened_at k v at).3 in
      let me_is : v.first.still.course.me ≡ k = ap (λ (n : Wired S D R). n.still.course.me) o.first ∙ o.me_is in
      record {
        fits = subst (λ (s : Setup). AskFits s v.first.still.course.me ask) (sym o.setup_is) (subst (λ me. AskFits setup me ask) (sym me_is) fits);
        is_plain = is_plain;
      }

  module _ (after : List (Serving (Wired S D R))) (workers : List (Worker Ask)) (stills : List (Still S D)) (passes : List Passes)
      (whole : length after ≡ length values) (same : Each (λ at before v. opening_of v ≡ opening_of before) values after)
      (order : (at : ℕ) (v : Serving (Wired S D R)) → slice_get after at ≡ Some v → Interleaves (lists_at at workers) (asks_of (turns_of v.node.still.course.entries)))
      (turns : (k : ℕ) → k < setup.replicas → lists_at k workers ≡ turns_at setup.replicas work k) (parted : AreParted keeps shows after stills passes) where
    all_whole : length after ≡ setup.replicas
    all_whole = whole ∙ opened.whole ∙ disks_whole

    -- a replica as it opened
    before_at : (me : ℕ) (v : Serving (Wired S D R)) → slice_get after me ≡ Some v → (before : Serving (Wired S D R)) × (slice_get values me ≡ Some before) × (v.setup ≡ before.setup) × (v.first ≡ before.first)
    before_at me v at =
        let b = some_at values me (omega (arith, slice_get_within after me v at, whole)) in
        let is = same me b.0 v b.1 at in
        (b.0, b.1, ap (λ (o : Opening (Wired S D R)). o.setup) is, ap (λ (o : Opening (Wired S D R)). o.first) is)

    pub theirs : replicas_of web ≡ setup.replicas → HaveTheirs web passes
    theirs web_is = record {
      whole = parted.passes_whole ∙ all_whole ∙ sym web_is;
      each = λ me p at.
          let lt : me < setup.replicas = omega (arith, slice_get_within passes me p at, parted.passes_whole, all_whole) in
          let v = some_at after me (omega (arith, lt, all_whole)) in
          let s = some_at stills me (omega (arith, lt, parted.whole, all_whole)) in
          let part = parted.each me v.0 s.0 p v.1 s.1 at in
          let b = before_at me v.0 v.1 in
          let o = opened_at me b.0 b.1 in
          let placed = (over_node keeps shows standing setup work web me o.1 b.0 v.0 o.3 (b.2, b.3) part.served).1 in
          subst (λ (q : Place). ArePassesOf q.web q.me p) placed part.own;
    }

    pub are_over : AreOver keeps shows standing setup work web disks stills passes
    are_over = record {
      disks_whole = disks_whole;
      whole = parted.whole ∙ all_whole;
      passes_whole = parted.passes_whole ∙ all_whole;
      each = λ me d s p d_at s_at p_at.
          let lt : me < setup.replicas = omega (arith, slice_get_within disks me d d_at, disks_whole) in
          let v = some_at after me (omega (arith, lt, all_whole)) in
          let b = before_at me v.0 v.1 in
          is_over keeps shows standing setup work web me d b.0 v.0 s p (opened.each me d b.0 d_at b.1) (b.2, b.3)
          (subst (λ lists. Interleaves lists (asks_of (turns_of v.0.node.still.course.entries))) (turns me lt) (order me v.0 v.1)) (parted.each me v.0 s p v.1 s_at p_at);
    }
