-- Replicas come to their desks one by one, each over the next disk and the next passes.
use Rattle.std.proofs.Common.{◌≡◌, ◌≢◌, inl, inr, ℕ, suc, ◌+◌, ◌<◌, List, [], ◌∷◌, ◌++◌, length, refl, sym, ap, subst, ◌∙◌, arith}
use Rattle.std.specs.Prelude.{slice_get, slice_index_or, Some}
use Rattle.std.specs.List.{AllByRecursion, remove}
use Rattle.std.proofs.lemmas.List.{append-nil, length-append}
use Rattle.std.proofs.lemmas.Option.{slice_get_within}
use Rattle.ind_disk.specs.Bay.{IsEmpty, TellsAll}
use Rattle.ind_disk.specs.Disk.{Standing}
use Rattle.spec_model.specs.declared.plan.Setup.{Setup}
use Rattle.run_model.specs.declared.batch.Batch.{Batch}
use Rattle.run_model.specs.declared.message.Message.{Message}
use Rattle.run_model.specs.Worlds.{Running}
use Rattle.run_model.proofs.Lists.{get_push}
use Rattle.batch_storage.specs.Shown.{Shown}
use Rattle.local_runs.specs.Handed.{IsPeer}
use Rattle.replica_course.specs.Courses.{HasStops}
use Rattle.replica_node.specs.declared.node.Node.{Node}
use Rattle.replica_node.specs.Nodes.{IsNode}
use Rattle.replica_node.specs.Serving.{Serving}
use Rattle.replica_wires.specs.declared.passes.Passes.{Passes}
use Rattle.replica_wires.specs.declared.web.Web.{Web}
use Rattle.replica_wires.specs.declared.wires.Place.{Place}
use Rattle.replica_wires.specs.declared.wires.Wires.{Wires}
use Rattle.replica_wires.specs.Ends.{passes_of, place_of}
use Rattle.replica_wires.specs.Passing.{ArePassesOf, AreUnused, HaveTheirs, got_from, put_for}
use Rattle.replica_wires.specs.Webs.{replicas_of}
use Rattle.request_workers.specs.Opening.{AreOpened, IsOpened, Wired}
use Rattle.request_workers.proofs.Handed.{more_behind}

-- none is left: all were in front
pub all_in_front : {X : Type 0} (xs front left : List X) → front ++ left ≡ xs → length left ≡ 0 → front ≡ xs
all_in_front {X} xs front left all none = sym (append-nil front) ∙ ap (λ ys. front ++ ys) (sym (none_left left none)) ∙ all
  where
    none_left : (ys : List X) → length ys ≡ 0 → ys ≡ []
    none_left [] is = refl
    none_left (y ∷ ys) is = absurd (omega (arith, is))

-- ---- one replica

-- the links lead to all other replicas
pub reaches_peers : (setup : Setup) (web : Web) (me peer : ℕ) (place : Place) → place ≡ record { me = me; web = web } → replicas_of web ≡ setup.replicas → IsPeer setup me peer
    → (peer < replicas_of place.web) × (peer ≢ place.me)
reaches_peers setup web me peer place is same peers = subst (λ (p : Place). (peer < replicas_of p.web) × (peer ≢ p.me)) (sym is) (omega (arith, peers.0, same), peers.1)

-- nothing has passed on ends that were made of unused passes
pub quiet_ends : {R : Type 0} (wires : Wires R) (passes : Passes) (peer : ℕ) → passes_of wires ≡ passes → AreUnused passes
    → (put_for (place_of wires).me (passes_of wires) peer ≡ []) × (got_from (place_of wires).me (passes_of wires) peer ≡ [])
quiet_ends wires passes peer are unused = let own : AreUnused (passes_of wires) = subst AreUnused (sym are) unused in (own.put (place_of wires).me peer, own.got (place_of wires).me peer)

-- a node is that of the replica that its course names
pub own_place : {S E D M : Type 0} (keeps : S → ℕ → List Batch → Running → Type 0) (mark : E → M) (owner : M → ℕ) (reaches : M → ℕ → Type 0) (room : M → ℕ → ℕ) (puts gots : E → ℕ → List Message) (setup : Setup) (me : ℕ) (n : Node S E D M)
    → IsNode keeps mark owner reaches room puts gots setup me n → IsNode keeps mark owner reaches room puts gots setup n.still.course.me n
own_place keeps mark owner reaches room puts gots setup me n own = subst (λ k. IsNode keeps mark owner reaches room puts gots setup k n) (sym own.still.own.me_is) own

module _ {S D R : Type 0} (standing : D → Standing) (shows : S → Shown) (setup : Setup) (web : Web) where
  pub opened_one : (me : ℕ) (disk : D) (wires : Wires R) (node : Wired S D R) (v : Serving (Wired S D R))
      → place_of wires ≡ record { me = me; web = web } → node.ends ≡ wires → node.still.course.me ≡ me → node.still.course.entries ≡ []
      → ((given : ℕ) → TellsAll given (standing disk) → HasStops given (shows node.still.storage) node.still.course)
      → v ≡ record { setup = setup; first = node; node = node } → IsOpened standing shows setup web me disk v
  opened_one me disk wires node v placed ends me_is none stops is =
      subst (IsOpened standing shows setup web me disk) (sym is)
      (record { setup_is = refl; first = refl; me_is = me_is; none = none; placed = ap (λ (w : Wires R). place_of w) ends ∙ placed; stops = stops })

  -- ---- one more replica

  pub opened_none : AreOpened {S = S} {D = D} {R = R} standing shows setup web [] []
  opened_none = record { whole = refl; each = λ me d v at is. absurd cc }

  pub opened_more : (disks : List D) (values : List (Serving (Wired S D R))) (d : D) (v : Serving (Wired S D R)) → AreOpened standing shows setup web disks values → IsOpened standing shows setup web (length disks) d v
      → AreOpened standing shows setup web (disks ++ d ∷ []) (values ++ v ∷ [])
  opened_more disks values d v h one = record {
    whole = length-append values (v ∷ []) ∙ ap (λ n. n + 1) h.whole ∙ sym (length-append disks (d ∷ []));
    each = λ me e w at is. elim (get_push disks d me e at) [
      | inl old ↦ elim (get_push values v me w is) [
        | inl old_value ↦ h.each me e w old old_value
        | inr last ↦ absurd (omega (arith, slice_get_within disks me e old, last.0, h.whole))
      ]
      | inr last ↦ elim (get_push values v me w is) [
        | inl old_value ↦ absurd (omega (arith, slice_get_within values me w old_value, last.0, h.whole))
        | inr last_value ↦
            subst (λ i. IsOpened standing shows setup web i e w) (sym last.0)
            (subst (λ x. IsOpened standing shows setup web (length disks) x w) last.1 (subst (λ (x : Serving (Wired S D R)). IsOpened standing shows setup web (length disks) d x) last_value.1 one))
      ]
    ];
  }

-- ---- the passes

-- these are the passes from this replica on, unused
pub record AreNext (web : Web) (me : ℕ) (passes : List Passes) : Type 0 where
  pub each : (k : ℕ) (p : Passes) → slice_get passes k ≡ Some p → ArePassesOf web (me + k) p
  pub fresh : AllByRecursion AreUnused passes

-- all of them are
pub all_next : (web : Web) (passes : List Passes) → HaveTheirs web passes → AllByRecursion AreUnused passes → AreNext web 0 passes
all_next web passes own fresh = record { each = λ k p is. subst (λ i. ArePassesOf web i p) (omega arith) (own.each k p is); fresh = fresh }

-- the first of them is this replica's, and the others are those from the next one on
pub first_next : (web : Web) (me : ℕ) (p : Passes) (rest : List Passes) → AreNext web me (p ∷ rest) → ArePassesOf web me p × AreUnused p × AreNext web (me + 1) rest
first_next web me p rest h =
    let mine : ArePassesOf web me p = subst (λ i. ArePassesOf web i p) (omega arith) (h.each 0 p refl) in (
      mine,
      h.fresh.0,
      record { each = λ k q is. subst (λ i. ArePassesOf web i q) (omega arith) (h.each (suc k) q is); fresh = h.fresh.1 },
    )

-- the first of a list is taken out
taken_out : {X : Type 0} (xs rest : List X) (x : X) → 0 < length xs → x ≡ slice_index_or xs 0 x → rest ≡ remove xs 0 → xs ≡ x ∷ rest
taken_out [] rest x some is are = absurd (omega (arith, some))
taken_out (y ∷ xs) rest x some is are =
    let first : x ≡ y = is in
    let others : rest ≡ xs = are in
    sym (ap (λ z. z ∷ rest) first ∙ ap (λ zs. y ∷ zs) others)

-- ---- the next replica of all

-- replicas were opened over the disks in front; the disks behind are empty, and their passes unused
pub record AreOpening {S D R : Type 0} (standing : D → Standing) (may_leave : D → List ℕ → Type 0) (shows : S → Shown) (setup : Setup) (web : Web) (front behind : List D) (passes : List Passes) (values : List (Serving (Wired S D R))) : Type 0 where
  pub as_many : length passes ≡ length behind
  pub empty : AllByRecursion (λ d. IsEmpty (standing d) (may_leave d)) behind
  pub own : AreNext web (length front) passes
  pub opened : AreOpened standing shows setup web front values

module _ {S D R : Type 0} {standing : D → Standing} {may_leave : D → List ℕ → Type 0} {shows : S → Shown} {setup : Setup} {web : Web} where
  pub opening_first : {disks rest : List D} {passes left : List Passes} {values : List (Serving (Wired S D R))} → rest ≡ disks → left ≡ passes → values ≡ [] → length disks ≡ setup.replicas → replicas_of web ≡ setup.replicas → HaveTheirs web passes → AllByRecursion AreUnused passes
      → AllByRecursion (λ d. IsEmpty (standing d) (may_leave d)) disks → AreOpening standing may_leave shows setup web [] rest left values
  opening_first {disks} {rest} {passes} {left} {values} rest_is left_is values_are whole same own fresh empty =
      subst (λ ds. AreOpening standing may_leave shows setup web [] ds left values) (sym rest_is)
      (subst (λ (ps : List Passes). AreOpening standing may_leave shows setup web [] disks ps values) (sym left_is)
      (subst (AreOpening standing may_leave shows setup web [] disks passes) (sym values_are)
      (record {
        as_many = own.whole ∙ same ∙ sym whole;
        empty = empty;
        own = all_next web passes own fresh;
        opened = opened_none standing shows setup web;
      })))

module _ {S D R : Type 0} {standing : D → Standing} {may_leave : D → List ℕ → Type 0} {shows : S → Shown} {setup : Setup} {web : Web} {front left : List D} {passes : List Passes} {values : List (Serving (Wired S D R))} (h : AreOpening standing may_leave shows setup web front left passes values) where
  -- there are passes for the next disk
  pub some_passes : {behind : List D} {d : D} → left ≡ d ∷ behind → 0 < length passes
  some_passes {behind} {d} split = let long : length left ≡ length (d ∷ behind) = ap length split in omega (arith, h.as_many, long)

  -- they are taken out
  pub next_passes : {behind : List D} {d : D} {p : Passes} {rest : List Passes} → left ≡ d ∷ behind → p ≡ slice_index_or passes 0 p → rest ≡ remove passes 0 → passes ≡ p ∷ rest
  next_passes {p = p} {rest = rest} split is are = taken_out passes rest p (some_passes split) is are

  -- they are those of the next replica
  pub next_own : {me : ℕ} {p : Passes} {rest : List Passes} → me ≡ length front → passes ≡ p ∷ rest → ArePassesOf web me p × AreUnused p
  next_own {me} {p} {rest} at are =
      let f = first_next web (length front) p rest (subst (AreNext web (length front)) are h.own) in
      (subst (λ i. ArePassesOf web i p) (sym at) f.0, f.1)

  -- the next disk is empty
  pub next_empty : {behind : List D} {d : D} → left ≡ d ∷ behind → IsEmpty (standing d) (may_leave d)
  next_empty {behind} {d} split =
      let all : AllByRecursion (λ d. IsEmpty (standing d) (may_leave d)) (d ∷ behind) = subst (AllByRecursion (λ d. IsEmpty (standing d) (may_leave d))) split h.empty in
      all.0

  -- the next replica was opened over them
  pub opening_next : {disks behind : List D} {me : ℕ} {d : D} {p : Passes} {rest : List Passes} {more : List (Serving (Wired S D R))} {v : Serving (Wired S D R)} → front ++ left ≡ disks → me ≡ length front → left ≡ d ∷ behind → passes ≡ p ∷ rest → more ≡ values ++ v ∷ []
      → IsOpened standing shows setup web me d v → ((front ++ d ∷ []) ++ behind ≡ disks) × (me + 1 ≡ length (front ++ d ∷ [])) × AreOpening standing may_leave shows setup web (front ++ d ∷ []) behind rest more
  opening_next {disks} {behind} {me} {d} {p} {rest} {more} {v} all at split are values_are one =
      let longer : length (front ++ d ∷ []) ≡ length front + 1 = length-append front (d ∷ []) in
      let long : length left ≡ length (d ∷ behind) = ap length split in
      let many : length passes ≡ length (p ∷ rest) = ap length are in
      let empty : AllByRecursion (λ d. IsEmpty (standing d) (may_leave d)) (d ∷ behind) = subst (AllByRecursion (λ d. IsEmpty (standing d) (may_leave d))) split h.empty in
      let f = first_next web (length front) p rest (subst (AreNext web (length front)) are h.own) in
      let last : IsOpened standing shows setup web (length front) d v = subst (λ i. IsOpened standing shows setup web i d v) at one in (
        more_behind disks front left behind d all split,
        omega (arith, at, longer),
        record {
          as_many = omega (arith, h.as_many, long, many);
          empty = empty.1;
          own = subst (λ i. AreNext web i rest) (sym longer) f.2;
          opened = subst (AreOpened standing shows setup web (front ++ d ∷ [])) (sym values_are) (opened_more standing shows setup web front values d v h.opened last);
        },
      )

  -- no disk is behind
  pub opening_last : {disks : List D} → front ++ left ≡ disks → length left ≡ 0 → AreOpened standing shows setup web disks values
  opening_last {disks} all none = subst (λ ds. AreOpened standing shows setup web ds values) (all_in_front disks front left all none) h.opened
