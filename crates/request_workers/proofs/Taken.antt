-- Replicas that take what was left for them, one after the other, and end.
use Rattle.std.proofs.Common.{◌≡◌, ◌≢◌, ◌⊎◌, inl, inr, ℕ, zero, suc, ◌+◌, ◌<◌, List, [], ◌∷◌, ◌++◌, length, length-set, map, refl, sym, ap, subst, ◌∙◌, arith}
use Rattle.std.proofs.lemmas.Option.{slice_get_within}
use Rattle.std.specs.Prelude.{slice_get, slice_index_or, slice_set, Some, IsTrue}
use Rattle.std.proofs.lemmas.Bool.{cases_eq}
use Rattle.std.proofs.lemmas.List.{length-append, length-map, map-append}
use Rattle.ind_disk.specs.Disk.{Standing as DiskStanding}
use Rattle.spec_model.specs.declared.plan.Setup.{Setup}
use Rattle.run_model.specs.declared.batch.Batch.{Batch}
use Rattle.run_model.specs.declared.history.History.{History}
use Rattle.run_model.specs.declared.message.Message.{Message}
use Rattle.run_model.specs.declared.step.StepEntry.{StepEntry}
use Rattle.run_model.specs.Worlds.{Running}
use Rattle.run_model.proofs.Lists.{get_set_other, get_set_same}
use Rattle.batch_storage.specs.Shown.{Shown, shown_of}
use Rattle.replica_course.specs.Courses.{history_of, running_of}
use Rattle.replica_node.specs.Nodes.{IsStill}
use Rattle.replica_node.specs.Steps.{plain}
use Rattle.replica_node.specs.declared.still.Still.{Still}
use Rattle.client_runs.specs.Serving.{takes_of}
use Rattle.request_workers.specs.Taking.{AreAllStill, AreFinished, CanAllTake, CanTake, HasTaken, HaveTaken, to_take}
use Rattle.client_runs.proofs.Joined.{some_at, some_same}
use Rattle.request_workers.proofs.Handed.{one_more}

-- what is found at a place is there
pub found_at : {X : Type 0} (xs : List X) (k : ℕ) (none x : X) → k < length xs → x ≡ slice_index_or xs k none → slice_get xs k ≡ Some x
found_at [] k none x lt is = absurd (omega (arith, lt))
found_at (y ∷ xs) zero none x lt is = cc
found_at (y ∷ xs) (suc k) none x lt is = found_at xs k none x (omega (arith, lt)) is

-- a place that isn't set
get_set_apart : {X : Type 0} (xs : List X) (at : ℕ) (new : X) (k : ℕ) → k ≢ at → slice_get (slice_set xs at new) k ≡ slice_get xs k
get_set_apart [] at new k apart = refl
get_set_apart (x ∷ xs) zero new zero apart = absurd (apart refl)
get_set_apart (x ∷ xs) zero new (suc k) apart = refl
get_set_apart (x ∷ xs) (suc at) new zero apart = refl
get_set_apart (x ∷ xs) (suc at) new (suc k) apart = get_set_apart xs at new k (λ same. apart (ap suc same))

module _ {S D : Type 0} (keeps : S → ℕ → List Batch → Running → Type 0) (shows : S → Shown) (setup : Setup) (left : List (List (List Message))) where
  -- before the first
  pub none_have : (stills : List (Still S D)) → HaveTaken keeps shows setup 0 left stills stills
  none_have stills = record {
    whole = refl;
    each = λ me s after lists lt. absurd (omega (arith, lt));
    later = λ me le. refl;
  }

  -- the next has what is left for it to take
  pub next_can : (many : ℕ) (old now : List (Still S D)) (s : Still S D) (lists : List (List Message)) → CanAllTake keeps setup left old → HaveTaken keeps shows setup many left old now → slice_get now many ≡ Some s → slice_get left many ≡ Some lists → CanTake keeps setup many lists s
  next_can many old now s lists can have s_at lists_at = can.each many s lists (sym (have.later many (omega arith)) ∙ s_at) lists_at

  pub have_next : (many : ℕ) (old now : List (Still S D)) (s after : Still S D) (lists : List (List Message)) → HaveTaken keeps shows setup many left old now → slice_get now many ≡ Some s → slice_get left many ≡ Some lists → HasTaken keeps shows setup many setup.replicas lists s after
      → HaveTaken keeps shows setup (many + 1) left old (slice_set now many after)
  have_next many old now s after lists have s_at lists_at one =
      let s_is : slice_get old many ≡ Some s = sym (have.later many (omega arith)) ∙ s_at in
      record {
        whole = length-set now many after ∙ have.whole;
        each = λ me before new its lt old_at new_at its_at. elim (cases_eq me many) [
          | inl here ↦
              let within : many < length now = omega (arith, slice_get_within now many s s_at) in
              let new_is : after ≡ new = some_same after new (sym (get_set_same now many after within) ∙ ap (slice_get (slice_set now many after)) (sym here) ∙ new_at) in
              let before_is : s ≡ before = some_same s before (sym s_is ∙ ap (slice_get old) (sym here) ∙ old_at) in
              let its_is : lists ≡ its = some_same lists its (sym lists_at ∙ ap (slice_get left) (sym here) ∙ its_at) in
              subst (λ k. HasTaken keeps shows setup k setup.replicas its before new) (sym here)
              (subst (λ x. HasTaken keeps shows setup many setup.replicas its before x) new_is
              (subst (λ x. HasTaken keeps shows setup many setup.replicas its x after) before_is
              (subst (λ x. HasTaken keeps shows setup many setup.replicas x s after) its_is one)))
          | inr other ↦ have.each me before new its (omega (arith, lt, other)) old_at (get_set_other now many me after new other new_at) its_at
        ];
        later = λ me le. get_set_apart now many after me (λ same. omega (arith, le, same)) ∙ have.later me (omega (arith, le));
      }

  -- each has room for its history, and can show it
  pub can_finish : (old now : List (Still S D)) → CanAllTake keeps setup left old → HaveTaken keeps shows setup setup.replicas left old now → AreAllStill keeps setup now
  can_finish old now can have = record {
    each = λ me s at.
        let lt : me < setup.replicas = omega (arith, slice_get_within now me s at, have.whole, can.whole) in
        let before = some_at old me (omega (arith, lt, can.whole)) in
        let lists = some_at left me (omega (arith, lt, can.left_whole)) in
        let could : CanTake keeps setup me lists.0 before.0 = can.each me before.0 lists.0 before.1 lists.1 in
        let h : HasTaken keeps shows setup me setup.replicas lists.0 before.0 s = have.each me before.0 s lists.0 lt before.1 at lists.1 in
        let t = h.takes could.taken could.put could.own in
        let takes_long : length h.closing.closing ≡ length (takes_of (λ peer. length (to_take before.0 lists.0 peer)) me setup.replicas) = sym (length-map h.closing.closing (λ (e : StepEntry). plain e.ask)) ∙ ap length h.closing.asked in
        let long : length s.course.entries ≡ length before.0.course.entries + length h.closing.closing = ap length h.closing.entries ∙ length-append before.0.course.entries h.closing.closing in
        (t.after, could.put, subst (λ k. IsStill keeps setup k t.after could.put s) (sym t.still.own.me_is) t.still, omega (arith, long, takes_long, could.room));
  }

-- ---- how they end

module _ {S D : Type 0} (standing : D → DiskStanding) (shows : S → Shown) (comes_back : ℕ → List Batch → Running → List ℕ → Type 0) (setup : Setup) where
  pub none_finished : AreFinished {S = S} {D = D} standing shows comes_back setup [] [] []
  none_finished = record {
    histories_are = refl;
    whole = refl;
    shown = λ me s d is at. absurd cc;
    journals = λ me s d is at tells. absurd cc;
  }

  -- the one at a place of both lists, one of which has one more
  pub finished_next : (stills : List (Still S D)) (histories : List History) (disks : List D) (s : Still S D) (h : History) (d : D) → AreFinished standing shows comes_back setup stills histories disks → h ≡ history_of setup s.course
      → shows s.storage ≡ shown_of (standing d) → (IsTrue (standing d).tells → comes_back setup.replicas s.course.kept (running_of s.course) (standing d).bytes)
      → AreFinished standing shows comes_back setup (stills ++ s ∷ []) (histories ++ h ∷ []) (disks ++ d ∷ [])
  finished_next stills histories disks s h d so_far is shown journal = record {
    histories_are = ap (λ (hs : List History). hs ++ h ∷ []) so_far.histories_are
        ∙ ap (λ (x : History). map (λ (t : Still S D). history_of setup t.course) stills ++ x ∷ []) is
        ∙ sym (map-append (λ (t : Still S D). history_of setup t.course) stills (s ∷ []));
    whole = omega (arith, length-append disks (d ∷ []), length-append stills (s ∷ []), so_far.whole);
    shown = λ me t e t_at e_at. pick (λ t e. shows t.storage ≡ shown_of (standing e)) me t e (one_more stills s me t t_at) (one_more disks d me e e_at) (so_far.shown me t e) shown;
    journals = λ me t e t_at e_at. pick (λ t e. IsTrue (standing e).tells → comes_back setup.replicas t.course.kept (running_of t.course) (standing e).bytes) me t e (one_more stills s me t t_at) (one_more disks d me e e_at) (so_far.journals me t e) journal;
  }
    where
      pick : (P : Still S D → D → Type 0) (me : ℕ) (t : Still S D) (e : D) → ((me < length stills) × (slice_get stills me ≡ Some t)) ⊎ ((me ≡ length stills) × (s ≡ t)) → ((me < length disks) × (slice_get disks me ≡ Some e)) ⊎ ((me ≡ length disks) × (d ≡ e))
          → (slice_get stills me ≡ Some t → slice_get disks me ≡ Some e → P t e) → P s d → P t e
      pick P me t e (inl a) (inl b) before last = before a.1 b.1
      pick P me t e (inl a) (inr b) before last = absurd (omega (arith, a.0, b.0, so_far.whole))
      pick P me t e (inr a) (inl b) before last = absurd (omega (arith, a.0, b.0, so_far.whole))
      pick P me t e (inr a) (inr b) before last = subst (λ x. P x e) a.1 (subst (λ y. P s y) b.1 last)
