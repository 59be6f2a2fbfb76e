-- What the storages keep, and the stops of their disks, over a step of one replica.
use Rattle.std.proofs.Common.{◌≡◌, inl, inr, ℕ, List, [], ◌∷◌, ◌++◌, Result, Ok, Err, refl, sym, ap, subst, ◌∙◌, length-set}
use Rattle.std.specs.Prelude.{slice_get, slice_set, Some, OnErr}
use Rattle.ind_base.specs.declared.refusal.NoMemory.{NoMemory}
use Rattle.std.proofs.lemmas.Bool.Decides.{eqb_tells}
use Rattle.std.proofs.lemmas.Option.{slice_get_within}
use Rattle.spec_model.specs.declared.plan.Setup.{Setup}
use Rattle.run_model.specs.declared.batch.Batch.{Batch}
use Rattle.run_model.specs.declared.step.StepEntry.{StepEntry}
use Rattle.run_model.specs.Worlds.{Running}
use Rattle.run_model.proofs.Lists.{get_set_other, get_set_same}
use Rattle.batch_storage.specs.Kept.{StillKeeps}
use Rattle.batch_storage.specs.Shown.{Costs, Shown}
use Rattle.replica_course.specs.Courses.{HasStops, running_of}
use Rattle.replica_course.specs.declared.course.Course.{Course}
use Rattle.replica_world.specs.Worlds.{AreKept, HasStopsAt, StillKeepsAt}

-- what stands at a place, once one place was set
pub set_same : {X : Type 0} (xs : List X) (i : ℕ) (old new x : X) → slice_get xs i ≡ Some old → slice_get (slice_set xs i new) i ≡ Some x → new ≡ x
set_same xs i old new x was is = let same : Some new ≡ Some x = sym (get_set_same xs i new (slice_get_within xs i old was)) ∙ is in cc

-- the replica that stepped keeps what it says, and all others as before
pub kept_more : {S : Type 0} (keeps : S → ℕ → List Batch → Running → Type 0) (setup : Setup) (me : ℕ) (courses : List Course) (storages : List S) (c after : Course) (s last : S) → slice_get courses me ≡ Some c → slice_get storages me ≡ Some s
    → keeps last setup.replicas after.kept (running_of after) → AreKept keeps setup courses storages → AreKept keeps setup (slice_set courses me after) (slice_set storages me last)
kept_more keeps setup me courses storages c after s last was had now h = record {
  whole = length-set storages me last ∙ h.whole ∙ sym (length-set courses me after);
  each = λ j d t is there. elim (eqb_tells j me) [
    | inl same ↦
        let one : after ≡ d = set_same courses me c after d was (subst (λ i. slice_get (slice_set courses me after) i ≡ Some d) same.1 is) in
        let other : last ≡ t = set_same storages me s last t had (subst (λ i. slice_get (slice_set storages me last) i ≡ Some t) same.1 there) in
        subst (λ u. keeps u setup.replicas d.kept (running_of d)) other (subst (λ (x : Course). keeps last setup.replicas x.kept (running_of x)) one now)
    | inr ne ↦ h.each j d t (get_set_other courses me j after d ne.1 is) (get_set_other storages me j last t ne.1 there)
  ];
}

-- a refusal at a replica keeps what its storage keeps still
pub still_at : {S T : Type 0} (keeps : S → ℕ → List Batch → Running → Type 0) (setup : Setup) (me : ℕ) (storages : List S) (s last : S) (r : Result T NoMemory) → slice_get storages me ≡ Some s
    → OnErr r (StillKeeps (keeps s setup.replicas) (keeps last setup.replicas)) → OnErr r (StillKeepsAt keeps setup me storages (slice_set storages me last))
still_at keeps setup me storages s last (Ok x) had h = tt
still_at keeps setup me storages s last (Err e) had h = λ t u was is batches running kept.
    let before : Some t ≡ Some s = sym was ∙ had in
    let same : t ≡ s = cc in
    subst (λ v. keeps v setup.replicas batches running) (set_same storages me s last u had is) (h batches running (subst (λ v. keeps v setup.replicas batches running) same kept))

-- ---- stops

-- at the replica that stepped, and all others
pub at_one : {S : Type 0} (shows : S → Shown) (me : ℕ) (courses : List Course) (storages : List S) (c after : Course) (s last : S) {given : ℕ} → slice_get courses me ≡ Some c → slice_get storages me ≡ Some s → (HasStops given (shows s) c → HasStops given (shows last) after)
    → (r : ℕ) → HasStopsAt shows courses storages r given → HasStopsAt shows (slice_set courses me after) (slice_set storages me last) r given
at_one shows me courses storages c after s last {given} was had one_more r h = λ d t is there. elim (eqb_tells r me) [
  | inl same ↦
      let one : after ≡ d = set_same courses me c after d was (subst (λ i. slice_get (slice_set courses me after) i ≡ Some d) same.1 is) in
      let other : last ≡ t = set_same storages me s last t had (subst (λ i. slice_get (slice_set storages me last) i ≡ Some t) same.1 there) in
      let before : HasStops given (shows s) c = h c s (subst (λ i. slice_get courses i ≡ Some c) (sym same.1) was) (subst (λ i. slice_get storages i ≡ Some s) (sym same.1) had) in
      subst (λ u. HasStops given (shows u) d) other (subst (HasStops given (shows last)) one (one_more before))
  | inr ne ↦ h d t (get_set_other courses me r after d ne.1 is) (get_set_other storages me r last t ne.1 there)
]
