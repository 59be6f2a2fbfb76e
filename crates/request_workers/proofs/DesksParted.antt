-- Replicas leave their desks one by one.
use Rattle.std.proofs.Common.{◌≡◌, inl, inr, ℕ, ◌+◌, List, [], ◌∷◌, ◌++◌, length, sym, ap, subst, ◌∙◌, arith}
use Rattle.std.proofs.lemmas.List.{length-append}
use Rattle.std.proofs.lemmas.Option.{slice_get_within}
use Rattle.run_model.specs.declared.batch.Batch.{Batch}
use Rattle.run_model.specs.Worlds.{Running}
use Rattle.run_model.proofs.Lists.{get_push}
use Rattle.batch_storage.specs.Shown.{Shown}
use Rattle.replica_node.specs.declared.still.Still.{Still}
use Rattle.replica_node.specs.Serving.{Serving}
use Rattle.replica_wires.specs.declared.passes.Passes.{Passes}
use Rattle.replica_wires.specs.declared.wires.Wires.{Wires}
use Rattle.replica_wires.specs.Ends.{passes_of, place_of}
use Rattle.replica_wires.specs.Passing.{ArePassesOf}
use Rattle.request_workers.specs.Opening.{AreParted, HasServedWired, IsParted, Wired}
use Rattle.request_workers.proofs.DesksOpened.{all_in_front}
use Rattle.request_workers.proofs.Handed.{more_behind}

module _ {S D R : Type 0} (keeps : S → ℕ → List Batch → Running → Type 0) (shows : S → Shown) where
  -- what a node gives when it is taken from its desk and parted from its ends
  pub parted_one : (v : Serving (Wired S D R)) (node : Wired S D R) (still : Still S D) (ends : Wires R) (passes : Passes) → node ≡ v.node → HasServedWired keeps shows v.setup v.first node → still ≡ node.still → ends ≡ node.ends
      → passes ≡ passes_of ends → ArePassesOf (place_of ends).web (place_of ends).me passes → IsParted keeps shows v still passes
  parted_one v node still ends passes is served still_is ends_are passes_are own =
      let ends_of : ends ≡ v.node.ends = ends_are ∙ ap (λ (n : Wired S D R). n.ends) is in
      record {
        served = subst (λ (n : Wired S D R). HasServedWired keeps shows v.setup v.first n) is served;
        still_is = still_is ∙ ap (λ (n : Wired S D R). n.still) is;
        passes_are = passes_are ∙ ap (λ (w : Wires R). passes_of w) ends_of;
        own = subst (λ (w : Wires R). ArePassesOf (place_of w).web (place_of w).me passes) ends_of own;
      }

  -- ---- one more replica

  pub parted_more : (values : List (Serving (Wired S D R))) (stills : List (Still S D)) (passes : List Passes) (v : Serving (Wired S D R)) (s : Still S D) (p : Passes) → AreParted keeps shows values stills passes → IsParted keeps shows v s p
      → AreParted keeps shows (values ++ v ∷ []) (stills ++ s ∷ []) (passes ++ p ∷ [])
  parted_more values stills passes v s p h one = record {
    whole = length-append stills (s ∷ []) ∙ ap (λ n. n + 1) h.whole ∙ sym (length-append values (v ∷ []));
    passes_whole = length-append passes (p ∷ []) ∙ ap (λ n. n + 1) h.passes_whole ∙ sym (length-append values (v ∷ []));
    each = λ me w t q at is there. elim (get_push values v me w at) [
      | inl old ↦ elim (get_push stills s me t is) [
        | inl old_still ↦ elim (get_push passes p me q there) [
          | inl old_passes ↦ h.each me w t q old old_still old_passes
          | inr last ↦ absurd (omega (arith, slice_get_within values me w old, last.0, h.passes_whole))
        ]
        | inr last ↦ absurd (omega (arith, slice_get_within values me w old, last.0, h.whole))
      ]
      | inr last ↦ elim (get_push stills s me t is) [
        | inl old_still ↦ absurd (omega (arith, slice_get_within stills me t old_still, last.0, h.whole))
        | inr last_still ↦ elim (get_push passes p me q there) [
          | inl old_passes ↦ absurd (omega (arith, slice_get_within passes me q old_passes, last.0, h.passes_whole))
          | inr last_passes ↦
              subst (λ (x : Serving (Wired S D R)). IsParted keeps shows x t q) last.1
              (subst (λ (x : Still S D). IsParted keeps shows v x q) last_still.1 (subst (λ (x : Passes). IsParted keeps shows v s x) last_passes.1 one))
        ]
      ]
    ];
  }

module _ {S D R : Type 0} {keeps : S → ℕ → List Batch → Running → Type 0} {shows : S → Shown} {values front : List (Serving (Wired S D R))} {stills : List (Still S D)} {passes : List Passes} where
  -- the next of these replicas
  pub parted_next : {left behind : List (Serving (Wired S D R))} {more_stills : List (Still S D)} {more_passes : List Passes} {v : Serving (Wired S D R)} {s : Still S D} {p : Passes} → AreParted keeps shows front stills passes → front ++ left ≡ values → left ≡ v ∷ behind
      → more_stills ≡ stills ++ s ∷ [] → more_passes ≡ passes ++ p ∷ [] → IsParted keeps shows v s p → ((front ++ v ∷ []) ++ behind ≡ values) × AreParted keeps shows (front ++ v ∷ []) more_stills more_passes
  parted_next {left} {behind} {more_stills} {more_passes} {v} {s} {p} h all split stills_are passes_are one = (
    more_behind values front left behind v all split,
    subst (λ (ss : List (Still S D)). AreParted keeps shows (front ++ v ∷ []) ss more_passes) (sym stills_are)
        (subst (λ (ps : List Passes). AreParted keeps shows (front ++ v ∷ []) (stills ++ s ∷ []) ps) (sym passes_are) (parted_more keeps shows front stills passes v s p h one)),
  )

  -- none is left
  pub parted_last : (left : List (Serving (Wired S D R))) → AreParted keeps shows front stills passes → front ++ left ≡ values → length left ≡ 0 → AreParted keeps shows values stills passes
  parted_last left h all none = subst (λ vs. AreParted keeps shows vs stills passes) (all_in_front values front left all none) h
