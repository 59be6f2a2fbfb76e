-- Disks are handed out one by one, and come back one by one.
use Rattle.std.proofs.Common.{◌≡◌, ◌≢◌, ◌⊎◌, inl, inr, ℕ, zero, suc, ◌+◌, ◌<◌, List, [], ◌∷◌, ◌++◌, length, refl, sym, ap, subst, ◌∙◌, arith}
use Rattle.std.specs.Prelude.{slice_get, Some, Bool, IsTrue}
use Rattle.std.proofs.lemmas.Bool.{cases_lt}
use Rattle.std.proofs.lemmas.List.{append_assoc, length-append}
use Rattle.rights_journal.proofs.Frames.{all_push}
use Rattle.ind_disk.specs.Bay.{CameBack, IsEmpty, TellsAll, returned_of, with_one}
use Rattle.ind_disk.specs.Disk.{Standing}
use Rattle.ind_disk.specs.declared.stop.Stop.{Stop}
use Rattle.scenario_text.specs.declared.document.StopLine.{StopLine}
use Rattle.request_workers.specs.Histories.{stops_of}
use Rattle.request_workers.specs.Handing.{AreBack, AreHanded}

-- before the first disk
pub none_handed : {B D : Type 0} (standing : D → Standing) (may_leave : D → List ℕ → Type 0) (tells : B → Bool) (has_given : B → ℕ → Type 0) (given : B → ℕ → List (List Stop)) (left : B → ℕ → CameBack) (lines : List StopLine) (bay : B)
    → AreHanded standing may_leave tells has_given given left lines 0 bay bay []
none_handed standing may_leave tells has_given given left lines bay = record {
  whole = refl;
  empty = tt;
  told = λ telling me d is. absurd cc;
  places = λ r lt. absurd (omega (arith, lt));
  same = refl;
  asked = λ telling r lt. absurd (omega (arith, lt));
  nothing_else = λ telling r le. refl;
  nothing_back = λ telling r. refl;
}

-- an element of a list with one more
pub one_more : {X : Type 0} (xs : List X) (x : X) (k : ℕ) (y : X) → slice_get (xs ++ x ∷ []) k ≡ Some y → ((k < length xs) × (slice_get xs k ≡ Some y)) ⊎ ((k ≡ length xs) × (x ≡ y))
one_more [] x zero y is = inr (refl, cc)
one_more [] x (suc k) y is = absurd cc
one_more (z ∷ xs) x zero y is = inl (omega arith, is)
one_more (z ∷ xs) x (suc k) y is = elim (one_more xs x k y is) [
  | inl before ↦ inl (omega (arith, before.0), before.1)
  | inr last ↦ inr (omega (arith, last.0), last.1)
]

-- what a bay did that gave a disk for this replica
pub record HasGivenOne {B D : Type 0} (standing : D → Standing) (may_leave : D → List ℕ → Type 0) (tells : B → Bool) (has_given : B → ℕ → Type 0) (given : B → ℕ → List (List Stop)) (left : B → ℕ → CameBack) (stops : List Stop) (replica : ℕ) (old new : B) (disk : D) : Type 0 where
  pub empty : IsEmpty (standing disk) (may_leave disk)
  pub told : IsTrue (tells old) → TellsAll (length stops) (standing disk)
  pub same : tells new ≡ tells old
  pub place : has_given new replica
  pub places : (r : ℕ) → has_given old r → has_given new r
  pub asked : IsTrue (tells old) → given new replica ≡ given old replica ++ stops ∷ []
  pub nothing_else : IsTrue (tells old) → (r : ℕ) → r ≢ replica → given new r ≡ given old r
  pub nothing_back : IsTrue (tells old) → (r : ℕ) → left new r ≡ left old r

-- with these stops, which are the same
pub given_one : {B D : Type 0} (standing : D → Standing) (may_leave : D → List ℕ → Type 0) (tells : B → Bool) (has_given : B → ℕ → Type 0) (given : B → ℕ → List (List Stop)) (left : B → ℕ → CameBack) (stops same : List Stop) (replica : ℕ) (old new : B) (disk : D) → stops ≡ same
    → HasGivenOne standing may_leave tells has_given given left stops replica old new disk → HasGivenOne standing may_leave tells has_given given left same replica old new disk
given_one standing may_leave tells has_given given left stops same replica old new disk is = subst (λ s. HasGivenOne standing may_leave tells has_given given left s replica old new disk) is

pub one_handed : {B D : Type 0} (standing : D → Standing) (may_leave : D → List ℕ → Type 0) (tells : B → Bool) (has_given : B → ℕ → Type 0) (given : B → ℕ → List (List Stop)) (left : B → ℕ → CameBack) (lines : List StopLine) (k : ℕ) (first old new : B) (disks : List D) (disk : D)
    → AreHanded standing may_leave tells has_given given left lines k first old disks → HasGivenOne standing may_leave tells has_given given left (stops_of k lines) k old new disk
    → AreHanded standing may_leave tells has_given given left lines (k + 1) first new (disks ++ disk ∷ [])
one_handed {B} {D} standing may_leave tells has_given given left lines k first old new disks disk h one =
    let still : IsTrue (tells first) → IsTrue (tells old) = λ telling. subst IsTrue (sym h.same) telling in
    record {
      whole = omega (arith, h.whole, length-append disks (disk ∷ []));
      empty = all_push (λ d. IsEmpty (standing d) (may_leave d)) disks disk h.empty one.empty;
      told = λ telling me d is. elim (one_more disks disk me d is) [
        | inl before ↦ h.told telling me d before.1
        | inr last ↦ subst (λ (e : D). TellsAll (length (stops_of me lines)) (standing e)) last.1 (subst (λ i. TellsAll (length (stops_of i lines)) (standing disk)) (sym (last.0 ∙ h.whole)) (one.told (still telling)))
      ];
      places = λ r lt. elim (cases_lt r k) [
        | inl before ↦ one.places r (h.places r before)
        | inr le ↦ let here : r ≡ k = omega (arith, lt, le) in subst (has_given new) (sym here) one.place
      ];
      same = one.same ∙ h.same;
      asked = λ telling r lt. elim (cases_lt r k) [
        | inl before ↦ one.nothing_else (still telling) r (λ is. absurd (omega (arith, before, is))) ∙ h.asked telling r before
        | inr le ↦
            let here : r ≡ k = omega (arith, lt, le) in
            subst (λ i. given new i ≡ given first i ++ stops_of i lines ∷ []) (sym here) (one.asked (still telling) ∙ ap (λ (l : List (List Stop)). l ++ stops_of k lines ∷ []) (h.nothing_else telling k (omega arith)))
      ];
      nothing_else = λ telling r le. one.nothing_else (still telling) r (λ is. absurd (omega (arith, le, is))) ∙ h.nothing_else telling r (omega (arith, le));
      nothing_back = λ telling r. one.nothing_back (still telling) r ∙ h.nothing_back telling r;
    }

-- before the first comes back
pub none_back : {B D : Type 0} (standing : D → Standing) (tells : B → Bool) (has_given : B → ℕ → Type 0) (given : B → ℕ → List (List Stop)) (left : B → ℕ → CameBack) (bay : B) (disks : List D)
    → AreBack standing tells has_given given left 0 bay bay disks
none_back standing tells has_given given left bay disks = record {
  same = refl;
  places = λ r has. has;
  asked = λ telling r. refl;
  told = λ telling r d lt. absurd (omega (arith, lt));
  nothing_more = λ telling r le. refl;
}

-- what a bay did that took a disk back for this replica
pub record HasTakenOne {B D : Type 0} (standing : D → Standing) (tells : B → Bool) (has_given : B → ℕ → Type 0) (given : B → ℕ → List (List Stop)) (left : B → ℕ → CameBack) (replica : ℕ) (old new : B) (disk : D) : Type 0 where
  pub same : tells new ≡ tells old
  pub places : (r : ℕ) → has_given old r → has_given new r
  pub asked : IsTrue (tells old) → (r : ℕ) → given new r ≡ given old r
  pub told : IsTrue (tells old) → IsTrue (standing disk).tells → IsTrue (standing disk).tells_stops → left new replica ≡ with_one (left old replica) (returned_of (standing disk))
  pub others : IsTrue (tells old) → (r : ℕ) → r ≢ replica → left new r ≡ left old r

-- at its place
pub taken_at : {B D : Type 0} (standing : D → Standing) (tells : B → Bool) (has_given : B → ℕ → Type 0) (given : B → ℕ → List (List Stop)) (left : B → ℕ → CameBack) (replica place : ℕ) (old new : B) (disk : D) → replica ≡ place
    → HasTakenOne standing tells has_given given left replica old new disk → HasTakenOne standing tells has_given given left place old new disk
taken_at standing tells has_given given left replica place old new disk is = subst (λ r. HasTakenOne standing tells has_given given left r old new disk) is

pub one_back : {B D : Type 0} (standing : D → Standing) (tells : B → Bool) (has_given : B → ℕ → Type 0) (given : B → ℕ → List (List Stop)) (left : B → ℕ → CameBack) (k : ℕ) (first old new : B) (disks : List D) (disk : D)
    → slice_get disks k ≡ Some disk → AreBack standing tells has_given given left k first old disks → HasTakenOne standing tells has_given given left k old new disk
    → AreBack standing tells has_given given left (k + 1) first new disks
one_back {B} {D} standing tells has_given given left k first old new disks disk there h one =
    let still : IsTrue (tells first) → IsTrue (tells old) = λ telling. subst IsTrue (sym h.same) telling in
    record {
      same = one.same ∙ h.same;
      places = λ r has. one.places r (h.places r has);
      asked = λ telling r. one.asked (still telling) r ∙ h.asked telling r;
      told = λ telling r d lt is tells_it tells_stops. elim (cases_lt r k) [
        | inl before ↦ one.others (still telling) r (λ same. absurd (omega (arith, before, same))) ∙ h.told telling r d before is tells_it tells_stops
        | inr le ↦
            let here : r ≡ k = omega (arith, lt, le) in
            let it : disk ≡ d = same_at disk d (sym there ∙ subst (λ i. slice_get disks i ≡ Some d) here is) in
            let none_yet : left old k ≡ left first k = h.nothing_more telling k (omega arith) in
            let one_came : left new k ≡ with_one (left old k) (returned_of (standing disk)) = one.told (still telling) (subst (λ (e : D). IsTrue (standing e).tells) (sym it) tells_it) (subst (λ (e : D). IsTrue (standing e).tells_stops) (sym it) tells_stops) in
            subst (λ i. left new i ≡ with_one (left first i) (returned_of (standing d))) (sym here)
            (one_came ∙ ap (λ (c : CameBack). with_one c (returned_of (standing disk))) none_yet ∙ ap (λ (e : D). with_one (left first k) (returned_of (standing e))) it)
      ];
      nothing_more = λ telling r le. one.others (still telling) r (λ same. absurd (omega (arith, le, same))) ∙ h.nothing_more telling r (omega (arith, le));
    }
  where
    same_at : (x y : D) → Some x ≡ Some y → x ≡ y
    same_at x y is = cc

-- ---- the next disk, and none

placed : {X : Type 0} (front : List X) (x : X) (behind : List X) → slice_get (front ++ x ∷ behind) (length front) ≡ Some x
placed [] x behind = refl
placed (y ∷ front) x behind = placed front x behind

-- the element behind those in front
pub next_there : {X : Type 0} (xs front left behind : List X) (x : X) → front ++ left ≡ xs → left ≡ x ∷ behind → slice_get xs (length front) ≡ Some x
next_there xs front left behind x all split = ap (λ ys. slice_get ys (length front)) (sym all ∙ ap (λ ys. front ++ ys) split) ∙ placed front x behind

pub more_behind : {X : Type 0} (xs front left behind : List X) (x : X) → front ++ left ≡ xs → left ≡ x ∷ behind → (front ++ x ∷ []) ++ behind ≡ xs
more_behind xs front left behind x all split = append_assoc front (x ∷ []) behind ∙ ap (λ ys. front ++ ys) (sym split) ∙ all
