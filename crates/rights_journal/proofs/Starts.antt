-- A fresh start keeps what the bytes stand for.
use Rattle.std.proofs.Common.{◌≡◌, ◌⊎◌, inl, inr, ℕ, ◌≤◌, ◌<◌, List, [], length, refl, sym, subst, arith, Result, Ok, Err, false}
use Rattle.std.specs.Prelude.{IfOk, IfErr, OnOk, IsTrue, Bool}
use Rattle.ind_disk.specs.Disk.{LeavesOnly, Only, Standing}
use Rattle.rights_journal.specs.Kept.{IsKept}
use Rattle.rights_journal.specs.Starting.{StartsNot}
use Rattle.rights_journal.specs.declared.starting.StartWhy.{StartWhy}
use Rattle.rights_journal.specs.declared.starting.StartWhy.TheVariants as whys
use Rattle.rights_journal.specs.Reading.{IsRead}
use Rattle.rights_journal.proofs.Moments.{weaker}
use Rattle.rights_journal.specs.Image.{IsUnfinished, StandsFor}
use Rattle.rights_journal.specs.Afresh.{IsBlank, IsFresh, IsNew}
use Rattle.rights_journal.proofs.Once.{not_headed, headed}
use Rattle.run_model.specs.declared.batch.Batch.{Batch}

module _ (replicas : ℕ) where
  none_of : (batches : List Batch) (bytes : List ℕ) → IsUnfinished bytes → StandsFor replicas batches bytes → batches ≡ []
  none_of batches bytes un (inl stands) = stands.1
  none_of batches bytes un (inr fin) = let h = headed replicas batches fin.gate fin.rest bytes fin.bytes in absurd (not_headed bytes h.0 h.1 un h.2)

  blank_stands : (c : List ℕ) → IsUnfinished c ⊎ IsBlank c → StandsFor replicas [] c
  blank_stands c (inl un) = inl (un, refl)
  blank_stands c (inr (gate, rest, is, closed)) = inr (record { gate = gate; rest = rest; bytes = is; closed = closed; each = tt })

  pub fresh_stands : (batches : List Batch) (bytes c : List ℕ) → IsUnfinished bytes → StandsFor replicas batches bytes → IsFresh c → StandsFor replicas batches c
  fresh_stands batches bytes c un stands fresh = subst (λ (l : List Batch). StandsFor replicas l c) (sym (none_of batches bytes un stands)) (blank_stands c fresh.none)

  -- a fresh journal has no batches
  pub new_read : (none : List Batch) (c : List ℕ) → none ≡ [] → IsNew 1 c → IsRead replicas none 9 c
  new_read none c is new = subst (λ (l : List Batch). IsRead replicas l 9 c) (sym is) (record { gate = 0; rest = []; bytes = new; closed = omega arith; each = tt }, refl)

  module _ {D : Type 0} (moment : D → ℕ) (left_since : D → ℕ → List ℕ → Type 0) (old new : D) where
    pub afresh_moments : (batches : List Batch) (bytes : List ℕ) → IsUnfinished bytes → StandsFor replicas batches bytes → LeavesOnly moment left_since old new IsFresh
        → LeavesOnly moment left_since old new (StandsFor replicas batches)
    afresh_moments batches bytes un stands run =
        weaker moment left_since old new IsFresh (StandsFor replicas batches) (λ c fresh. fresh_stands batches bytes c un stands fresh) run

    pub afresh_short : (longest : ℕ) → 10 ≤ longest → LeavesOnly moment left_since old new IsFresh → LeavesOnly moment left_since old new (λ c. length c ≤ longest)
    afresh_short longest room run = weaker moment left_since old new IsFresh (λ c. length c ≤ longest) (λ c fresh. omega (arith, room, fresh.size)) run

-- what is held of an answer's value stays, one step on
pub if_ok : {T E : Type 0} {P Q : T → Type 0} (r : Result T E) → ((x : T) → P x → Q x) → IfOk r P → IfOk r Q
if_ok (Ok x) f p = f x p
if_ok (Err e) f p = tt

pub always_ok : {T E P : Type 0} (r : Result T E) → P → OnOk r P
always_ok (Ok x) p = p
always_ok (Err e) p = tt

pub if_err : {T E : Type 0} {P Q : E → Type 0} (r : Result T E) → ((e : E) → P e → Q e) → IfErr r P → IfErr r Q
if_err (Ok x) f p = tt
if_err (Err e) f p = f e p

pub starts_not : {P Q : ℕ → Type 0} (e : StartWhy) → ((at : ℕ) → P at → Q at) → StartsNot P e → StartsNot Q e
starts_not whys.Disk f p = tt
starts_not (whys.Foreign at) f p = f at p
starts_not whys.Memory f p = tt

-- a journal that has started is kept
pub started : (replicas : ℕ) (old new : Standing) (may_leave : List ℕ → Type 0) (gate : ℕ) (batches : List Batch)
    → gate < new.size → Only new.bytes may_leave → new.tells ≡ old.tells → (IsTrue old.tells → IsRead replicas batches gate new.bytes)
    → new.tells_stops ≡ old.tells_stops → (IsTrue old.tells_stops → new.is_stopped ≡ false) → IsKept replicas new may_leave gate
started replicas old new may_leave gate batches inside settled tells read stops awake = record {
  inside = inside;
  settled = settled;
  finished = λ told. (batches, read (subst (λ (b : Bool). IsTrue b) tells told));
  awake = λ told. awake (subst (λ (b : Bool). IsTrue b) stops told);
}
