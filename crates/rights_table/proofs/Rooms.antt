-- An entry more, for a right of which the first share is held, changes nothing that is told.
use Rattle.std.proofs.Common.{◌≡◌, ◌⊎◌, inl, inr, Bool, true, false, subst, sym, ap, refl, ◌∙◌}
use Rattle.std.specs.Prelude.{Option, Some, None, Result, Ok, Err, IfOk, OnOk, is_ok}
use Rattle.ind_base.specs.declared.refusal.NoMemory.{NoMemory}
use Rattle.std.specs.Option.{option_map_or}
use Rattle.std.proofs.lemmas.Bool.{cases_Bool, cond-true, cond-false}
use Rattle.spec_model.specs.declared.right.Right.{Right}
use Rattle.run_model.specs.Rights.{same_right}
use Rattle.rights_table.specs.declared.holding.Holding.{Holding}
use Rattle.rights_table.specs.Same.{same_is, same_refl}
use Rattle.rights_table.proofs.Entries.{kind_entered, no_some}
use Rattle.rights_table.proofs.Telling.{count_entered, mode_entered, point_entered}
use Rattle.rights_table.specs.First.{IsFirst, IsSame}
use Rattle.run_model.specs.Points.{first_point}
use Rattle.run_model.specs.Rights.{even_share, first_total}
use Rattle.spec_model.specs.declared.right.Mode.TheVariants as mode
use Rattle.std.proofs.lemmas.Option.{same_Some}
use Rattle.spec_model.specs.declared.plan.Setup.{Setup}
use Rattle.rights_table.specs.declared.table.Table.{Table}
use Rattle.rights_table.specs.Holdings.{count_of, is_of, mode_of, point_of}
use Rattle.rights_table.specs.Tables.{count_in, entered, mode_in, point_in, Enters, IsEntered, IsHeldBy, KeepsEntries, TakesOver, TellTheSame}

-- one right is entered, or nothing is new
enters_cases : (enough : Bool) (r q : Right) (h : Holding) (old new : Table) → Enters enough r h old new → ((enough ≡ true) × (same_right r q ≡ true) × (entered new q ≡ Some h)) ⊎ (entered new q ≡ entered old q)
enters_cases false r q h old new enters = inr (enters.is q)
enters_cases true r q h old new enters =
    elim (cases_Bool (same_right r q)) [
      | inl same ↦ inl (refl, same, enters.is q ∙ cond-true (same_right r q) (Some h) (entered old q) same)
      | inr other ↦ inr (enters.is q ∙ cond-false (same_right r q) (Some h) (entered old q) other)
    ]

-- what is told of it is what was told without an entry
told_same : {X : Type 0} (f : Holding → X) (first : Right → X) (enough : Bool) (r q : Right) (h : Holding) (old new : Table) → Enters enough r h old new → f h ≡ first r
    → option_map_or f (entered new q) (first q) ≡ option_map_or f (entered old q) (first q)
told_same {X} f first enough r q h old new enters is =
    let told : Option Holding → X = λ o. option_map_or f o (first q) in
    elim (enters_cases enough r q h old new enters) [
      | inl here ↦ let one : r ≡ q = same_is r q here.1 in ap told here.2 ∙ is ∙ ap first one ∙ sym (ap told (ap (entered old) (sym one) ∙ enters.was))
      | inr stays ↦ ap told stays
    ]

-- so both tables tell the same
pub enters_same : (setup : Setup) (enough : Bool) (r : Right) (h : Holding) (old new : Table) → Enters enough r h old new → IsFirst setup old.me r h → TellTheSame setup old new
enters_same setup enough r h old new enters first = record {
  me = enters.me;
  replicas = enters.replicas;
  counts = λ q. ap (λ me. option_map_or count_of (entered new q) (even_share (first_total setup q) setup.replicas me)) enters.me ∙ told_same count_of (λ p. even_share (first_total setup p) setup.replicas old.me) enough r q h old new enters first.count;
  modes = λ q. told_same mode_of (λ p. mode.Forbid) enough r q h old new enters first.mode;
  points = λ q x. ap (λ me. option_map_or (λ (k : Holding). point_of k x) (entered new q) (first_point setup me q x)) enters.me ∙ told_same (λ k. point_of k x) (λ p. first_point setup old.me p x) enough r q h old new enters (first.points x);
}

-- and those that had an entry have one
pub enters_kept : (enough : Bool) (r : Right) (h : Holding) (old new : Table) → Enters enough r h old new → KeepsEntries old new
enters_kept enough r h old new enters q has =
    elim (enters_cases enough r q h old new enters) [
      | inl here ↦ (h, here.2)
      | inr stays ↦ (has.0, stays ∙ has.1)
    ]

-- with the memory it has one
enters_it : (r : Right) (h : Holding) (old new : Table) → Enters true r h old new → IsEntered new r
enters_it r h old new enters = (h, enters.is r ∙ cond-true (same_right r r) (Some h) (entered old r) (same_refl r))

pub enters_ok : {X : Type 0} (made : Result X NoMemory) (r : Right) (h : Holding) (old new : Table) → Enters (is_ok made) r h old new → OnOk made (IsEntered new r)
enters_ok (Ok x) r h old new enters = enters_it r h old new enters
enters_ok (Err e) r h old new enters = tt

-- ---- taking over

-- nothing new
pub takes_none : (setup : Setup) (from old : Table) → TakesOver setup from old old
takes_none setup from old = record {
  me = refl;
  replicas = refl;
  kept = λ q h is. is;
  more = λ q h none is. absurd (no_some h (sym is ∙ none));
}

-- one entry more, as the other table tells
pub takes_one : (setup : Setup) (enough : Bool) (from : Table) (r : Right) (h : Holding) (old new : Table) → Enters enough r h old new → IsHeldBy setup from r h → TakesOver setup from old new
takes_one setup enough from r h old new enters held = record {
  me = enters.me;
  replicas = enters.replicas;
  kept = λ q k has.
      elim (enters_cases enough r q h old new enters) [
        | inl here ↦ absurd (no_some k (sym has ∙ ap (entered old) (sym (same_is r q here.1)) ∙ enters.was))
        | inr stays ↦ stays ∙ has
      ];
  more = λ q k none now.
      elim (enters_cases enough r q h old new enters) [
        | inl here ↦
            let one : r ≡ q = same_is r q here.1 in
            let it : h ≡ k = same_Some h k (sym here.2 ∙ now) in
            (ap count_of (sym it) ∙ held.count ∙ ap (count_in setup from) one, ap mode_of (sym it) ∙ held.mode ∙ ap (mode_in from) one, λ x. ap (λ (l : Holding). point_of l x) (sym it) ∙ held.points x ∙ ap (λ (p : Right). point_in setup from p x) one)
        | inr stays ↦ absurd (no_some k (sym now ∙ stays ∙ none))
      ];
}

-- ---- holdings of their own

-- a copy of what is entered
pub held_copied : (setup : Setup) (t : Table) (r : Right) (h : Holding) (made : Result Holding NoMemory) → t.replicas ≡ setup.replicas → entered t r ≡ Some h → IfOk made (IsSame h) → IfOk made (IsHeldBy setup t r)
held_copied setup t r h (Err e) all is same = tt
held_copied setup t r h (Ok k) all is same = record {
  count = same.count ∙ sym (count_entered setup t r h is);
  mode = same.mode ∙ sym (mode_entered t r h is);
  points = λ x. same.points x ∙ sym (point_entered setup t r h x is);
  kind = same.kind setup.replicas r (subst (λ n. is_of n r h ≡ true) all (kind_entered t.replicas t.entries.entries r h t.kinds is));
}

-- what is held at the start
pub held_first : (setup : Setup) (t : Table) (r : Right) (made : Result Holding NoMemory) → entered t r ≡ None → IfOk made (IsFirst setup t.me r) → IfOk made (IsHeldBy setup t r)
held_first setup t r (Err e) none first = tt
held_first setup t r (Ok h) none first = record {
  count = first.count ∙ sym (ap (λ (o : Option Holding). option_map_or count_of o (even_share (first_total setup r) setup.replicas t.me)) none);
  mode = first.mode ∙ sym (ap (λ (o : Option Holding). option_map_or mode_of o mode.Forbid) none);
  points = λ x. first.points x ∙ sym (ap (λ (o : Option Holding). option_map_or (λ (k : Holding). point_of k x) o (first_point setup t.me r x)) none);
  kind = first.kind;
}
