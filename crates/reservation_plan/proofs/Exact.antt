-- The derived plan has a reservation for a pair exactly where some case of the pair is conflicting.
use Rattle.std.proofs.Common.{◌≡◌, ◌⊎◌, inl, inr, ℕ, ◌-◌, ◌<◌, ◌≤◌, Bool, true, false, cond, List, [], ◌∷◌, ◌++◌, filter, length, refl, sym, subst, arith}
use Rattle.std.specs.List.{AllByRecursion, flat_map}
use Rattle.std.proofs.lemmas.Bool.{cases_Bool, true≢false}
use Rattle.ground_clauses.proofs.Hypotheses.{Among, among_append_left, among_append_right, among_each, among_filter, among_flat_map, among_map, among_upto}
use Rattle.ground_clauses.proofs.Keeps.{among_from_contains, contains_from_among}
use Rattle.ground_clauses.proofs.Known.{pair_touched}
use Rattle.ground_clauses.proofs.Lists.{each_append, each_flat_map}
use Rattle.ground_clauses.specs.Cases.{pair_cases, upto_from}
use Rattle.ground_clauses.specs.Conflicting.{IsTouchedCase}
use Rattle.ground_clauses.specs.Derivations.{is_nil}
use Rattle.ground_clauses.specs.declared.case.Case.{Case}
use Rattle.reservation_plan.proofs.Reserved.{among_some, each_always}
use Rattle.reservation_plan.proofs.Telling.{tells_conflicts}
use Rattle.reservation_plan.specs.Conflicts.{conflicts, is_conflicting}
use Rattle.reservation_plan.specs.Derived.{derived_plan, is_partitioned, locks_at, locks_by, pair_of, pairs_of, parts_at, parts_by, reservation, row_pairs}
use Rattle.reservation_plan.specs.Laws.{InConflict, ReservesConflicts}
use Rattle.spec_model.specs.Fits.{IsWellFormed}
use Rattle.spec_model.specs.declared.plan.LockKind.{LockKind}
use Rattle.spec_model.specs.declared.plan.Pair.{Pair}
use Rattle.spec_model.specs.declared.spec.Spec.{Spec}

-- ---- a reservation has a reason

abbrev HasReason : Spec → LockKind → Type 0
HasReason spec l = is_nil (conflicts spec l.a l.b) ≡ false

locks_reason : (spec : Spec) (p : Pair) → AllByRecursion (HasReason spec) (locks_at spec p)
locks_reason spec p = by (is_nil (conflicts spec p.a p.b)) refl (is_partitioned spec p.a p.b (conflicts spec p.a p.b))
  where
    by : (n : Bool) → is_nil (conflicts spec p.a p.b) ≡ n → (t : Bool) → AllByRecursion (HasReason spec) (cond n [] (cond t [] (reservation spec p.a p.b (conflicts spec p.a p.b) ∷ [])))
    by true is t = tt
    by false is true = tt
    by false is false = (is, tt)

parts_reason : (spec : Spec) (p : Pair) → AllByRecursion (HasReason spec) (parts_at spec p)
parts_reason spec p = by (is_nil (conflicts spec p.a p.b)) refl (is_partitioned spec p.a p.b (conflicts spec p.a p.b))
  where
    by : (n : Bool) → is_nil (conflicts spec p.a p.b) ≡ n → (t : Bool) → AllByRecursion (HasReason spec) (cond n [] (cond t (reservation spec p.a p.b (conflicts spec p.a p.b) ∷ []) []))
    by true is t = tt
    by false is true = (is, tt)
    by false is false = tt

plan_reasons : (spec : Spec) → AllByRecursion (HasReason spec) ((derived_plan spec).locks ++ (derived_plan spec).parts)
plan_reasons spec =
    each_append (HasReason spec) (flat_map (locks_at spec) (pairs_of spec)) (flat_map (parts_at spec) (pairs_of spec))
    (each_flat_map (HasReason spec) (locks_at spec) (pairs_of spec) (each_always (λ p. AllByRecursion (HasReason spec) (locks_at spec p)) (pairs_of spec) (locks_reason spec)))
    (each_flat_map (HasReason spec) (parts_at spec) (pairs_of spec) (each_always (λ p. AllByRecursion (HasReason spec) (parts_at spec p)) (pairs_of spec) (parts_reason spec)))

pub record Passes {X : Type 0} (p : X → Bool) (xs : List X) : Type 0 where
  pub item : X
  pub among : Among item xs
  pub passes : p item ≡ true

filter_some : {X : Type 0} (p : X → Bool) (xs : List X) → is_nil (filter p xs) ≡ false → Passes p xs
filter_some p [] h = absurd (true≢false h)
filter_some p (x ∷ xs) h = elim (cases_Bool (p x)) [
  | inl here ↦ record { item = x; among = inl refl; passes = here }
  | inr not_here ↦
      let r : Passes p xs = filter_some p xs (subst (λ b. is_nil (cond b (x ∷ filter p xs) (filter p xs)) ≡ false) not_here h) in
      record { item = r.item; among = inr r.among; passes = r.passes }
]

touched_of : (spec : Spec) (a b : ℕ) (k : Case) → IsWellFormed spec → a ≤ b → b < length spec.ops → Among k (pair_cases spec a b) → IsTouchedCase spec k
touched_of spec a b k wf le lt is = among_each (IsTouchedCase spec) k (pair_cases spec a b) (pair_touched spec a b wf (omega (arith, le, lt)) lt) is

conflict_of : (spec : Spec) (a b : ℕ) → IsWellFormed spec → a ≤ b → b < length spec.ops → is_nil (conflicts spec a b) ≡ false → InConflict spec a b
conflict_of spec a b wf le lt some =
    let f : Passes (is_conflicting spec) (pair_cases spec a b) = filter_some (is_conflicting spec) (pair_cases spec a b) some in
    record {
      case = f.item;
      stands = contains_from_among (pair_cases spec a b) f.item f.among;
      conflicting = (tells_conflicts spec f.item (touched_of spec a b f.item wf le lt f.among)).0 f.passes;
    }

-- ---- a conflict has its reservation

pair_among : (spec : Spec) (a b : ℕ) → a ≤ b → b < length spec.ops → Among (pair_of a b) (pairs_of spec)
pair_among spec a b le lt =
    among_flat_map (row_pairs spec) a (pair_of a b) (upto_from 0 (length spec.ops)) (among_upto a 0 (length spec.ops) (omega arith) (omega (arith, le, lt)))
    (among_map (pair_of a) b (upto_from a (length spec.ops - a)) (among_upto b a (length spec.ops - a) le (omega (arith, le, lt))))

reserved_by : (spec : Spec) (a b : ℕ) (ks : List Case) → is_nil ks ≡ false → Among (reservation spec a b ks) (locks_by spec a b ks) ⊎ Among (reservation spec a b ks) (parts_by spec a b ks)
reserved_by spec a b ks some =
    subst (λ n. Among (reservation spec a b ks) (cond n [] (cond (is_partitioned spec a b ks) [] (reservation spec a b ks ∷ []))) ⊎ Among (reservation spec a b ks) (cond n [] (cond (is_partitioned spec a b ks) (reservation spec a b ks ∷ []) [])))
    (sym some) (by (is_partitioned spec a b ks))
  where
    by : (t : Bool) → Among (reservation spec a b ks) (cond t [] (reservation spec a b ks ∷ [])) ⊎ Among (reservation spec a b ks) (cond t (reservation spec a b ks ∷ []) [])
    by true = inr (inl refl)
    by false = inl (inl refl)

reservation_among : (spec : Spec) (a b : ℕ) → a ≤ b → b < length spec.ops → is_nil (conflicts spec a b) ≡ false → Among (reservation spec a b (conflicts spec a b)) ((derived_plan spec).locks ++ (derived_plan spec).parts)
reservation_among spec a b le lt some = elim (reserved_by spec a b (conflicts spec a b) some) [
  | inl locked ↦
      among_append_left (reservation spec a b (conflicts spec a b)) (flat_map (locks_at spec) (pairs_of spec)) (flat_map (parts_at spec) (pairs_of spec))
      (among_flat_map (locks_at spec) (pair_of a b) (reservation spec a b (conflicts spec a b)) (pairs_of spec) (pair_among spec a b le lt) locked)
  | inr parted ↦
      among_append_right (reservation spec a b (conflicts spec a b)) (flat_map (locks_at spec) (pairs_of spec)) (flat_map (parts_at spec) (pairs_of spec))
      (among_flat_map (parts_at spec) (pair_of a b) (reservation spec a b (conflicts spec a b)) (pairs_of spec) (pair_among spec a b le lt) parted)
]

pub reserves_conflicts : ReservesConflicts
reserves_conflicts spec a b wf le lt = (
  λ r. conflict_of spec a b wf le lt
      (subst (λ x. is_nil (conflicts spec x b) ≡ false) r.a_is
      (subst (λ y. is_nil (conflicts spec r.kind.a y) ≡ false) r.b_is
      (among_each (HasReason spec) r.kind ((derived_plan spec).locks ++ (derived_plan spec).parts) (plan_reasons spec) (among_from_contains ((derived_plan spec).locks ++ (derived_plan spec).parts) r.kind r.stands)))),
  λ c.
      let is : Among c.case (pair_cases spec a b) = among_from_contains (pair_cases spec a b) c.case c.stands in
      let told : is_conflicting spec c.case ≡ true = (tells_conflicts spec c.case (touched_of spec a b c.case wf le lt is)).1 c.conflicting in
      let some : is_nil (conflicts spec a b) ≡ false = among_some c.case (conflicts spec a b) (among_filter (is_conflicting spec) c.case (pair_cases spec a b) told is) in
      record {
        kind = reservation spec a b (conflicts spec a b);
        stands = contains_from_among ((derived_plan spec).locks ++ (derived_plan spec).parts) (reservation spec a b (conflicts spec a b)) (reservation_among spec a b le lt some);
        a_is = refl;
        b_is = refl;
      },
)
