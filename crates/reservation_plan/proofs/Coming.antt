-- Cases judged one after the other.
use Rattle.std.proofs.Common.{◌≡◌, inl, inr, Bool, true, false, cond, ◌||◌, ◌&&◌, List, [], ◌∷◌, ◌++◌, map, filter, refl, sym, ap, subst, append_assoc, append-nil, ◌∙◌, arith}
use Rattle.std.specs.Prelude.{Option, Some, None}
use Rattle.std.specs.List.{AllByRecursion, find}
use Rattle.std.proofs.lemmas.Bool.{cases_Bool}
use Rattle.std.proofs.lemmas.List.{map_push}
use Rattle.std.proofs.lemmas.List.Elements.{filter-append}
use Rattle.ground_clauses.proofs.Lists.{each_append}
use Rattle.ground_clauses.specs.Conflicting.{IsTouchedCase}
use Rattle.ground_clauses.specs.declared.case.Case.{Case}
use Rattle.ground_clauses.specs.declared.clauses.Derivation.{Derivation}
use Rattle.reservation_plan.specs.Conflicts.{is_conflicting}
use Rattle.reservation_plan.specs.Ends.{Refuses, ends, is_declared_free, is_hard}
use Rattle.reservation_plan.specs.Judging.{AddsConflict, AddsHarmless, Comes, IsFinding, IsJudged, IsRefuted, Judges, JudgesMore, JudgesNone, case_of, judged_as, no_steps}
use Rattle.reservation_plan.specs.declared.analysed.DeriveError.{DeriveError}
use Rattle.reservation_plan.specs.declared.analysed.DeriveError.TheVariants.{Memory, Rejected, TooHard, TooManyCases}
use Rattle.reservation_plan.specs.declared.judging.Finding.{Finding}
use Rattle.reservation_plan.specs.declared.judging.Finding.TheVariants.{Conflicts, Harmless}
use Rattle.reservation_plan.specs.declared.judging.Judgements.{Judgements}
use Rattle.spec_model.specs.declared.spec.Spec.{Spec}

-- ---- the first

pub find_behind : {X : Type 0} (p : X → Bool) (xs ys : List X) → find p xs ≡ None → find p (xs ++ ys) ≡ find p ys
find_behind {X} p [] ys h = refl
find_behind {X} p (x ∷ xs) ys h = elim (cases_Bool (p x)) [
  | inl yes' ↦ absurd (some_none x (subst (λ b. cond b (Some x) (find p xs) ≡ None) yes' h))
  | inr no' ↦ ap (λ b. cond b (Some x) (find p (xs ++ ys))) no' ∙ find_behind p xs ys (subst (λ b. cond b (Some x) (find p xs) ≡ None) no' h)
]
  where
    some_none : (x : X) → Some x ≡ None → ⊥
    some_none x e = cc

pub find_before : {X : Type 0} (p : X → Bool) (xs ys : List X) (x : X) → find p xs ≡ Some x → find p (xs ++ ys) ≡ Some x
find_before p [] ys x h = cc
find_before p (y ∷ xs) ys x h = by_test (p y) (find_before p xs ys x) h
  where
    by_test : (b : Bool) → (find p xs ≡ Some x → find p (xs ++ ys) ≡ Some x) → cond b (Some y) (find p xs) ≡ Some x → cond b (Some y) (find p (xs ++ ys)) ≡ Some x
    by_test true rest g = g
    by_test false rest g = rest g

-- cases that go on before, and any behind, don't change why others are refused
pub refuses_within : (spec : Spec) (before ks after : List Case) (e : DeriveError) → find (ends spec) before ≡ None → Refuses spec ks e → Refuses spec (before ++ (ks ++ after)) e
refuses_within spec before ks after (TooManyCases n) goes r = r
refuses_within spec before ks after (Rejected k m) goes r = record {
  first = find_behind (ends spec) before (ks ++ after) goes ∙ find_before (ends spec) ks after k r.first;
  small = r.small;
  model = r.model;
}
refuses_within spec before ks after (TooHard n) goes r = record {
  case = r.case;
  first = find_behind (ends spec) before (ks ++ after) goes ∙ find_before (ends spec) ks after r.case r.first;
  many = r.many;
  variables = r.variables;
}
refuses_within spec before ks after Memory goes r = tt

-- ---- one case more

one_goes : (spec : Spec) (ks : List Case) (k : Case) → find (ends spec) ks ≡ None → ends spec k ≡ false → find (ends spec) (ks ++ k ∷ []) ≡ None
one_goes spec ks k goes h = find_behind (ends spec) ks (k ∷ []) goes ∙ ap (λ b. cond b (Some k) None) h

filter_one : (spec : Spec) (ks : List Case) (k : Case) (b : Bool) → is_conflicting spec k ≡ b → filter (is_conflicting spec) (ks ++ k ∷ []) ≡ filter (is_conflicting spec) ks ++ cond b (k ∷ []) []
filter_one spec ks k b h = filter-append (is_conflicting spec) ks (k ∷ []) ∙ ap (λ t. filter (is_conflicting spec) ks ++ cond t (k ∷ []) []) h

pub conflict_more : (spec : Spec) (k : Case) (old new : Judgements) → is_hard spec k ≡ false → is_declared_free spec k.a k.b ≡ false → is_conflicting spec k ≡ true
    → AddsConflict k old new → JudgesMore spec k old new
conflict_more spec k old new small free conflicting adds ks h = record {
  cases = ap (map case_of) adds.judged ∙ map_push case_of old.judged (judged_as k no_steps) ∙ ap (λ cs. cs ++ k ∷ []) h.cases;
  sound = subst (AllByRecursion (IsJudged spec)) (sym adds.judged) (each_append (IsJudged spec) old.judged (judged_as k no_steps ∷ []) h.sound (record { known = inl conflicting; short = omega arith }, tt));
  conflicts = adds.conflicts ∙ ap (λ cs. cs ++ k ∷ []) h.conflicts ∙ sym (filter_one spec ks k true conflicting);
  goes = one_goes spec ks k h.goes (ap (λ b. b || (is_declared_free spec k.a k.b && is_conflicting spec k)) small ∙ ap (λ b. b && is_conflicting spec k) free);
}

pub harmless_more : (spec : Spec) (k : Case) (d : Derivation) (old new : Judgements) → is_hard spec k ≡ false → is_conflicting spec k ≡ false → IsRefuted spec k d
    → AddsHarmless k d old new → JudgesMore spec k old new
harmless_more spec k d old new small harmless refuted adds ks h = record {
  cases = ap (map case_of) adds.judged ∙ map_push case_of old.judged (judged_as k d) ∙ ap (λ cs. cs ++ k ∷ []) h.cases;
  sound = subst (AllByRecursion (IsJudged spec)) (sym adds.judged) (each_append (IsJudged spec) old.judged (judged_as k d ∷ []) h.sound (record { known = inr refuted.right; short = refuted.short }, tt));
  conflicts = adds.conflicts ∙ h.conflicts ∙ sym (append-nil (filter (is_conflicting spec) ks)) ∙ sym (filter_one spec ks k false harmless);
  goes = one_goes spec ks k h.goes (ap (λ b. b || (is_declared_free spec k.a k.b && is_conflicting spec k)) small ∙ ap (λ b. is_declared_free spec k.a k.b && b) harmless ∙ and_false (is_declared_free spec k.a k.b));
}
  where
    and_false : (b : Bool) → (b && false) ≡ false
    and_false true = refl
    and_false false = refl

-- ---- all cases

pub comes_first : (spec : Spec) (all left : List Case) (j : Judgements) → JudgesNone j → left ≡ all → AllByRecursion (IsTouchedCase spec) left → Comes spec all left j
comes_first spec all left j none is touched = record { seen = []; whole = is; judges = none spec; touched = touched }

pub comes_on : (spec : Spec) (all was left : List Case) (k : Case) (old new : Judgements) → Comes spec all was old → was ≡ k ∷ left → JudgesMore spec k old new → Comes spec all left new
comes_on spec all was left k old new h is more = record {
  seen = h.seen ++ k ∷ [];
  whole = append_assoc h.seen (k ∷ []) left ∙ ap (λ ks. h.seen ++ ks) (sym is) ∙ h.whole;
  judges = more h.seen h.judges;
  touched = (subst (AllByRecursion (IsTouchedCase spec)) is h.touched).1;
}

pub comes_touched : (spec : Spec) (all was left : List Case) (k : Case) (old : Judgements) → Comes spec all was old → was ≡ k ∷ left → IsTouchedCase spec k
comes_touched spec all was left k old h is = (subst (AllByRecursion (IsTouchedCase spec)) is h.touched).0

pub comes_refused : (spec : Spec) (all was left : List Case) (k : Case) (old : Judgements) (e : DeriveError) → Comes spec all was old → was ≡ k ∷ left → Refuses spec (k ∷ []) e → Refuses spec all e
comes_refused spec all was left k old e h is r =
    subst (λ ks. Refuses spec ks e) (ap (λ ks. h.seen ++ ks) (sym is) ∙ h.whole) (refuses_within spec h.seen (k ∷ []) left e h.judges.goes r)

pub comes_end : (spec : Spec) (all was : List Case) (j : Judgements) → Comes spec all was j → was ≡ [] → Judges spec all j
comes_end spec all was j h is = subst (λ ks. Judges spec ks j) (sym (append-nil h.seen) ∙ ap (λ ks. h.seen ++ ks) (sym is) ∙ h.whole) h.judges

-- ---- by what was found

pub found_conflict : (spec : Spec) (k : Case) (f : Finding) (m : Option (List Bool)) → f ≡ Conflicts m → IsFinding spec k f → IsFinding spec k (Conflicts m)
found_conflict spec k f m is h = subst (IsFinding spec k) is h

pub found_harmless : (spec : Spec) (k : Case) (f : Finding) (d : Derivation) → f ≡ Harmless d → IsFinding spec k f → IsFinding spec k (Harmless d)
found_harmless spec k f d is h = subst (IsFinding spec k) is h
