-- Where Every touched case is met, unseparated instances are stable.
use Rattle.std.proofs.Common.{◌≡◌, ◌⊎◌, inl, inr, ℕ, suc, ◌<◌, ◌≤◌, Bool, true, false, not, List, [], ◌∷◌, length, get_or, refl, sym, ap, subst, ◌∙◌, arith}
use Rattle.std.specs.Prelude.{Contains, Some, Option}
use Rattle.std.proofs.lemmas.Bool.{cases_lt}
use Rattle.certificate_check.proofs.Checked.{IsMet, checked_is_met}
use Rattle.certificate_check.proofs.Separated.{separated, separates_back}
use Rattle.certificate_check.proofs.Universe.{IsStableAnywhere, other_order, within_stable}
use Rattle.certificate_check.specs.Laws.{CheckedIsStable}
use Rattle.ground_clauses.proofs.Hypotheses.{Among}
use Rattle.ground_clauses.proofs.Keeps.{among_from_contains, case_keeps, sets_a, sets_b}
use Rattle.ground_clauses.proofs.Stands.{has_its_case}
use Rattle.ground_clauses.specs.Cases.{case_sets, opposite_truths, target_classes}
use Rattle.ground_clauses.specs.Laws.{IsQuadrupleOf, StandsFor, before_both}
use Rattle.ground_clauses.specs.Numbering.{case_of, naming_of, pattern_of}
use Rattle.ground_clauses.specs.declared.case.Target.TheVariants.{Clause as of_clause, Locked as of_pred}
use Rattle.spec_model.specs.Fits.{InstFits, IsWellFormed, PlanFits}
use Rattle.spec_model.specs.Separated.{Separates}
use Rattle.spec_model.specs.Truths.{Holds, Truths, Within, clause_in, inst_sets, instance_true, is_locked, no_clause, pred_at, size_of, var_sorts}
use Rattle.spec_model.specs.declared.clause.Clause.{Clause}
use Rattle.spec_model.specs.declared.instance.Inst.{Inst}
use Rattle.spec_model.specs.declared.plan.Plan.{Plan}
use Rattle.spec_model.specs.declared.spec.Spec.{Spec}
use Rattle.spec_model.specs.declared.state.Moment.{Moment}
use Rattle.spec_model.specs.declared.state.Moment.TheVariants.{Both}

pub record StandsAt (clauses : List Clause) (c : Clause) : Type 0 where
  pub place : ℕ
  pub within : place < length clauses
  pub is : get_or clauses place no_clause ≡ c

place_of : (clauses : List Clause) (c : Clause) → Among c clauses → StandsAt clauses c
place_of [] c h = absurd h
place_of (d ∷ clauses) c (inl here) = record { place = 0; within = omega arith; is = sym here }
place_of (d ∷ clauses) c (inr there) = let s : StandsAt clauses c = place_of clauses c there in
    let lt : s.place < length clauses = s.within in
    record { place = suc s.place; within = omega arith; is = s.is }

opposite_ones : (v : Bool) (x y : Option Bool) → x ≡ Some v → y ≡ Some (not v) → opposite_truths x y ≡ true
opposite_ones true x y a b = subst (λ z. opposite_truths z y ≡ true) (sym a) (subst (λ z. opposite_truths (Some true) z ≡ true) (sym b) refl)
opposite_ones false x y a b = subst (λ z. opposite_truths z y ≡ true) (sym a) (subst (λ z. opposite_truths (Some false) z ≡ true) (sym b) refl)

-- what is known of two instances that the plan doesn't separate
pub record AreApart (spec : Spec) (plan : Plan) (e o : Inst) : Type 0 where
  pub well_formed : IsWellFormed spec
  pub plan_fits : PlanFits spec plan
  pub met : IsMet spec plan e.op o.op
  pub e_fits : InstFits spec e
  pub o_fits : InstFits spec o
  pub apart : Separates spec plan e o → ⊥

keeps_at : (spec : Spec) (plan : Plan) (e o : Inst) (q : Moment → Truths) (t : ℕ) (xs : List ℕ)
    → AreApart spec plan e o → IsQuadrupleOf spec (inst_sets spec e) (inst_sets spec o) q
    → ((m : Moment) (c : Clause) → before_both m ≡ true → Contains spec.clauses c → Holds spec (q m) c)
    → t < length spec.clauses → Contains spec.clauses (clause_in spec t) → (clause_in spec t).mask ≡ false → Within (size_of spec) (var_sorts (clause_in spec t)) xs
    → instance_true (q Both) xs (clause_in spec t) ≡ true
keeps_at spec plan e o q t xs h quad holds lt known unmasked w =
    let k = has_its_case spec (of_clause t) e o xs h.well_formed h.e_fits h.o_fits w in
    case_keeps spec (case_of spec (of_clause t) e o xs) t (naming_of spec (pattern_of spec (of_clause t) e o xs)) e o xs q h.well_formed refl known k.1
    (λ touched. elim (h.met.clauses t (case_of spec (of_clause t) e o xs) lt unmasked k.0 touched) [
      | inl sep ↦ absurd (h.apart (separated spec plan (case_of spec (of_clause t) e o xs) (naming_of spec (pattern_of spec (of_clause t) e o xs)) e o xs k.1 h.e_fits h.o_fits h.plan_fits sep))
      | inr none ↦ none
    ])
    quad holds

agrees_at : (spec : Spec) (plan : Plan) (e o : Inst) (p : ℕ) (xs : List ℕ) (v : Bool)
    → AreApart spec plan e o → is_locked spec p ≡ true → Within (size_of spec) (pred_at spec p).sorts xs → inst_sets spec e p xs ≡ Some v → inst_sets spec o p xs ≡ Some (not v) → ⊥
agrees_at spec plan e o p xs v h locked w x y =
    let k = has_its_case spec (of_pred p) e o xs h.well_formed h.e_fits h.o_fits w in
    let stands : StandsFor spec (case_of spec (of_pred p) e o xs) (naming_of spec (pattern_of spec (of_pred p) e o xs)) e o xs = k.1 in
    let left : (case_sets spec (case_of spec (of_pred p) e o xs)).one p (target_classes spec (case_of spec (of_pred p) e o xs)) ≡ Some v =
    sets_a spec (case_of spec (of_pred p) e o xs) (naming_of spec (pattern_of spec (of_pred p) e o xs)) e o xs h.well_formed stands p (target_classes spec (case_of spec (of_pred p) e o xs)) ∙ ap (inst_sets spec e p) stands.target ∙ x in
    let right : (case_sets spec (case_of spec (of_pred p) e o xs)).other p (target_classes spec (case_of spec (of_pred p) e o xs)) ≡ Some (not v) =
    sets_b spec (case_of spec (of_pred p) e o xs) (naming_of spec (pattern_of spec (of_pred p) e o xs)) e o xs h.well_formed stands p (target_classes spec (case_of spec (of_pred p) e o xs)) ∙ ap (inst_sets spec o p) stands.target ∙ y in
    h.apart (separated spec plan (case_of spec (of_pred p) e o xs) (naming_of spec (pattern_of spec (of_pred p) e o xs)) e o xs k.1 h.e_fits h.o_fits h.plan_fits
    (h.met.locked p (case_of spec (of_pred p) e o xs) locked k.0
    (opposite_ones v ((case_sets spec (case_of spec (of_pred p) e o xs)).one p (target_classes spec (case_of spec (of_pred p) e o xs))) ((case_sets spec (case_of spec (of_pred p) e o xs)).other p (target_classes spec (case_of spec (of_pred p) e o xs))) left right)))

apart_is_stable : (spec : Spec) (plan : Plan) (e o : Inst) → AreApart spec plan e o → IsStableAnywhere spec e o
apart_is_stable spec plan e o h = record {
  keeps = λ q quad holds c known unmasked xs w.
      let s : StandsAt spec.clauses c = place_of spec.clauses c (among_from_contains spec.clauses c known) in
      let back : c ≡ clause_in spec s.place = sym s.is in
      subst (λ d. instance_true (q Both) xs d ≡ true) s.is
      (keeps_at spec plan e o q s.place xs h quad holds s.within
      (subst (Contains spec.clauses) back known) (subst (λ d. d.mask ≡ false) back unmasked) (subst (λ d. Within (size_of spec) (var_sorts d) xs) back w));
  agrees = λ p xs v locked w x y. agrees_at spec plan e o p xs v h locked w x y;
}

pub checked_is_stable : CheckedIsStable
checked_is_stable spec plan certificate wf fits checks e o fe fo apart = elim (cases_le e.op o.op) [
  | inl le ↦ within_stable spec e o wf (apart_is_stable spec plan e o (record {
    well_formed = wf;
    plan_fits = fits;
    met = checked_is_met spec plan certificate e.op o.op checks le fo.known;
    e_fits = fe;
    o_fits = fo;
    apart = apart;
  }))
  | inr gt ↦ other_order spec o e (within_stable spec o e wf (apart_is_stable spec plan o e (record {
    well_formed = wf;
    plan_fits = fits;
    met = checked_is_met spec plan certificate o.op e.op checks (le_of gt) fe.known;
    e_fits = fo;
    o_fits = fe;
    apart = λ s. apart (separates_back spec plan e o s);
  })))
]
  where
    le_of : {a b : ℕ} → b < a → b ≤ a
    le_of h = omega arith

    cases_le : (a b : ℕ) → (a ≤ b) ⊎ (b < a)
    cases_le a b = elim (cases_lt b a) [ inl lt ↦ inr lt | inr ge ↦ inl ge ]
