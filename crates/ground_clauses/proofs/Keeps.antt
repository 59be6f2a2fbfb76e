-- A case keeps its target for all that it stands for.
use Rattle.std.proofs.Common.{◌≡◌, inl, inr, ℕ, zero, suc, true, ◌&&◌, not, List, [], ◌∷◌, get_or, refl, sym, ap, subst, ◌∙◌}
use Rattle.std.specs.Prelude.{Contains}
use Rattle.std.specs.List.{AllByRecursion}
use Rattle.std.proofs.lemmas.Bool.{cases_Bool, and_from}
use Rattle.std.proofs.lemmas.List.Elements.{All-contains, All-from_recursion, recursion_from_All, All-contains_itself}
use Rattle.ground_clauses.proofs.Hypotheses.{Among, IsInstance, among_each, each_among, each_hypothesis, target_among}
use Rattle.ground_clauses.proofs.Lists.{each_weaker}
use Rattle.ground_clauses.proofs.Named.{instance_named, lines_named, names_within, renamed, renamed_row}
use Rattle.ground_clauses.proofs.Refuted.{TrueBefore, refuted_holds}
use Rattle.ground_clauses.proofs.Untouched.{equalities_hold, one_leaves, other_leaves}
use Rattle.ground_clauses.specs.Cases.{case_sets, classes_in, equalities_true, hypotheses, reaches_a, reaches_b, reaches_have, target_classes, target_of, touches}
use Rattle.ground_clauses.specs.Laws.{CaseKeeps, IsQuadrupleOf, StandsFor, before_both, names}
use Rattle.ground_clauses.specs.Query.{Hypothesis}
use Rattle.ground_clauses.specs.declared.case.Case.{Case}
use Rattle.spec_model.specs.Fits.{ClauseFits, IsWellFormed, LineFits, OpFits}
use Rattle.spec_model.specs.Truths.{Within, clause_in, inst_has, inst_sets, instance_true, lines_set, no_op, op_at, pred_at, size_of, var_sorts}
use Rattle.spec_model.specs.declared.clause.Clause.{Clause}
use Rattle.spec_model.specs.declared.instance.Inst.{Inst}
use Rattle.spec_model.specs.declared.operation.Op.{Op}
use Rattle.spec_model.specs.declared.spec.Spec.{Spec}
use Rattle.spec_model.specs.declared.state.Moment.{Moment}
use Rattle.spec_model.specs.declared.state.Moment.TheVariants.{Both, First, Second}

pub among_from_contains : {X : Type 0} (xs : List X) (x : X) → Contains xs x → Among x xs
among_from_contains xs x h = All-contains (λ y. Among y xs) xs x (All-from_recursion (λ y. Among y xs) xs (each_among xs xs (λ y k. k))) h

pub contains_from_among : {X : Type 0} (xs : List X) (x : X) → Among x xs → Contains xs x
contains_from_among xs x h = among_each (Contains xs) x xs (recursion_from_All (Contains xs) xs (All-contains_itself xs)) h

op_fits : (spec : Spec) (ops : List Op) (i : ℕ) → AllByRecursion (OpFits spec) ops → AllByRecursion (LineFits spec (get_or ops i no_op).params) (get_or ops i no_op).lines
op_fits spec [] i h = tt
op_fits spec (o ∷ ops) zero h = h.0.lines_fit
op_fits spec (o ∷ ops) (suc i) h = op_fits spec ops i h.1

pub sets_a : (spec : Spec) (k : Case) (n : ℕ → ℕ → ℕ) (e o : Inst) (xs : List ℕ) → IsWellFormed spec → StandsFor spec k n e o xs → (p : ℕ) (cs : List ℕ) → (case_sets spec k).one p cs ≡ inst_sets spec e p (names n (pred_at spec p).sorts cs)
sets_a spec k n e o xs wf stands p cs =
    lines_named spec n (op_at spec k.a).params (reaches_have (reaches_a spec k)) (inst_has e) (op_at spec k.a).lines p cs stands.args_a (op_fits spec spec.ops k.a wf.ops)
    ∙ ap (λ i. lines_set (inst_has e) (op_at spec i).lines p (names n (pred_at spec p).sorts cs)) (sym stands.op_a)

pub sets_b : (spec : Spec) (k : Case) (n : ℕ → ℕ → ℕ) (e o : Inst) (xs : List ℕ) → IsWellFormed spec → StandsFor spec k n e o xs → (p : ℕ) (cs : List ℕ) → (case_sets spec k).other p cs ≡ inst_sets spec o p (names n (pred_at spec p).sorts cs)
sets_b spec k n e o xs wf stands p cs =
    lines_named spec n (op_at spec k.b).params (reaches_have (reaches_b spec k)) (inst_has o) (op_at spec k.b).lines p cs stands.args_b (op_fits spec spec.ops k.b wf.ops)
    ∙ ap (λ i. lines_set (inst_has o) (op_at spec i).lines p (names n (pred_at spec p).sorts cs)) (sym stands.op_b)

pub case_keeps : CaseKeeps
case_keeps spec k t n e o xs q wf sorts known stands refuted row holds =
    let inside : Within (classes_in spec k) (var_sorts (clause_in spec t)) (target_classes spec k) = subst (λ ss. Within (classes_in spec k) ss (target_classes spec k)) sorts stands.within in
    let aims : names n (var_sorts (clause_in spec t)) (target_classes spec k) ≡ xs = subst (λ ss. names n ss (target_classes spec k) ≡ xs) sorts stands.target in
    let is : Among (clause_in spec t) spec.clauses = among_from_contains spec.clauses (clause_in spec t) known in
    let quad : IsQuadrupleOf spec (case_sets spec k).one (case_sets spec k).other (renamed spec n q) =
    renamed_row spec n (case_sets spec k) (inst_sets spec e) (inst_sets spec o) q (sets_a spec k n e o xs wf stands) (sets_b spec k n e o xs wf stands) row in
    let named : (m : Moment) (c : Clause) (cs : List ℕ) → Among c spec.clauses → Within (classes_in spec k) (var_sorts c) cs → instance_true (renamed spec n q m) cs c ≡ instance_true (q m) (names n (var_sorts c) cs) c =
    λ m c cs c_is w. instance_named spec n (classes_in spec k) q m c cs stands.apart w (among_each (ClauseFits spec) c spec.clauses wf.clauses c_is) in
    let earlier : (h : Hypothesis) → IsInstance spec (classes_in spec k) h → TrueBefore (renamed spec n q) h =
    λ h i m b. named m h.clause h.classes i.clause_is i.within
    ∙ holds m h.clause b (contains_from_among spec.clauses h.clause i.clause_is) (names n (var_sorts h.clause) h.classes) (names_within n (classes_in spec k) (size_of spec) (var_sorts h.clause) h.classes stands.fits i.within) in
    let target_before : (m : Moment) → before_both m ≡ true → instance_true (renamed spec n q m) (target_classes spec k) (clause_in spec t) ≡ true =
    earlier (target_of spec k t) (record { clause_is = is; within = inside }) in
    let after : instance_true (renamed spec n q Both) (target_classes spec k) (clause_in spec t) ≡ true =
    elim (cases_Bool (touches (case_sets spec k).one (target_of spec k t))) [
      | inr none ↦ one_leaves spec (case_sets spec k) (renamed spec n q) (target_of spec k t) quad none ∙ target_before Second refl
      | inl t1 ↦ elim (cases_Bool (touches (case_sets spec k).other (target_of spec k t))) [
        | inr none ↦ other_leaves spec (case_sets spec k) (renamed spec n q) (target_of spec k t) quad none ∙ target_before First refl
        | inl t2 ↦ elim (cases_Bool (equalities_true (target_of spec k t))) [
          | inl eqs ↦ equalities_hold (renamed spec n q Both) (target_of spec k t) eqs
          | inr unequal ↦ refuted_holds spec (case_sets spec k) (target_of spec k t) (hypotheses spec (classes_in spec k) (target_of spec k t)) (renamed spec n q) quad
              (contains_from_among (hypotheses spec (classes_in spec k) (target_of spec k t)) (target_of spec k t)
              (target_among spec (classes_in spec k) (target_of spec k t) (case_sets spec k).one is inside t1 unequal))
              (each_weaker (IsInstance spec (classes_in spec k)) (TrueBefore (renamed spec n q)) (hypotheses spec (classes_in spec k) (target_of spec k t)) earlier (each_hypothesis spec (classes_in spec k) (target_of spec k t)))
              (refuted (and_from (touches (case_sets spec k).one (target_of spec k t) && touches (case_sets spec k).other (target_of spec k t)) (not (equalities_true (target_of spec k t)))
              (and_from (touches (case_sets spec k).one (target_of spec k t)) (touches (case_sets spec k).other (target_of spec k t)) t1 t2) (ap not unequal)))
        ]
      ]
    ] in
    subst (λ ys. instance_true (q Both) ys (clause_in spec t) ≡ true) aims
    (sym (named Both (clause_in spec t) (target_classes spec k) is inside) ∙ after)
