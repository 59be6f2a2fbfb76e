-- A certificate that checks meets each touched case.
use Rattle.std.proofs.Common.{◌≡◌, ◌⊎◌, inl, inr, ℕ, zero, suc, ◌+◌, ◌-◌, ◌<◌, ◌≤◌, Bool, true, false, cond, not, List, [], ◌∷◌, map, length, get_or, refl, sym, ap, subst, arith}
use Rattle.std.specs.Prelude.{Contains, Some, None, Option, is_some}
use Rattle.std.specs.List.{AllByRecursion, AllZip, flat_map}
use Rattle.std.proofs.lemmas.Bool.{or_left, or_right, true≢false, and_parts}
use Rattle.certificate_check.specs.Checks.{Checks, is_at, line_fits, lock_of, part_of, target_refuted}
use Rattle.certificate_check.specs.Separation.{is_separated}
use Rattle.certificate_check.specs.declared.certificate.CertLine.{CertLine}
use Rattle.certificate_check.specs.declared.certificate.CertLine.TheVariants.{Refuted, SepLock, SepPart}
use Rattle.certificate_check.specs.declared.certificate.Certificate.{Certificate}
use Rattle.ground_clauses.proofs.Derives.{no_model}
use Rattle.ground_clauses.proofs.Hypotheses.{Among, among_append_left, among_append_right, among_each, among_filter, among_flat_map, among_upto}
use Rattle.ground_clauses.proofs.Keeps.{among_from_contains}
use Rattle.ground_clauses.proofs.Lists.{each_flat_map, each_map}
use Rattle.ground_clauses.specs.Cases.{bit_lists, case_at, class_cases, class_count, class_lists, clause_targets, interval_classes, is_touched, is_touched_case, opposes, pair_cases, pattern_sorts, pred_targets, query_of, target_cases, targets, touched_by, touched_cases, upto_from}
use Rattle.ground_clauses.specs.Derivations.{HasNoModel}
use Rattle.ground_clauses.specs.declared.case.Case.{Case}
use Rattle.ground_clauses.specs.declared.case.Target.{Target}
use Rattle.ground_clauses.specs.declared.case.Target.TheVariants.{Clause as of_clause, Locked as of_pred}
use Rattle.ground_clauses.specs.declared.clauses.Step.{Step}
use Rattle.spec_model.specs.Truths.{clause_in, is_locked, no_clause, no_pred, op_at, rule_locks, size_of}
use Rattle.spec_model.specs.declared.clause.Clause.{Clause}
use Rattle.spec_model.specs.declared.plan.Plan.{Plan}
use Rattle.spec_model.specs.declared.spec.Pred.{Pred}
use Rattle.spec_model.specs.declared.spec.Spec.{Spec}

-- every touched case of a pair is separated or, for a clause, its query has no model
pub record IsMet (spec : Spec) (plan : Plan) (a b : ℕ) : Type 0 where
  pub clauses : (t : ℕ) (k : Case) → t < length spec.clauses → (clause_in spec t).mask ≡ false → Contains (target_cases spec a b (of_clause t)) k → is_touched spec k t ≡ true
      → (is_separated spec plan k ≡ true) ⊎ HasNoModel (query_of spec k t)
  pub locked : (p : ℕ) (k : Case) → is_locked spec p ≡ true → Contains (target_cases spec a b (of_pred p)) k → opposes spec k p ≡ true → is_separated spec plan k ≡ true

each_always : {X : Type 0} (P : X → Type 0) (xs : List X) → ((x : X) → P x) → AllByRecursion P xs
each_always P [] f = tt
each_always P (x ∷ xs) f = (f x, each_always P xs f)

each_target : (spec : Spec) (a b : ℕ) (t : Target) → AllByRecursion (λ k. k.target ≡ t) (target_cases spec a b t)
each_target spec a b t =
    each_flat_map (λ k. k.target ≡ t) (class_cases spec a b t) (class_lists (size_of spec) (λ z. 0) (pattern_sorts spec a b t))
    (each_always (λ cs. AllByRecursion (λ k. k.target ≡ t) (class_cases spec a b t cs)) (class_lists (size_of spec) (λ z. 0) (pattern_sorts spec a b t))
    (λ cs. each_flat_map (λ k. k.target ≡ t) (λ ba. map (λ bb. case_at a b t cs ba bb) (bit_lists (interval_classes (class_count (pattern_sorts spec a b t) cs) (op_at spec b).params)))
    (bit_lists (interval_classes (class_count (pattern_sorts spec a b t) cs) (op_at spec a).params))
    (each_always (λ ba. AllByRecursion (λ k. k.target ≡ t) (map (λ bb. case_at a b t cs ba bb) (bit_lists (interval_classes (class_count (pattern_sorts spec a b t) cs) (op_at spec b).params))))
    (bit_lists (interval_classes (class_count (pattern_sorts spec a b t) cs) (op_at spec a).params))
    (λ ba. each_map (λ k. k.target ≡ t) (λ bb. case_at a b t cs ba bb) (bit_lists (interval_classes (class_count (pattern_sorts spec a b t) cs) (op_at spec b).params))
    (each_always (λ bb. (case_at a b t cs ba bb).target ≡ t) (bit_lists (interval_classes (class_count (pattern_sorts spec a b t) cs) (op_at spec b).params)) (λ bb. refl))))))

clause_among : (clauses : List Clause) (i t j : ℕ) → j ≡ i + t → t < length clauses → (get_or clauses t no_clause).mask ≡ false → Among (of_clause j) (clause_targets i clauses)
clause_among [] i t j e lt h = absurd (omega arith)
clause_among (c ∷ clauses) i zero j e lt h = subst (λ b. Among (of_clause j) (cond b (clause_targets (suc i) clauses) (of_clause i ∷ clause_targets (suc i) clauses))) (sym h) (inl (ap of_clause (let z : j ≡ i = omega arith in z)))
clause_among (c ∷ clauses) i (suc t) j e lt h = by_mask (c.mask) (clause_among clauses (suc i) t j (omega arith) (omega arith) h)
  where
    by_mask : (b : Bool) → Among (of_clause j) (clause_targets (suc i) clauses) → Among (of_clause j) (cond b (clause_targets (suc i) clauses) (of_clause i ∷ clause_targets (suc i) clauses))
    by_mask true g = g
    by_mask false g = inr g

pred_among : (preds : List Pred) (i p j : ℕ) → j ≡ i + p → rule_locks (get_or preds p no_pred).rule ≡ true → Among (of_pred j) (pred_targets i preds)
pred_among [] i p j e h = absurd (true≢false (sym h))
pred_among (r ∷ preds) i zero j e h = subst (λ b. Among (of_pred j) (cond b (of_pred i ∷ pred_targets (suc i) preds) (pred_targets (suc i) preds))) (sym h) (inl (ap of_pred (let z : j ≡ i = omega arith in z)))
pred_among (r ∷ preds) i (suc p) j e h = by_lock (rule_locks r.rule) (pred_among preds (suc i) p j (omega arith) h)
  where
    by_lock : (b : Bool) → Among (of_pred j) (pred_targets (suc i) preds) → Among (of_pred j) (cond b (of_pred i ∷ pred_targets (suc i) preds) (pred_targets (suc i) preds))
    by_lock true g = inr g
    by_lock false g = g

among_touched : (spec : Spec) (a b : ℕ) (t : Target) (k : Case) → a ≤ b → b < length spec.ops → Among t (targets spec) → Among k (target_cases spec a b t) → touched_by spec k t ≡ true → Among k (touched_cases spec)
among_touched spec a b t k le lt known is touched =
    among_flat_map (λ x. flat_map (pair_cases spec x) (upto_from x (length spec.ops - x))) a k (upto_from 0 (length spec.ops)) (among_upto a 0 (length spec.ops) (omega arith) (omega arith))
    (among_flat_map (pair_cases spec a) b k (upto_from a (length spec.ops - a)) (among_upto b a (length spec.ops - a) le (omega arith))
    (among_filter (is_touched_case spec) k (flat_map (target_cases spec a b) (targets spec))
    (subst (λ x. touched_by spec k x ≡ true) (sym (among_each (λ c. c.target ≡ t) k (target_cases spec a b t) (each_target spec a b t) is)) touched)
    (among_flat_map (target_cases spec a b) t k (targets spec) known is)))

pub record HasLine (spec : Spec) (plan : Plan) (k : Case) : Type 0 where
  pub line : CertLine
  pub fits : line_fits spec plan k line ≡ true

line_of : (spec : Spec) (plan : Plan) (k : Case) (ks : List Case) (lines : List CertLine) → AllZip (λ c l. line_fits spec plan c l ≡ true) ks lines → Among k ks → HasLine spec plan k
line_of spec plan k [] lines h is = absurd is
line_of spec plan k (c ∷ ks) [] h is = absurd h
line_of spec plan k (c ∷ ks) (l ∷ lines) h (inl here) = record { line = l; fits = subst (λ x. line_fits spec plan x l ≡ true) (sym here) h.0 }
line_of spec plan k (c ∷ ks) (l ∷ lines) h (inr there) = line_of spec plan k ks lines h.1 there

at_some : (o : Option ℕ) (i : ℕ) → is_at o i ≡ true → is_some o ≡ true
at_some None i h = h
at_some (Some n) i h = refl

-- separated, or refuted
line_says : (spec : Spec) (plan : Plan) (k : Case) (l : CertLine) → line_fits spec plan k l ≡ true → (is_separated spec plan k ≡ true) ⊎ ((steps : List Step) × (target_refuted spec k k.target steps ≡ true))
line_says spec plan k (SepLock i) h = inl (or_left (is_some (lock_of spec plan k)) (is_some (part_of spec plan k)) (at_some (lock_of spec plan k) i h))
line_says spec plan k (SepPart i) h =
    inl (or_right (is_some (lock_of spec plan k)) (is_some (part_of spec plan k)) (at_some (part_of spec plan k) i (and_parts (not (is_some (lock_of spec plan k))) (is_at (part_of spec plan k) i) h).1))
line_says spec plan k (Refuted d) h =
    inr (d.steps, (and_parts (not (is_separated spec plan k)) (target_refuted spec k k.target d.steps) h).1)

pub checked_is_met : (spec : Spec) (plan : Plan) (certificate : Certificate) (a b : ℕ) → Checks spec plan certificate → a ≤ b → b < length spec.ops → IsMet spec plan a b
checked_is_met spec plan certificate a b checks le lt = record {
  clauses = λ t k small unmasked known touched.
      let is : Among k (target_cases spec a b (of_clause t)) = among_from_contains (target_cases spec a b (of_clause t)) k known in
      let target : k.target ≡ of_clause t = among_each (λ c. c.target ≡ of_clause t) k (target_cases spec a b (of_clause t)) (each_target spec a b (of_clause t)) is in
      let l : HasLine spec plan k = line_of spec plan k (touched_cases spec) certificate.lines checks
      (among_touched spec a b (of_clause t) k le lt (among_append_left (of_clause t) (clause_targets 0 spec.clauses) (pred_targets 0 spec.preds) (clause_among spec.clauses 0 t t (omega arith) small unmasked)) is touched) in
      elim (line_says spec plan k l.line l.fits) [
        | inl sep ↦ inl sep
        | inr steps ↦ inr (no_model (query_of spec k t) steps.0 (subst (λ x. target_refuted spec k x steps.0 ≡ true) target steps.1))
      ];
  locked = λ p k lock known opposing.
      let is : Among k (target_cases spec a b (of_pred p)) = among_from_contains (target_cases spec a b (of_pred p)) k known in
      let target : k.target ≡ of_pred p = among_each (λ c. c.target ≡ of_pred p) k (target_cases spec a b (of_pred p)) (each_target spec a b (of_pred p)) is in
      let l : HasLine spec plan k = line_of spec plan k (touched_cases spec) certificate.lines checks
      (among_touched spec a b (of_pred p) k le lt (among_append_right (of_pred p) (clause_targets 0 spec.clauses) (pred_targets 0 spec.preds) (pred_among spec.preds 0 p p (omega arith) lock)) is opposing) in
      elim (line_says spec plan k l.line l.fits) [
        | inl sep ↦ sep
        | inr steps ↦ absurd (true≢false (sym (subst (λ x. target_refuted spec k x steps.0 ≡ true) target steps.1)))
      ];
}
