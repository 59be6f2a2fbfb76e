-- Adding all pairs, one after the other.
use Rattle.std.proofs.Common.{◌≡◌, inl, inr, true, ℕ, zero, suc, ◌+◌, ◌<◌, ◌≤◌, List, [], ◌∷◌, ◌++◌, length, length-append, get_or, take, drop, refl, sym, ap, subst, ◌∙◌, arith}
use Rattle.std.specs.Prelude.{None, Result, Ok, Err, IfOk}
use Rattle.std.specs.List.{AllByRecursion, AllZip, find, flat_map}
use Rattle.std.proofs.Math.Seq.{split_at, take-length, take-suc}
use Rattle.std.proofs.lemmas.Grind.{flat_map-append}
use Rattle.std.proofs.lemmas.List.{length-take-le}
use Rattle.std.proofs.lemmas.Slice.Zip.{AllZip-long}
use Rattle.certificate_check.proofs.Unseparated.{checked_is_stable}
use Rattle.certificate_check.specs.Checks.{AreShort, Checks, FewSteps, line_fits}
use Rattle.certificate_check.specs.declared.certificate.CertLine.{CertLine}
use Rattle.ground_clauses.proofs.Hypotheses.{Among, among_each}
use Rattle.ground_clauses.specs.Cases.{pair_cases, touched_cases}
use Rattle.ground_clauses.specs.Counting.{case_count}
use Rattle.reservation_plan.proofs.Coming.{refuses_within}
use Rattle.reservation_plan.proofs.Enumerated.{few_touched}
use Rattle.reservation_plan.proofs.Lined.{IsOne, drafts_more, locks_one, parts_one}
use Rattle.reservation_plan.proofs.Made.{plan_made}
use Rattle.reservation_plan.proofs.Paired.{IsPair, all_cases, few_pairs, pairs_known}
use Rattle.reservation_plan.specs.Conflicts.{conflicts}
use Rattle.reservation_plan.specs.Derived.{derived_plan, locks_at, pairs_of, parts_at}
use Rattle.reservation_plan.specs.Drafting.{AddsPair, Drafts, cases_at}
use Rattle.reservation_plan.specs.Ends.{Refuses, ends}
use Rattle.reservation_plan.specs.declared.analysed.Analysed.{Analysed}
use Rattle.reservation_plan.specs.declared.analysed.DeriveError.{DeriveError}
use Rattle.reservation_plan.specs.declared.drafting.Draft.{Draft}
use Rattle.spec_model.specs.Fits.{InstFits, IsWellFormed, PlanFits, marked_from}
use Rattle.spec_model.specs.Separated.{Separates}
use Rattle.spec_model.specs.Stable.{IsStable}
use Rattle.spec_model.specs.declared.instance.Inst.{Inst}
use Rattle.spec_model.specs.declared.plan.LockKind.{LockKind}
use Rattle.spec_model.specs.declared.plan.Pair.{Pair}
use Rattle.spec_model.specs.declared.plan.Plan.{Plan}
use Rattle.spec_model.specs.declared.spec.Spec.{Spec}

one_short : (xs : List LockKind) → IsOne xs → length xs ≤ 1
one_short [] h = omega arith
one_short (x ∷ xs) h = let e : length xs ≡ 0 = ap length h in omega (arith, e)

flat_short : (of : Pair → List LockKind) (ps : List Pair) → ((q : Pair) → IsOne (of q)) → length (flat_map of ps) ≤ length ps
flat_short of [] one = omega arith
flat_short of (p ∷ ps) one =
    let e : length (of p ++ flat_map of ps) ≡ length (of p) + length (flat_map of ps) = length-append (of p) (flat_map of ps) in
    let a : length (of p) ≤ 1 = one_short (of p) (one p) in
    let b : length (flat_map of ps) ≤ length ps = flat_short of ps one in
    omega (arith, e, a, b)

-- a reservation for each pair of operations at most
locks_few : (spec : Spec) → IsWellFormed spec → length (derived_plan spec).locks ≤ 4096
locks_few spec wf =
    let l : length (flat_map (locks_at spec) (pairs_of spec)) ≤ length (pairs_of spec) = flat_short (locks_at spec) (pairs_of spec) (λ q. locks_one spec q.a q.b (conflicts spec q.a q.b)) in
    omega (arith, l, few_pairs spec wf.few_ops)

parts_few : (spec : Spec) → IsWellFormed spec → length (derived_plan spec).parts ≤ 4096
parts_few spec wf =
    let p : length (flat_map (parts_at spec) (pairs_of spec)) ≤ length (pairs_of spec) = flat_short (parts_at spec) (pairs_of spec) (λ q. parts_one spec q.a q.b (conflicts spec q.a q.b)) in
    omega (arith, p, few_pairs spec wf.few_ops)

-- what adding a pair asks
pub record IsNext (spec : Spec) (p : Pair) (d : Draft) : Type 0 where
  pub known_a : p.a < length spec.ops
  pub known_b : p.b < length spec.ops
  pub few_locks : length d.locks ≤ 4096
  pub few_parts : length d.parts ≤ 4096

among_at : {X : Type 0} (xs : List X) (i : ℕ) (d : X) → i < length xs → Among (get_or xs i d) xs
among_at [] i d lt = absurd (omega arith)
among_at (x ∷ xs) zero d lt = inl refl
among_at (x ∷ xs) (suc i) d lt = inr (among_at xs i d (omega arith))

pub next_pair : (spec : Spec) (pairs : List Pair) (i : ℕ) (e : Pair) (d : Draft) → IsWellFormed spec → pairs ≡ pairs_of spec → i < length pairs → Drafts spec (take i pairs) d → IsNext spec (get_or pairs i e) d
next_pair spec pairs i e d wf is lt h =
    let k : IsPair spec (get_or pairs i e) = among_each (IsPair spec) (get_or pairs i e) pairs (subst (AllByRecursion (IsPair spec)) (sym is) (pairs_known spec)) (among_at pairs i e lt) in
    let few : length pairs ≤ 4096 = subst (λ ps. length ps ≤ 4096) (sym is) (few_pairs spec wf.few_ops) in
    let t : length (take i pairs) ≡ i = length-take-le i pairs (omega (arith, lt)) in
    let l : length (flat_map (locks_at spec) (take i pairs)) ≤ length (take i pairs) = flat_short (locks_at spec) (take i pairs) (λ q. locks_one spec q.a q.b (conflicts spec q.a q.b)) in
    let p : length (flat_map (parts_at spec) (take i pairs)) ≤ length (take i pairs) = flat_short (parts_at spec) (take i pairs) (λ q. parts_one spec q.a q.b (conflicts spec q.a q.b)) in
    record {
      known_a = omega (arith, k.ordered, k.known);
      known_b = k.known;
      few_locks = subst (λ ls. length ls ≤ 4096) (sym h.locks) (omega (arith, l, t, lt, few));
      few_parts = subst (λ ls. length ls ≤ 4096) (sym h.parts) (omega (arith, p, t, lt, few));
    }

whole_at : (spec : Spec) (pairs : List Pair) (i : ℕ) (e : Pair) → pairs ≡ pairs_of spec → i < length pairs → pairs_of spec ≡ take i pairs ++ get_or pairs i e ∷ drop (suc i) pairs
whole_at spec pairs i e is lt = sym is ∙ split_at pairs i e lt

pub next_drafts : (spec : Spec) (pairs : List Pair) (i : ℕ) (e : Pair) (old new : Draft) → pairs ≡ pairs_of spec → i < length pairs → Drafts spec (take i pairs) old → AddsPair spec (get_or pairs i e) old new → Drafts spec (take (i + 1) pairs) new
next_drafts spec pairs i e old new is lt h adds =
    subst (λ ps. Drafts spec ps new) (sym (take-suc pairs i e lt) ∙ ap (λ n. take n pairs) (let z : suc i ≡ i + 1 = omega arith in z))
    (drafts_more spec (take i pairs) (get_or pairs i e) (drop (suc i) pairs) old new (whole_at spec pairs i e is lt) h adds)

pub next_refused : (spec : Spec) (pairs : List Pair) (i : ℕ) (e : Pair) (d : Draft) (error : DeriveError) → pairs ≡ pairs_of spec → i < length pairs → Drafts spec (take i pairs) d
    → Refuses spec (pair_cases spec (get_or pairs i e).a (get_or pairs i e).b) error → Refuses spec (touched_cases spec) error
next_refused spec pairs i e d error is lt h r =
    subst (λ ks. Refuses spec ks error)
    (sym (flat_map-append (cases_at spec) (take i pairs) (get_or pairs i e ∷ drop (suc i) pairs)) ∙ ap (flat_map (cases_at spec)) (sym (whole_at spec pairs i e is lt)) ∙ all_cases spec)
    (refuses_within spec (flat_map (cases_at spec) (take i pairs)) (cases_at spec (get_or pairs i e)) (flat_map (cases_at spec) (drop (suc i) pairs)) error h.goes r)

pub first_drafts : (spec : Spec) (pairs : List Pair) (d : Draft) → d.locks ≡ [] → d.parts ≡ [] → d.lines ≡ [] → Drafts spec (take 0 pairs) d
first_drafts spec pairs d locks parts lines = subst (λ ps. Drafts spec ps d) (none_taken pairs) (begins d locks parts lines)
  where
    none_taken : (ps : List Pair) → [] ≡ take 0 ps
    none_taken [] = refl
    none_taken (p ∷ ps) = refl

    begins : (d : Draft) → d.locks ≡ [] → d.parts ≡ [] → d.lines ≡ [] → Drafts spec [] d
    begins d locks parts lines = record {
      goes = refl;
      locks = locks;
      parts = parts;
      lines = subst (λ ls. AllZip (λ k l. line_fits spec (derived_plan spec) k l ≡ true) [] ls) (sym lines) tt;
      short = subst (AllByRecursion FewSteps) (sym lines) tt;
    }

pub all_drafts : (spec : Spec) (pairs : List Pair) (i : ℕ) (d : Draft) → pairs ≡ pairs_of spec → i ≡ length pairs → Drafts spec (take i pairs) d → Drafts spec (pairs_of spec) d
all_drafts spec pairs i d is end h = subst (λ ps. Drafts spec ps d) (ap (λ n. take n pairs) end ∙ take-length pairs ∙ is) h

-- ---- the end

pub drafts_check : (spec : Spec) (d : Draft) (locks parts : List LockKind) (masks : List ℕ) (lines : List CertLine) → d.locks ≡ locks → d.parts ≡ parts → d.lines ≡ lines → masks ≡ marked_from 0 spec.clauses
    → Drafts spec (pairs_of spec) d → Checks spec (record { locks = locks; masks = masks; parts = parts }) (record { lines = lines })
drafts_check spec d locks parts masks lines locks_is parts_is lines_is masks_is h =
    subst (λ ls. AllZip (λ k l. line_fits spec (record { locks = locks; masks = masks; parts = parts }) k l ≡ true) (touched_cases spec) ls) lines_is
    (subst (λ ks. AllZip (λ k l. line_fits spec (record { locks = locks; masks = masks; parts = parts }) k l ≡ true) ks d.lines) (all_cases spec)
    (subst (λ (plan : Plan). AllZip (λ k l. line_fits spec plan k l ≡ true) (flat_map (cases_at spec) (pairs_of spec)) d.lines) (plan_is (sym h.locks ∙ locks_is) (sym masks_is) (sym h.parts ∙ parts_is)) h.lines))
  where
    plan_is : flat_map (locks_at spec) (pairs_of spec) ≡ locks → marked_from 0 spec.clauses ≡ masks → flat_map (parts_at spec) (pairs_of spec) ≡ parts → derived_plan spec ≡ record { locks = locks; masks = masks; parts = parts }
    plan_is x y z = cc

-- a line for each touched case, and these are few
pub drafts_short : (spec : Spec) (d : Draft) (lines : List CertLine) → IsWellFormed spec → case_count spec ≤ 100000 → d.lines ≡ lines → Drafts spec (pairs_of spec) d → AreShort lines
drafts_short spec d lines wf few is h =
    let zip : length d.lines ≡ length (flat_map (cases_at spec) (pairs_of spec)) = AllZip-long (λ k l. line_fits spec (derived_plan spec) k l ≡ true) (flat_map (cases_at spec) (pairs_of spec)) d.lines h.lines in
    let cases : length (flat_map (cases_at spec) (pairs_of spec)) ≡ length (touched_cases spec) = ap length (all_cases spec) in
    let counted : length (touched_cases spec) ≤ case_count spec = few_touched spec wf in
    subst AreShort is (record { few_lines = omega (arith, zip, cases, counted, few); few_steps = h.short })

pub drafts_go : (spec : Spec) (d : Draft) → Drafts spec (pairs_of spec) d → find (ends spec) (touched_cases spec) ≡ None
drafts_go spec d h = ap (find (ends spec)) (sym (all_cases spec)) ∙ h.goes

pub answer_fits : (spec : Spec) (r : Result Analysed DeriveError) → IfOk r (λ x. x.plan ≡ derived_plan spec) → IfOk r (λ x. PlanFits spec x.plan)
answer_fits spec (Ok x) h = subst (PlanFits spec) (sym h) (plan_made spec)
answer_fits spec (Err e) h = tt

pub answer_stable : (spec : Spec) (r : Result Analysed DeriveError) → IsWellFormed spec → IfOk r (λ x. x.plan ≡ derived_plan spec) → IfOk r (λ x. Checks spec x.plan x.certificate)
    → IfOk r (λ x. (e o : Inst) → InstFits spec e → InstFits spec o → (Separates spec x.plan e o → ⊥) → IsStable spec e o)
answer_stable spec (Ok x) wf h k = checked_is_stable spec x.plan x.certificate wf (subst (PlanFits spec) (sym h) (plan_made spec)) k
answer_stable spec (Err e) wf h k = tt

pub answer_few_locks : (spec : Spec) (r : Result Analysed DeriveError) → IsWellFormed spec → IfOk r (λ x. x.plan ≡ derived_plan spec) → IfOk r (λ x. length x.plan.locks ≤ 4096)
answer_few_locks spec (Ok x) wf h = subst (λ (plan : Plan). length plan.locks ≤ 4096) (sym h) (locks_few spec wf)
answer_few_locks spec (Err e) wf h = tt

pub answer_few_parts : (spec : Spec) (r : Result Analysed DeriveError) → IsWellFormed spec → IfOk r (λ x. x.plan ≡ derived_plan spec) → IfOk r (λ x. length x.plan.parts ≤ 4096)
answer_few_parts spec (Ok x) wf h = subst (λ (plan : Plan). length plan.parts ≤ 4096) (sym h) (parts_few spec wf)
answer_few_parts spec (Err e) wf h = tt
