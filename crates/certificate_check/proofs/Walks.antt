-- Walks put together.
use Rattle.std.proofs.Common.{◌≡◌, inl, inr, ℕ, suc, ◌+◌, ◌-◌, ◌<◌, ◌≤◌, cond, List, [], ◌∷◌, ◌++◌, length, get_or, drop, refl, sym, ap, subst, append_assoc, append-nil, ◌∙◌, arith}
use Rattle.certificate_check.specs.declared.judge.Walk.TheVariants.{Fails, Goes}
use Rattle.std.specs.Prelude.{Some, None}
use Rattle.std.specs.List.{flat_map}
use Rattle.std.proofs.lemmas.Bool.{eq-eqb, ne_eqb, cases_lt}
use Rattle.certificate_check.specs.Checks.{flaw, verdict_at, verdict_from, verdict_of}
use Rattle.certificate_check.specs.Walks.{Walks, cases_from, end_verdict, row_cases, walk_verdict}
use Rattle.certificate_check.specs.declared.certificate.CertLine.{CertLine}
use Rattle.certificate_check.specs.declared.certificate.CertLine.TheVariants.{SepLock}
use Rattle.certificate_check.specs.declared.certificate.Certificate.{Certificate}
use Rattle.certificate_check.specs.declared.judge.Walk.{Walk}
use Rattle.certificate_check.specs.declared.verdict.Verdict.TheVariants.{No, Yes}
use Rattle.certificate_check.specs.declared.verdict.Why.{Why}
use Rattle.certificate_check.specs.declared.verdict.Why.TheVariants.{Extra, Missing}
use Rattle.ground_clauses.proofs.Reaches.{next_item, none_left}
use Rattle.ground_clauses.specs.Cases.{pair_cases, touched_cases, upto_from}
use Rattle.ground_clauses.specs.declared.case.Case.{Case}
use Rattle.spec_model.specs.declared.plan.Plan.{Plan}
use Rattle.spec_model.specs.declared.spec.Spec.{Spec}

-- ---- one case

pub one_missing : (spec : Spec) (plan : Plan) (lines : List CertLine) (k : Case) (at : ℕ) → at ≡ length lines → Walks spec plan lines at (k ∷ []) (Fails at Missing)
one_missing spec plan lines k at e = record {
  leads = λ rest. ap (verdict_from spec plan at (k ∷ rest)) (none_left lines at (omega (arith, e)));
  within = tt;
}

one_line : (spec : Spec) (plan : Plan) (lines : List CertLine) (k : Case) (at : ℕ) (d : CertLine) (rest : List Case) → at < length lines
    → verdict_from spec plan at (k ∷ rest) (drop at lines) ≡ verdict_at at (verdict_from spec plan (at + 1) rest (drop (at + 1) lines)) (flaw spec plan k (get_or lines at d))
one_line spec plan lines k at d rest lt =
    ap (verdict_from spec plan at (k ∷ rest)) (next_item lines at d lt)
    ∙ ap (λ n. verdict_at at (verdict_from spec plan n rest (drop (at + 1) lines)) (flaw spec plan k (get_or lines at d))) (let z : suc at ≡ at + 1 = omega arith in z)

pub one_wrong : (spec : Spec) (plan : Plan) (lines : List CertLine) (k : Case) (at : ℕ) (d : CertLine) (why : Why) → at < length lines → Some why ≡ flaw spec plan k (get_or lines at d)
    → Walks spec plan lines at (k ∷ []) (Fails at why)
one_wrong spec plan lines k at d why lt is = record {
  leads = λ rest. one_line spec plan lines k at d rest lt ∙ ap (verdict_at at (verdict_from spec plan (at + 1) rest (drop (at + 1) lines))) (sym is);
  within = tt;
}

pub one_right : (spec : Spec) (plan : Plan) (lines : List CertLine) (k : Case) (at : ℕ) (d : CertLine) → at < length lines → None ≡ flaw spec plan k (get_or lines at d)
    → Walks spec plan lines at (k ∷ []) (Goes (at + 1))
one_right spec plan lines k at d lt is = record {
  leads = λ rest. one_line spec plan lines k at d rest lt ∙ ap (verdict_at at (verdict_from spec plan (at + 1) rest (drop (at + 1) lines))) (sym is);
  within = omega arith;
}

-- ---- several

-- checking all cases has come to those that are left, at a line
pub record Comes (spec : Spec) (plan : Plan) (lines : List CertLine) (begin : ℕ) (all : List Case) (at : ℕ) (left : List Case) : Type 0 where
  pub leads : (rest : List Case) → verdict_from spec plan begin (all ++ rest) (drop begin lines) ≡ verdict_from spec plan at (left ++ rest) (drop at lines)
  pub within : at ≤ length lines

pub comes_first : (spec : Spec) (plan : Plan) (lines : List CertLine) (at : ℕ) (all : List Case) → at ≤ length lines → Comes spec plan lines at all at all
comes_first spec plan lines at all le = record { leads = λ rest. refl; within = le }

pub comes_on : (spec : Spec) (plan : Plan) (lines : List CertLine) (begin : ℕ) (all : List Case) (at : ℕ) (cs left : List Case) (next : ℕ)
    → Comes spec plan lines begin all at (cs ++ left) → Walks spec plan lines at cs (Goes next) → Comes spec plan lines begin all next left
comes_on spec plan lines begin all at cs left next h w = record {
  leads = λ rest. h.leads rest ∙ ap (λ ks. verdict_from spec plan at ks (drop at lines)) (append_assoc cs left rest) ∙ w.leads (left ++ rest);
  within = w.within;
}

pub comes_fails : (spec : Spec) (plan : Plan) (lines : List CertLine) (begin : ℕ) (all : List Case) (at : ℕ) (cs left : List Case) (case : ℕ) (why : Why)
    → Comes spec plan lines begin all at (cs ++ left) → Walks spec plan lines at cs (Fails case why) → Walks spec plan lines begin all (Fails case why)
comes_fails spec plan lines begin all at cs left case why h w = record {
  leads = λ rest. h.leads rest ∙ ap (λ ks. verdict_from spec plan at ks (drop at lines)) (append_assoc cs left rest) ∙ w.leads (left ++ rest);
  within = tt;
}

pub comes_end : (spec : Spec) (plan : Plan) (lines : List CertLine) (begin : ℕ) (all : List Case) (at : ℕ) (left : List Case) → left ≡ [] → Comes spec plan lines begin all at left → Walks spec plan lines begin all (Goes at)
comes_end spec plan lines begin all at left none h = record {
  leads = λ rest. h.leads rest ∙ ap (λ ks. verdict_from spec plan at (ks ++ rest) (drop at lines)) none;
  within = h.within;
}

-- ---- rows of operations

upto_next : (b n : ℕ) → b < n → upto_from b (n - b) ≡ b ∷ upto_from (b + 1) (n - (b + 1))
upto_next b n lt = ap (upto_from b) (let z : n - b ≡ suc (n - (b + 1)) = omega arith in z) ∙ ap (λ k. b ∷ upto_from k (n - (b + 1))) (let z : suc b ≡ b + 1 = omega arith in z)

pub row_next : (spec : Spec) (a b : ℕ) → b < length spec.ops → row_cases spec a b ≡ pair_cases spec a b ++ row_cases spec a (b + 1)
row_next spec a b lt = ap (flat_map (pair_cases spec a)) (upto_next b (length spec.ops) lt)

pub last_row : (spec : Spec) (a b : ℕ) → length spec.ops ≤ b → row_cases spec a b ≡ []
last_row spec a b le = ap (λ n. flat_map (pair_cases spec a) (upto_from b n)) (let z : length spec.ops - b ≡ 0 = omega arith in z)

pub all_next : (spec : Spec) (a : ℕ) → a < length spec.ops → cases_from spec a ≡ row_cases spec a a ++ cases_from spec (a + 1)
all_next spec a lt = ap (flat_map (λ x. row_cases spec x x)) (upto_next a (length spec.ops) lt)

pub all_end : (spec : Spec) (a : ℕ) → length spec.ops ≤ a → cases_from spec a ≡ []
all_end spec a le = ap (λ n. flat_map (λ x. row_cases spec x x) (upto_from a n)) (let z : length spec.ops - a ≡ 0 = omega arith in z)

pub row_on : (spec : Spec) (plan : Plan) (lines : List CertLine) (begin : ℕ) (all : List Case) (a b at next : ℕ) → b < length spec.ops
    → Comes spec plan lines begin all at (row_cases spec a b) → Walks spec plan lines at (pair_cases spec a b) (Goes next) → Comes spec plan lines begin all next (row_cases spec a (b + 1))
row_on spec plan lines begin all a b at next lt h w =
    comes_on spec plan lines begin all at (pair_cases spec a b) (row_cases spec a (b + 1)) next (subst (Comes spec plan lines begin all at) (row_next spec a b lt) h) w

pub row_fails : (spec : Spec) (plan : Plan) (lines : List CertLine) (begin : ℕ) (all : List Case) (a b at case : ℕ) (why : Why) → b < length spec.ops
    → Comes spec plan lines begin all at (row_cases spec a b) → Walks spec plan lines at (pair_cases spec a b) (Fails case why) → Walks spec plan lines begin all (Fails case why)
row_fails spec plan lines begin all a b at case why lt h w =
    comes_fails spec plan lines begin all at (pair_cases spec a b) (row_cases spec a (b + 1)) case why (subst (Comes spec plan lines begin all at) (row_next spec a b lt) h) w

pub row_ends : (spec : Spec) (plan : Plan) (lines : List CertLine) (begin : ℕ) (all : List Case) (a b at : ℕ) → length spec.ops ≤ b → Comes spec plan lines begin all at (row_cases spec a b) → Walks spec plan lines begin all (Goes at)
row_ends spec plan lines begin all a b at le h = comes_end spec plan lines begin all at (row_cases spec a b) (last_row spec a b le) h

pub all_on : (spec : Spec) (plan : Plan) (lines : List CertLine) (begin : ℕ) (all : List Case) (a at next : ℕ) → a < length spec.ops
    → Comes spec plan lines begin all at (cases_from spec a) → Walks spec plan lines at (row_cases spec a a) (Goes next) → Comes spec plan lines begin all next (cases_from spec (a + 1))
all_on spec plan lines begin all a at next lt h w =
    comes_on spec plan lines begin all at (row_cases spec a a) (cases_from spec (a + 1)) next (subst (Comes spec plan lines begin all at) (all_next spec a lt) h) w

pub all_fails : (spec : Spec) (plan : Plan) (lines : List CertLine) (begin : ℕ) (all : List Case) (a at case : ℕ) (why : Why) → a < length spec.ops
    → Comes spec plan lines begin all at (cases_from spec a) → Walks spec plan lines at (row_cases spec a a) (Fails case why) → Walks spec plan lines begin all (Fails case why)
all_fails spec plan lines begin all a at case why lt h w =
    comes_fails spec plan lines begin all at (row_cases spec a a) (cases_from spec (a + 1)) case why (subst (Comes spec plan lines begin all at) (all_next spec a lt) h) w

pub all_ends : (spec : Spec) (plan : Plan) (lines : List CertLine) (begin : ℕ) (all : List Case) (a at : ℕ) → length spec.ops ≤ a → Comes spec plan lines begin all at (cases_from spec a) → Walks spec plan lines begin all (Goes at)
all_ends spec plan lines begin all a at le h = comes_end spec plan lines begin all at (cases_from spec a) (all_end spec a le) h

-- ---- the end

all_cases : (spec : Spec) → cases_from spec 0 ≡ touched_cases spec
all_cases spec = ap (λ n. flat_map (λ x. row_cases spec x x) (upto_from 0 n)) (let z : length spec.ops - 0 ≡ length spec.ops = omega arith in z)

at_end : (spec : Spec) (plan : Plan) (lines : List CertLine) (at : ℕ) → at ≤ length lines → verdict_from spec plan at [] (drop at lines) ≡ end_verdict (length lines) at
at_end spec plan lines at le = elim (cases_lt at (length lines)) [
  | inl lt ↦ ap (verdict_from spec plan at []) (next_item lines at (SepLock 0) lt) ∙ ap (λ b. cond b Yes (No at Extra)) (sym (ne_eqb at (length lines) (λ e. omega (arith, e, lt))))
  | inr ge ↦ ap (verdict_from spec plan at []) (none_left lines at ge) ∙ ap (λ b. cond b Yes (No at Extra)) (sym (eq-eqb at (length lines) (omega arith)))
]

start_walk : (spec : Spec) (plan : Plan) (certificate : Certificate) → verdict_of spec plan certificate ≡ verdict_from spec plan 0 (cases_from spec 0 ++ []) (drop 0 certificate.lines)
start_walk spec plan certificate =
    ap (λ ks. verdict_from spec plan 0 ks certificate.lines) (sym (all_cases spec) ∙ sym (append-nil (cases_from spec 0)))
    ∙ ap (verdict_from spec plan 0 (cases_from spec 0 ++ [])) (whole certificate.lines)
  where
    whole : (xs : List CertLine) → xs ≡ drop 0 xs
    whole [] = refl
    whole (x ∷ xs) = refl

pub walk_ends : (spec : Spec) (plan : Plan) (certificate : Certificate) (walk : Walk) → Walks spec plan certificate.lines 0 (cases_from spec 0) walk → verdict_of spec plan certificate ≡ walk_verdict (length certificate.lines) walk
walk_ends spec plan certificate (Fails case why) w = start_walk spec plan certificate ∙ w.leads []
walk_ends spec plan certificate (Goes at) w = start_walk spec plan certificate ∙ w.leads [] ∙ at_end spec plan certificate.lines at w.within
