-- Clauses that are true have a true form.
use Rattle.std.proofs.Common.{◌≡◌, inl, inr, suc, Bool, true, false, ◌||◌, cond, not, List, [], ◌∷◌, ◌++◌, map, length, refl, sym, ap, subst, ◌∙◌}
use Rattle.std.specs.List.{list_any, AllByRecursion, filter, flat_map}
use Rattle.std.proofs.lemmas.Bool.{cases_Bool, or_cases, or_left, or_right, true≢false}
use Rattle.ground_clauses.proofs.Forms.{ClauseTrue, form_true}
use Rattle.ground_clauses.proofs.Numbers.{same_atom-true}
use Rattle.ground_clauses.proofs.Parts.{any_flat, or_none}
use Rattle.ground_clauses.specs.Query.{clause_of, dedup, dedup_after, denial, form_lits, has_both_signs, index_of, is_certain, opposite, same_atom, same_lit}
use Rattle.ground_clauses.specs.declared.state_lit.Form.{Form}
use Rattle.ground_clauses.specs.declared.state_lit.Form.TheVariants.{Constant, Open}
use Rattle.ground_clauses.specs.declared.state_lit.StateLit.{StateLit}
use Rattle.spec_model.specs.declared.instance.Atom.{Atom as ClassAtom}

-- ---- lists

pub any_weaker : {X : Type 0} (p q : X → Bool) (xs : List X) → ((x : X) → p x ≡ true → q x ≡ true) → list_any p xs ≡ true → list_any q xs ≡ true
any_weaker p q [] f h = h
any_weaker p q (x ∷ xs) f h = elim (or_cases (p x) (list_any p xs) h) [
  | inl here ↦ or_left (q x) (list_any q xs) (f x here)
  | inr there ↦ or_right (q x) (list_any q xs) (any_weaker p q xs f there)
]

pub map_each : {X Y : Type 0} (P : Y → Type 0) (f : X → Y) (xs : List X) → AllByRecursion P (map f xs) → AllByRecursion (λ x. P (f x)) xs
map_each P f [] h = tt
map_each P f (x ∷ xs) h = (h.0, map_each P f xs h.1)

pub filter_each : {X : Type 0} (P : X → Type 0) (t : X → Bool) (xs : List X) → AllByRecursion P (filter t xs) → AllByRecursion (λ x. t x ≡ true → P x) xs
filter_each P t [] h = tt
filter_each P t (x ∷ xs) h = elim (cases_Bool (t x)) [
  | inl passes ↦ let k = subst (λ b. AllByRecursion P (cond b (x ∷ filter t xs) (filter t xs))) passes h in ((λ e. k.0), filter_each P t xs k.1)
  | inr fails ↦ ((λ e. absurd (true≢false (sym e ∙ fails))), filter_each P t xs (subst (λ b. AllByRecursion P (cond b (x ∷ filter t xs) (filter t xs))) fails h))
]

pub each_none : {X : Type 0} (p : X → Bool) (xs : List X) → AllByRecursion (λ x. p x ≡ false) xs → list_any p xs ≡ false
each_none p [] h = refl
each_none p (x ∷ xs) h = ap (λ b. b || list_any p xs) h.0 ∙ each_none p xs h.1

pub any_atom : (P : ClassAtom → Type 0) (a : ClassAtom) (atoms : List ClassAtom) → AllByRecursion P atoms → list_any (same_atom a) atoms ≡ true → P a
any_atom P a [] h is = absurd (true≢false (sym is))
any_atom P a (b ∷ atoms) h is = elim (or_cases (same_atom a b) (list_any (same_atom a) atoms) is) [
  | inl here ↦ subst P (sym (same_atom-true a b here)) h.0
  | inr there ↦ any_atom P a atoms h.1 there
]

pub index_none : {X : Type 0} (test : X → Bool) (xs : List X) → list_any test xs ≡ false → index_of test xs ≡ length xs
index_none test [] h = refl
index_none test (x ∷ xs) h = elim (cases_Bool (test x)) [
  | inl here ↦ absurd (true≢false (sym (or_left (test x) (list_any test xs) here) ∙ h))
  | inr other ↦
      subst (λ b. cond b 0 (suc (index_of test xs)) ≡ suc (length xs)) (sym other)
      (ap suc (index_none test xs (ap (λ b. b || list_any test xs) (sym other) ∙ h)))
]

pub dedup_any : {X : Type 0} (eq : X → X → Bool) (p : X → Bool) (seen xs : List X) → list_any p (dedup_after eq seen xs) ≡ true → list_any p xs ≡ true
dedup_any eq p seen [] h = h
dedup_any eq p seen (x ∷ xs) h = elim (cases_Bool (list_any (eq x) seen)) [
  | inl old ↦ or_right (p x) (list_any p xs) (dedup_any eq p seen xs (subst (λ b. list_any p (cond b (dedup_after eq seen xs) (x ∷ dedup_after eq (seen ++ x ∷ []) xs)) ≡ true) old h))
  | inr new ↦ elim (or_cases (p x) (list_any p (dedup_after eq (seen ++ x ∷ []) xs)) (subst (λ b. list_any p (cond b (dedup_after eq seen xs) (x ∷ dedup_after eq (seen ++ x ∷ []) xs)) ≡ true) new h)) [
    | inl here ↦ or_left (p x) (list_any p xs) here
    | inr there ↦ or_right (p x) (list_any p xs) (dedup_any eq p (seen ++ x ∷ []) xs there)
  ]
]

-- ---- clauses that are true have a true form

abbrev pub Opposes : (StateLit → Bool) → Type 0
Opposes g = (x : StateLit) → g (opposite x) ≡ not (g x)

abbrev pub Respects : (StateLit → Bool) → Type 0
Respects g = (x y : StateLit) → same_lit x y ≡ true → g x ≡ g y

pub certain_form : (g : StateLit → Bool) (f : Form) → is_certain f ≡ true → form_true g f ≡ true
certain_form g (Constant b) h = h
certain_form g (Open x) h = absurd (true≢false (sym h))

pub literal_form_true : (g : StateLit → Bool) (f : Form) → list_any g (form_lits f) ≡ true → form_true g f ≡ true
literal_form_true g (Constant b) h = absurd (true≢false (sym h))
literal_form_true g (Open x) h = sym (or_none (g x)) ∙ h

pub some_form : (g : StateLit → Bool) (fs : List Form) → list_any g (flat_map form_lits fs) ≡ true → list_any (form_true g) fs ≡ true
some_form g fs h = any_weaker (λ f. list_any g (form_lits f)) (form_true g) fs (literal_form_true g) (sym (any_flat g form_lits fs) ∙ h)

pub signs_true : (g : StateLit → Bool) (xs : List StateLit) → Opposes g → Respects g → has_both_signs xs ≡ true → list_any g xs ≡ true
signs_true g [] o r h = h
signs_true g (x ∷ xs) o r h = elim (or_cases (list_any (same_lit (opposite x)) xs) (has_both_signs xs) h) [
  | inr later ↦ or_right (g x) (list_any g xs) (signs_true g xs o r later)
  | inl here ↦ elim (cases_Bool (g x)) [
    | inl is ↦ or_left (g x) (list_any g xs) is
    | inr not_so ↦ or_right (g x) (list_any g xs) (any_weaker (same_lit (opposite x)) g xs (λ y same. sym (r (opposite x) y same) ∙ o x ∙ ap not not_so) here)
  ]
]

pub form_back : (g : StateLit → Bool) (fs : List Form) → Opposes g → Respects g → AllByRecursion (ClauseTrue g) (clause_of fs) → list_any (form_true g) fs ≡ true
form_back g fs o r h = by_test (list_any is_certain fs) (has_both_signs (flat_map form_lits fs)) refl refl h
  where
    by_test : (certain twice : Bool) → list_any is_certain fs ≡ certain → has_both_signs (flat_map form_lits fs) ≡ twice
        → AllByRecursion (ClauseTrue g) (cond (certain || twice) [] (dedup same_lit (flat_map form_lits fs) ∷ [])) → list_any (form_true g) fs ≡ true
    by_test true twice is signs h = any_weaker is_certain (form_true g) fs (certain_form g) is
    by_test false true is signs h = some_form g fs (signs_true g (flat_map form_lits fs) o r signs)
    by_test false false is signs h = some_form g fs (dedup_any same_lit g [] (flat_map form_lits fs) h.0)

pub denial_back : (g : StateLit → Bool) (f : Form) → Opposes g → AllByRecursion (ClauseTrue g) (denial f) → form_true g f ≡ false
denial_back g (Constant true) o h = absurd (true≢false (sym h.0))
denial_back g (Constant false) o h = refl
denial_back g (Open x) o h = flip (g x) (sym (o x) ∙ sym (or_none (g (opposite x))) ∙ h.0)
  where
    flip : (b : Bool) → not b ≡ true → b ≡ false
    flip true e = sym e
    flip false e = refl
