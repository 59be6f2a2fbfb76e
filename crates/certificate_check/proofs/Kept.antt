-- Literals in sets of their variables.
use Rattle.std.proofs.Common.{◌≡◌, ℕ, Bool, true, false, ◌||◌, ◌&&◌, cond, eqb, List, [], ◌∷◌, ◌++◌, refl, sym, ap, ◌∙◌, inl, inr}
use Rattle.std.specs.List.{list_any}
use mathlib.Core.Bool.{beq}
use Rattle.std.proofs.lemmas.Bool.{cases_eq, ne_eqb}
use Rattle.certificate_check.specs.Falses.{AreKept}
use Rattle.ground_clauses.specs.Derivations.{same_num}
use Rattle.ground_clauses.specs.declared.clauses.Lit.{Lit}

pub none_kept : (in_sets : Bool) (lits : List Lit) (pos neg : List ℕ) → lits ≡ [] → pos ≡ [] → neg ≡ [] → AreKept lits in_sets pos neg
none_kept in_sets lits pos neg e f g = record { each = λ _ x. rw (e, f, g) (neither x.yes x.var) }
  where
    neither : (b : Bool) (v : ℕ) → false ≡ list_any (eqb v) (cond b [] [])
    neither true v = refl
    neither false v = refl

pub not_in_sets : (lits : List Lit) (in_sets : Bool) (pos neg : List ℕ) → in_sets ≡ false → AreKept lits in_sets pos neg
not_in_sets lits true pos neg e = absurd cc
not_in_sets lits false pos neg e = record { each = λ f x. absurd cc }

pub kept_yes : (lits : List Lit) (in_sets : Bool) (pos neg : List ℕ) (x : Lit) → AreKept lits in_sets pos neg → in_sets ≡ true → x.yes ≡ true → list_any (eqb x.var) pos ≡ list_any (same_num x) lits
kept_yes lits in_sets pos neg x kept e sign = sym (kept.each e x ∙ ap (λ (b : Bool). list_any (eqb x.var) (cond b pos neg)) sign)

pub kept_no : (lits : List Lit) (in_sets : Bool) (pos neg : List ℕ) (x : Lit) → AreKept lits in_sets pos neg → in_sets ≡ true → x.yes ≡ false → list_any (eqb x.var) neg ≡ list_any (same_num x) lits
kept_no lits in_sets pos neg x kept e sign = sym (kept.each e x ∙ ap (λ (b : Bool). list_any (eqb x.var) (cond b pos neg)) sign)

flipped : (m n : ℕ) → eqb m n ≡ eqb n m
flipped m n = elim (cases_eq m n) [
  | inl same ↦ ap (λ (k : ℕ). eqb k n) same ∙ ap (eqb n) (sym same)
  | inr other ↦ ne_eqb m n other ∙ sym (ne_eqb n m (λ e. other (sym e)))
]

any_last : (p : Lit → Bool) (xs : List Lit) (z : Lit) → list_any p (xs ++ z ∷ []) ≡ cond (p z) true (list_any p xs)
any_last p [] z = at_end (p z)
  where
    at_end : (b : Bool) → (b || false) ≡ cond b true false
    at_end true = refl
    at_end false = refl
any_last p (x ∷ xs) z = ap (λ (b : Bool). p x || b) (any_last p xs z) ∙ moved (p x) (p z) (list_any p xs)
  where
    moved : (a b r : Bool) → (a || cond b true r) ≡ cond b true (a || r)
    moved true true r = refl
    moved true false r = refl
    moved false true r = refl
    moved false false r = refl

-- a literal of the other sign is another one
same_sign : (x z : Lit) (s t : Bool) → x.yes ≡ s → z.yes ≡ t → same_num x z ≡ (eqb z.var x.var && beq s t)
same_sign x z s t e f = ap (λ (b : Bool). b && beq x.yes z.yes) (flipped x.var z.var) ∙ rw (e, f) refl

abbrev Puts : List ℕ → List ℕ → ℕ → Type 0
Puts old new v = (q : ℕ) → list_any (eqb q) new ≡ cond (eqb v q) true (list_any (eqb q) old)

pub one_more_yes : (lits new : List Lit) (in_sets : Bool) (pos neg pos' : List ℕ) (z : Lit) → AreKept lits in_sets pos neg → new ≡ lits ++ z ∷ [] → z.yes ≡ true → Puts pos pos' z.var → AreKept new in_sets pos' neg
one_more_yes lits new in_sets pos neg pos' z kept pushed sign puts = record { each = λ e x. shown e x x.yes refl }
  where
    shown : (e : in_sets ≡ true) (x : Lit) (s : Bool) → x.yes ≡ s → list_any (same_num x) new ≡ list_any (eqb x.var) (cond x.yes pos' neg)
    shown e x true is =
        ap (list_any (same_num x)) pushed ∙ any_last (same_num x) lits z
        ∙ ap (λ (b : Bool). cond b true (list_any (same_num x) lits)) (same_sign x z true true is sign ∙ both (eqb z.var x.var))
        ∙ ap (λ (b : Bool). cond (eqb z.var x.var) true b) (sym (kept_yes lits in_sets pos neg x kept e is))
        ∙ sym (puts x.var) ∙ ap (λ (b : Bool). list_any (eqb x.var) (cond b pos' neg)) (sym is)
      where
        both : (b : Bool) → (b && true) ≡ b
        both true = refl
        both false = refl
    shown e x false is =
        ap (list_any (same_num x)) pushed ∙ any_last (same_num x) lits z
        ∙ ap (λ (b : Bool). cond b true (list_any (same_num x) lits)) (same_sign x z false true is sign ∙ never (eqb z.var x.var))
        ∙ sym (kept_no lits in_sets pos neg x kept e is) ∙ ap (λ (b : Bool). list_any (eqb x.var) (cond b pos' neg)) (sym is)
      where
        never : (b : Bool) → (b && false) ≡ false
        never true = refl
        never false = refl

pub one_more_no : (lits new : List Lit) (in_sets : Bool) (pos neg neg' : List ℕ) (z : Lit) → AreKept lits in_sets pos neg → new ≡ lits ++ z ∷ [] → z.yes ≡ false → Puts neg neg' z.var → AreKept new in_sets pos neg'
one_more_no lits new in_sets pos neg neg' z kept pushed sign puts = record { each = λ e x. shown e x x.yes refl }
  where
    shown : (e : in_sets ≡ true) (x : Lit) (s : Bool) → x.yes ≡ s → list_any (same_num x) new ≡ list_any (eqb x.var) (cond x.yes pos neg')
    shown e x false is =
        ap (list_any (same_num x)) pushed ∙ any_last (same_num x) lits z
        ∙ ap (λ (b : Bool). cond b true (list_any (same_num x) lits)) (same_sign x z false false is sign ∙ both (eqb z.var x.var))
        ∙ ap (λ (b : Bool). cond (eqb z.var x.var) true b) (sym (kept_no lits in_sets pos neg x kept e is))
        ∙ sym (puts x.var) ∙ ap (λ (b : Bool). list_any (eqb x.var) (cond b pos neg')) (sym is)
      where
        both : (b : Bool) → (b && true) ≡ b
        both true = refl
        both false = refl
    shown e x true is =
        ap (list_any (same_num x)) pushed ∙ any_last (same_num x) lits z
        ∙ ap (λ (b : Bool). cond b true (list_any (same_num x) lits)) (same_sign x z true false is sign ∙ never (eqb z.var x.var))
        ∙ sym (kept_yes lits in_sets pos neg x kept e is) ∙ ap (λ (b : Bool). list_any (eqb x.var) (cond b pos neg')) (sym is)
      where
        never : (b : Bool) → (b && false) ≡ false
        never true = refl
        never false = refl
