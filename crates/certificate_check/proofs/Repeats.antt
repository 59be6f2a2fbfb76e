-- Variables that were seen, from the last literal back.
use Rattle.std.proofs.Common.{◌≡◌, ℕ, zero, suc, ◌+◌, ◌-◌, ◌<◌, ◌≤◌, Bool, true, false, ◌||◌, not, cond, eqb, List, [], ◌∷◌, length, get_or, drop, refl, sym, ap, subst, ◌∙◌, inl, inr, arith}
use Rattle.std.specs.List.{list_any}
use Rattle.std.proofs.lemmas.Bool.{cases_eq, ne_eqb, or_left, or_right}
use Rattle.std.proofs.lemmas.List.{drop_more}
use Rattle.ground_clauses.specs.Derivations.{repeats}
use Rattle.ground_clauses.specs.declared.clauses.Lit.{Lit}

-- the variables of the literals from a place on were seen, and none of them stands there twice
pub record AreSeen (lits : List Lit) (seen : List ℕ) (at : ℕ) : Type 0 where
  pub within : at ≤ length lits
  pub once : repeats (drop at lits) ≡ false
  pub all : (v : ℕ) → list_any (eqb v) seen ≡ list_any (λ (y : Lit). eqb v y.var) (drop at lits)

drop_whole : (lits : List Lit) → drop (length lits) lits ≡ []
drop_whole [] = refl
drop_whole (x ∷ lits) = drop_whole lits

pub none_seen : (lits : List Lit) (seen : List ℕ) → seen ≡ [] → AreSeen lits seen (length lits)
none_seen lits seen e = record {
  within = omega arith;
  once = ap repeats (drop_whole lits);
  all = λ v. ap (list_any (eqb v)) e ∙ ap (list_any (λ (y : Lit). eqb v y.var)) (sym (drop_whole lits));
}

repeats_behind : (n : ℕ) (lits : List Lit) → repeats (drop n lits) ≡ true → repeats lits ≡ true
repeats_behind zero lits h = h
repeats_behind (suc n) [] h = h
repeats_behind (suc n) (x ∷ lits) h = or_right (list_any (λ (y : Lit). eqb x.var y.var) lits) (repeats lits) (repeats_behind n lits h)

-- the literals from one place before this on
one_before : (lits : List Lit) (at : ℕ) (d : Lit) → 0 < at → at ≤ length lits → drop (at - 1) lits ≡ get_or lits (at - 1) d ∷ drop at lits
one_before lits at d some within =
    drop_more lits (at - 1) d (omega (arith, some, within)) ∙ ap (λ (n : ℕ). get_or lits (at - 1) d ∷ drop n lits) (let z : at - 1 + 1 ≡ at = omega (arith, some) in z)

pub seen_twice : (lits : List Lit) (seen : List ℕ) (at : ℕ) (d : Lit) → 0 < at → AreSeen lits seen at → list_any (eqb (get_or lits (at - 1) d).var) seen ≡ true → repeats lits ≡ true
seen_twice lits seen at d some are again =
    repeats_behind (at - 1) lits (subst (λ (ys : List Lit). repeats ys ≡ true) (sym (one_before lits at d some are.within))
    (or_left (list_any (λ (y : Lit). eqb (get_or lits (at - 1) d).var y.var) (drop at lits)) (repeats (drop at lits)) (sym (are.all (get_or lits (at - 1) d).var) ∙ again)))

same_or : (b t : Bool) → cond b true t ≡ (b || t)
same_or true t = refl
same_or false t = refl

flipped : (m n : ℕ) → eqb m n ≡ eqb n m
flipped m n = elim (cases_eq m n) [
  | inl same ↦ ap (λ (k : ℕ). eqb k n) same ∙ ap (eqb n) (sym same)
  | inr other ↦ ne_eqb m n other ∙ sym (ne_eqb n m (λ e. other (sym e)))
]

first_once : (x : Lit) (rest : List Lit) → list_any (λ (y : Lit). eqb x.var y.var) rest ≡ false → repeats rest ≡ false → repeats (x ∷ rest) ≡ false
first_once x rest new once = rw (new, once) refl

pub one_more_seen : (lits : List Lit) (seen new : List ℕ) (at : ℕ) (d : Lit) → 0 < at → AreSeen lits seen at → list_any (eqb (get_or lits (at - 1) d).var) seen ≡ false
    → ((v : ℕ) → list_any (eqb v) new ≡ cond (eqb (get_or lits (at - 1) d).var v) true (list_any (eqb v) seen)) → AreSeen lits new (at - 1)
one_more_seen lits seen new at d some are other added = record {
  within = let h = are.within in omega (arith, h);
  once = ap repeats (one_before lits at d some are.within)
      ∙ first_once (get_or lits (at - 1) d) (drop at lits) (sym (are.all (get_or lits (at - 1) d).var) ∙ other) are.once;
  all = λ v. added v ∙ same_or (eqb (get_or lits (at - 1) d).var v) (list_any (eqb v) seen)
      ∙ ap (λ (b : Bool). b || list_any (eqb v) seen) (flipped (get_or lits (at - 1) d).var v)
      ∙ ap (λ (b : Bool). eqb v (get_or lits (at - 1) d).var || b) (are.all v)
      ∙ ap (list_any (λ (y : Lit). eqb v y.var)) (sym (one_before lits at d some are.within));
}

pub once_all : (lits : List Lit) (seen : List ℕ) (at : ℕ) → at ≡ 0 → AreSeen lits seen at → repeats lits ≡ false
once_all lits seen at e are = ap (λ (n : ℕ). repeats (drop n lits)) (sym e) ∙ are.once

pub had_it : (added had : Bool) → added ≡ not had → added ≡ false → had ≡ true
had_it added true e f = refl
had_it added false e f = sym f ∙ e

pub had_none : (added had : Bool) → added ≡ not had → added ≡ true → had ≡ false
had_none added true e f = sym f ∙ e
had_none added false e f = refl
