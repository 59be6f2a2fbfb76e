-- A clause that is true whatever comes behind its first elements.
use Rattle.std.proofs.Common.{◌≡◌, ℕ, ◌<◌, ◌≤◌, Bool, true, false, not, ◌&&◌, ◌||◌, List, [], ◌∷◌, ◌++◌, map, length, get_or, refl, sym, ap, ◌∙◌, subst, None}
use Rattle.std.specs.List.{AllByRecursion, find, list_any}
use Rattle.std.specs.Prelude.{nat_lt}
use mathlib.Core.Bool.{beq}
use Rattle.std.proofs.lemmas.List.{get_or_append_left}
use Rattle.std.proofs.lemmas.Bool.{and_parts, ltb-true}
use Rattle.spec_model.specs.declared.clause.Clause.{Clause}
use Rattle.spec_model.specs.declared.clause.Literal.{Literal}
use Rattle.spec_model.specs.declared.clause.Literal.TheVariants.{Atom, Equal}
use Rattle.spec_model.specs.declared.clause.Var.{Var}
use Rattle.spec_model.specs.declared.instance.Inst.{Inst}
use Rattle.spec_model.specs.declared.spec.Spec.{Spec}
use Rattle.spec_model.specs.Breaks.{breaks_at, laid_over, literal_set}
use Rattle.spec_model.specs.Fits.{SortFits}
use Rattle.spec_model.specs.Truths.{Truths, Within, instance_true, literal_true, literals, signed_true, values, Signed}
use Rattle.spec_model.specs.Universe.{sizes_of, tuples}
use Rattle.effect_model.specs.Places.{AtomFits}
use Rattle.effect_model.specs.Pruning.{LiteralStands, are_given, literal_given, tuples_behind}
use Rattle.effect_model.proofs.Pruned.{any_sides, find_none}
use Rattle.effect_model.proofs.Sizes.{size_some}

-- ---- a literal whose variables are given

values_given : (front behind vars : List ℕ) → are_given (length front) vars ≡ true → values (front ++ behind) vars ≡ values front vars
values_given front behind [] h = refl
values_given front behind (v ∷ vars) h =
    let both = and_parts (nat_lt v (length front)) (are_given (length front) vars) h in
    let here : get_or (front ++ behind) v 0 ≡ get_or front v 0 = get_or_append_left front behind 0 v (ltb-true v (length front) both.0) in
    ap (λ (x : ℕ). x ∷ values (front ++ behind) vars) here ∙ ap (λ (xs : List ℕ). get_or front v 0 ∷ xs) (values_given front behind vars both.1)

pub stands_given : (spec : Spec) (front behind : List ℕ) (l : Literal) → literal_given (length front) l ≡ true → LiteralStands spec (front ++ behind) l → LiteralStands spec front l
stands_given spec front behind (Atom p vars) h stands = subst (λ (xs : List ℕ). AtomFits spec (record { pred = p; args = xs })) (values_given front behind vars h) stands
stands_given spec front behind (Equal l r) h stands = tt

pub true_given : (s : Truths) (front behind : List ℕ) (sign : Bool) (l : Literal) → literal_given (length front) l ≡ true → literal_true s front sign l ≡ true → literal_true s (front ++ behind) sign l ≡ true
true_given s front behind sign (Atom p vars) h e = ap (λ (xs : List ℕ). beq (s p xs) sign) (values_given front behind vars h) ∙ e
true_given s front behind sign (Equal l r) h e = absurd cc

-- ---- a clause

pub premise_true : (s : Truths) (xs : List ℕ) (c : Clause) → list_any (literal_true s xs false) c.premise ≡ true → instance_true s xs c ≡ true
premise_true s xs c e = any_sides (signed_true s xs) c ∙ ap (λ (b : Bool). b || list_any (literal_true s xs true) c.conclusion) e

pub conclusion_true : (s : Truths) (xs : List ℕ) (c : Clause) → list_any (literal_true s xs true) c.conclusion ≡ true → instance_true s xs c ≡ true
conclusion_true s xs c e = any_sides (signed_true s xs) c ∙ ap (λ (b : Bool). list_any (literal_true s xs false) c.premise || b) e ∙ or_true (list_any (literal_true s xs false) c.premise)
  where
    or_true : (b : Bool) → (b || true) ≡ true
    or_true true = refl
    or_true false = refl

-- none is broken behind elements behind which it is true
pub none_stays : (spec : Spec) (inst : Inst) (s : Truths) (c : Clause) (front sizes : List ℕ) → ((behind : List ℕ) → instance_true (laid_over spec inst s) (front ++ behind) c ≡ true) → None ≡ find (breaks_at spec inst s c) (tuples_behind front sizes)
none_stays spec inst s c front sizes stays =
    sym (find_none (breaks_at spec inst s c) (λ (xs : List ℕ). front ++ xs) (tuples sizes) (λ xs. unbroken (list_any (λ (l : Signed). literal_set spec inst (front ++ xs) l.literal) (literals c)) (instance_true (laid_over spec inst s) (front ++ xs) c) (stays xs)))
  where
    unbroken : (a b : Bool) → b ≡ true → (a && not b) ≡ false
    unbroken true true e = refl
    unbroken false true e = refl
    unbroken a false e = absurd cc

-- ---- sizes of which none is 0

pub first_within : (sizes : List ℕ) → AllByRecursion (λ (size : ℕ). 1 ≤ size) sizes → Within (λ s. s) sizes (map (λ (size : ℕ). 0) sizes)
first_within [] h = tt
first_within (size ∷ sizes) h = (h.0, first_within sizes h.1)

pub sizes_some : (spec : Spec) (vars : List Var) → AllByRecursion SortFits spec.sorts → AllByRecursion (λ (v : Var). v.sort < length spec.sorts) vars → AllByRecursion (λ (size : ℕ). 1 ≤ size) (sizes_of spec (map (λ (v : Var). v.sort) vars))
sizes_some spec [] sorts known = tt
sizes_some spec (v ∷ vars) sorts known = (size_some spec v.sort sorts known.0, sizes_some spec vars sorts known.1)
