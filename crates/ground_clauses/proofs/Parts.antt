-- Clauses by their premise and conclusion.
use Rattle.std.proofs.Common.{◌≡◌, ℕ, ◌+◌, ◌<◌, Bool, true, false, ◌||◌, List, [], ◌∷◌, ◌++◌, length, get_or, drop, map, refl, sym, ap, ◌∙◌, arith}
use Rattle.std.specs.Prelude.{Option, None, Some, is_some}
use Rattle.std.specs.List.{list_any, flat_map}
use Rattle.ground_clauses.proofs.Lists.{any_map}
use Rattle.ground_clauses.proofs.Reaches.{at_place}
use Rattle.ground_clauses.specs.Cases.{equalities_true, equality_holds, equality_true, over, touches}
use Rattle.ground_clauses.specs.Literals.{is_set}
use Rattle.ground_clauses.specs.Query.{literal_atoms, same_list}
use Rattle.spec_model.specs.Truths.{line_sets, lines_set, literals, or_else, signed, terms_touch, values}
use Rattle.spec_model.specs.declared.clause.Clause.{Clause}
use Rattle.spec_model.specs.declared.clause.Literal.{Literal}
use Rattle.spec_model.specs.declared.clause.Literal.TheVariants.{Atom, Equal}
use Rattle.spec_model.specs.declared.instance.Atom.{Atom as ClassAtom}
use Rattle.spec_model.specs.declared.operation.Line.{Line}
use Rattle.spec_model.specs.declared.operation.Term.{Term}

or_assoc : (x y z : Bool) → ((x || y) || z) ≡ (x || (y || z))
or_assoc true y z = refl
or_assoc false y z = refl

pub or_none : (x : Bool) → (x || false) ≡ x
or_none true = refl
or_none false = refl

pub any_append : {X : Type 0} (p : X → Bool) (xs ys : List X) → list_any p (xs ++ ys) ≡ (list_any p xs || list_any p ys)
any_append p [] ys = refl
any_append p (x ∷ xs) ys = ap (λ b. p x || b) (any_append p xs ys) ∙ sym (or_assoc (p x) (list_any p xs) (list_any p ys))

pub any_flat : {X Y : Type 0} (p : Y → Bool) (f : X → List Y) (xs : List X) → list_any p (flat_map f xs) ≡ list_any (λ x. list_any p (f x)) xs
any_flat p f [] = refl
any_flat p f (x ∷ xs) = any_append p (f x) (flat_map f xs) ∙ ap (λ b. list_any p (f x) || b) (any_flat p f xs)

pub equalities_parts : (c : Clause) (cs : List ℕ) → equalities_true (over c cs) ≡ (list_any (equality_holds cs false) c.premise || list_any (equality_holds cs true) c.conclusion)
equalities_parts c cs =
    any_append (equality_true cs) (map (signed false) c.premise) (map (signed true) c.conclusion)
    ∙ ap (λ b. b || list_any (equality_true cs) (map (signed true) c.conclusion)) (any_map (equality_true cs) (signed false) c.premise)
    ∙ ap (λ b. list_any (equality_holds cs false) c.premise || b) (any_map (equality_true cs) (signed true) c.conclusion)

abbrev set_at : (ℕ → List ℕ → Option Bool) → ClassAtom → Bool
set_at sets a = is_some (sets a.pred a.args)

literal_set : (sets : ℕ → List ℕ → Option Bool) (cs : List ℕ) (l : Literal) → list_any (set_at sets) (literal_atoms cs l) ≡ is_set sets cs l
literal_set sets cs (Atom p vars) = or_none (is_some (sets p (values cs vars)))
literal_set sets cs (Equal l r) = refl

literals_set : (sets : ℕ → List ℕ → Option Bool) (cs : List ℕ) (sign : Bool) (ls : List Literal) → list_any (λ l. list_any (set_at sets) (literal_atoms cs l.literal)) (map (signed sign) ls) ≡ list_any (is_set sets cs) ls
literals_set sets cs sign [] = refl
literals_set sets cs sign (l ∷ ls) =
    ap (λ b. b || list_any (λ l. list_any (set_at sets) (literal_atoms cs l.literal)) (map (signed sign) ls)) (literal_set sets cs l)
    ∙ ap (λ b. is_set sets cs l || b) (literals_set sets cs sign ls)

pub touches_parts : (sets : ℕ → List ℕ → Option Bool) (c : Clause) (cs : List ℕ) → touches sets (over c cs) ≡ (list_any (is_set sets cs) c.premise || list_any (is_set sets cs) c.conclusion)
touches_parts sets c cs =
    any_flat (set_at sets) (λ l. literal_atoms cs l.literal) (literals c)
    ∙ any_append (λ l. list_any (set_at sets) (literal_atoms cs l.literal)) (map (signed false) c.premise) (map (signed true) c.conclusion)
    ∙ ap (λ b. b || list_any (λ l. list_any (set_at sets) (literal_atoms cs l.literal)) (map (signed true) c.conclusion)) (literals_set sets cs false c.premise)
    ∙ ap (λ b. list_any (is_set sets cs) c.premise || b) (literals_set sets cs true c.conclusion)

pub values_end : (cs xs : List ℕ) (i : ℕ) (d : ℕ) (ys : List ℕ) → i < length xs → length ys < 1 → false ≡ same_list (values cs (drop i xs)) ys
values_end cs xs i d [] lt few = at_place (λ zs. false ≡ same_list (values cs zs) []) xs i d lt refl
values_end cs xs i d (y ∷ ys) lt few = absurd (omega arith)

pub same_end : (xs : List ℕ) (i : ℕ) (d : ℕ) (ys : List ℕ) → i < length xs → length ys < 1 → false ≡ same_list (drop i xs) ys
same_end xs i d [] lt few = at_place (λ zs. false ≡ same_list zs []) xs i d lt refl
same_end xs i d (y ∷ ys) lt few = absurd (omega arith)

-- ---- lines one after the other

touches_or : (x y : Option Bool) → is_some (or_else x y) ≡ (is_some y || is_some x)
touches_or None None = refl
touches_or None (Some y) = refl
touches_or (Some x) None = refl
touches_or (Some x) (Some y) = refl

pub lines_step : (has : ℕ → ℕ → Bool) (lines : List Line) (p : ℕ) (xs : List ℕ) (i : ℕ) (d : Line) → i < length lines
    → is_some (lines_set has (drop i lines) p xs) ≡ (is_some (line_sets has p xs (get_or lines i d)) || is_some (lines_set has (drop (i + 1) lines) p xs))
lines_step has lines p xs i d lt =
    at_place (λ ls. is_some (lines_set has ls p xs) ≡ (is_some (line_sets has p xs (get_or lines i d)) || is_some (lines_set has (drop (i + 1) lines) p xs))) lines i d lt
    (touches_or (lines_set has (drop (i + 1) lines) p xs) (line_sets has p xs (get_or lines i d)))

-- more terms than variables
pub short_vars : (has : ℕ → ℕ → Bool) (terms : List Term) (i : ℕ) (d : Term) (cs xs : List ℕ) → i < length terms → length xs < 1 → false ≡ terms_touch has (drop i terms) (values cs xs)
short_vars has terms i d cs [] lt few = at_place (λ ts. false ≡ terms_touch has ts []) terms i d lt refl
short_vars has terms i d cs (x ∷ xs) lt few = absurd (omega arith)
