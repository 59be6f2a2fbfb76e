-- Where one of the two touches no atom of a target, the target has with both the truth that it has with the other.
use Rattle.std.proofs.Common.{◌≡◌, inl, inr, ℕ, Bool, true, false, List, [], ◌∷◌, refl, sym, ap, subst, ◌∙◌}
use Rattle.std.specs.Prelude.{Some, None, Option, is_some}
use Rattle.std.specs.List.{list_any, AllByRecursion}
use mathlib.Core.Bool.{beq}
use Rattle.std.proofs.lemmas.Bool.{true≢false, or_cases, or_left, or_right}
use Rattle.ground_clauses.proofs.Lists.{any_same, each_weaker, flat_map_each, none_each}
use Rattle.ground_clauses.specs.Cases.{equalities_true, equality_true, touches}
use Rattle.ground_clauses.specs.Laws.{IsQuadrupleOf}
use Rattle.ground_clauses.specs.Query.{Hypothesis, Sets, instance_atoms, literal_atoms}
use Rattle.spec_model.specs.Stable.{IsRow, Reads, entry, touch_of}
use Rattle.spec_model.specs.Truths.{Signed, Truths, instance_true, literal_true, literals, signed_true, wins}
use Rattle.spec_model.specs.declared.clause.Literal.{Literal}
use Rattle.spec_model.specs.declared.clause.Literal.TheVariants.{Atom, Equal}
use Rattle.spec_model.specs.declared.spec.Spec.{Spec}
use Rattle.spec_model.specs.declared.state.Entry.{Entry}
use Rattle.spec_model.specs.declared.state.Entry.TheVariants.{Always, Same}
use Rattle.spec_model.specs.declared.state.Moment.{Moment}
use Rattle.spec_model.specs.declared.state.Moment.TheVariants.{Both, First, Second}
use Rattle.spec_model.specs.declared.state.Touch.{Touch}
use Rattle.spec_model.specs.declared.state.Touch.TheVariants.{Leaves, Loses, Wins}

reads_same : (w : Bool) (t : Moment → Bool) (m k : Moment) (e : Entry) → Reads w t m e → Reads w t k e → t m ≡ t k
reads_same w t m k (Same j) h g = h ∙ sym g
reads_same w t m k Always h g = h ∙ sym g

left_leaves : (b : Touch) → entry Leaves b Both ≡ entry Leaves b Second
left_leaves Leaves = refl
left_leaves Wins = refl
left_leaves Loses = refl

right_leaves : (a : Touch) → entry a Leaves Both ≡ entry a Leaves First
right_leaves Leaves = refl
right_leaves Wins = refl
right_leaves Loses = refl

touch_none : (w : Bool) (o : Option Bool) → is_some o ≡ false → touch_of w o ≡ Leaves
touch_none w None h = refl
touch_none w (Some x) h = absurd (true≢false h)

left_row : (w : Bool) (a b : Touch) (t : Moment → Bool) → a ≡ Leaves → IsRow w a b t → t Both ≡ t Second
left_row w a b t is row = let r : IsRow w Leaves b t = subst (λ x. IsRow w x b t) is row in
    reads_same w t Both Second (entry Leaves b Second) (subst (Reads w t Both) (left_leaves b) (r.entries Both)) (r.entries Second)

right_row : (w : Bool) (a b : Touch) (t : Moment → Bool) → b ≡ Leaves → IsRow w a b t → t Both ≡ t First
right_row w a b t is row = let r : IsRow w a Leaves t = subst (λ x. IsRow w a x t) is row in
    reads_same w t Both First (entry a Leaves First) (subst (Reads w t Both) (right_leaves a) (r.entries Both)) (r.entries First)

literal_same : (s r : Truths) (cs : List ℕ) (sign : Bool) (l : Literal) → AllByRecursion (λ a. s a.pred a.args ≡ r a.pred a.args) (literal_atoms cs l) → literal_true s cs sign l ≡ literal_true r cs sign l
literal_same s r cs sign (Atom p vars) h = ap (λ t. beq t sign) h.0
literal_same s r cs sign (Equal x y) h = refl

instance_same : (s r : Truths) (t : Hypothesis) → AllByRecursion (λ a. s a.pred a.args ≡ r a.pred a.args) (instance_atoms t) → instance_true s t.classes t.clause ≡ instance_true r t.classes t.clause
instance_same s r t h =
    any_same (signed_true s t.classes) (signed_true r t.classes) (literals t.clause)
    (each_weaker (λ l. AllByRecursion (λ a. s a.pred a.args ≡ r a.pred a.args) (literal_atoms t.classes l.literal)) (λ l. signed_true s t.classes l ≡ signed_true r t.classes l) (literals t.clause)
    (λ l k. literal_same s r t.classes l.sign l.literal k)
    (flat_map_each (λ a. s a.pred a.args ≡ r a.pred a.args) (λ l. literal_atoms t.classes l.literal) (literals t.clause) h))

pub one_leaves : (spec : Spec) (sets : Sets) (q : Moment → Truths) (t : Hypothesis) → IsQuadrupleOf spec sets.one sets.other q → touches sets.one t ≡ false → instance_true (q Both) t.classes t.clause ≡ instance_true (q Second) t.classes t.clause
one_leaves spec sets q t row none = instance_same (q Both) (q Second) t
    (each_weaker (λ a. is_some (sets.one a.pred a.args) ≡ false) (λ a. q Both a.pred a.args ≡ q Second a.pred a.args) (instance_atoms t)
    (λ a h. left_row (wins spec a.pred) (touch_of (wins spec a.pred) (sets.one a.pred a.args)) (touch_of (wins spec a.pred) (sets.other a.pred a.args)) (λ m. q m a.pred a.args)
    (touch_none (wins spec a.pred) (sets.one a.pred a.args) h) (row a.pred a.args))
    (none_each (λ a. is_some (sets.one a.pred a.args)) (instance_atoms t) none))

pub other_leaves : (spec : Spec) (sets : Sets) (q : Moment → Truths) (t : Hypothesis) → IsQuadrupleOf spec sets.one sets.other q → touches sets.other t ≡ false → instance_true (q Both) t.classes t.clause ≡ instance_true (q First) t.classes t.clause
other_leaves spec sets q t row none = instance_same (q Both) (q First) t
    (each_weaker (λ a. is_some (sets.other a.pred a.args) ≡ false) (λ a. q Both a.pred a.args ≡ q First a.pred a.args) (instance_atoms t)
    (λ a h. right_row (wins spec a.pred) (touch_of (wins spec a.pred) (sets.one a.pred a.args)) (touch_of (wins spec a.pred) (sets.other a.pred a.args)) (λ m. q m a.pred a.args)
    (touch_none (wins spec a.pred) (sets.other a.pred a.args) h) (row a.pred a.args))
    (none_each (λ a. is_some (sets.other a.pred a.args)) (instance_atoms t) none))

equal_literal : (s : Truths) (cs : List ℕ) (sign : Bool) (l : Literal) → equality_true cs (record { sign = sign; literal = l }) ≡ true → literal_true s cs sign l ≡ true
equal_literal s cs sign (Atom p vars) h = absurd (true≢false (sym h))
equal_literal s cs sign (Equal x y) h = h

equal_any : (s : Truths) (cs : List ℕ) (ls : List Signed) → list_any (equality_true cs) ls ≡ true → list_any (signed_true s cs) ls ≡ true
equal_any s cs [] h = h
equal_any s cs (l ∷ ls) h = elim (or_cases (equality_true cs l) (list_any (equality_true cs) ls) h) [
  | inl here ↦ or_left (signed_true s cs l) (list_any (signed_true s cs) ls) (equal_literal s cs l.sign l.literal here)
  | inr there ↦ or_right (signed_true s cs l) (list_any (signed_true s cs) ls) (equal_any s cs ls there)
]

pub equalities_hold : (s : Truths) (t : Hypothesis) → equalities_true t ≡ true → instance_true s t.classes t.clause ≡ true
equalities_hold s t h = equal_any s t.classes (literals t.clause) h
