-- Stability by the atoms of the universe, in either order.
use Rattle.std.proofs.Common.{◌≡◌, ◌≢◌, ℕ, zero, suc, ◌<◌, Bool, true, false, ◌&&◌, cond, not, ltb, List, [], ◌∷◌, length, get_or, refl, sym, ap, subst, ◌∙◌, arith}
use Rattle.std.specs.Prelude.{Contains, Some}
use Rattle.std.specs.List.{AllByRecursion, AllZip}
use mathlib.Core.Bool.{beq}
use Rattle.std.proofs.lemmas.Bool.{true≢false, and_parts, and_from, ltb-true, lt-ltb}
use Rattle.ground_clauses.proofs.Hypotheses.{among_each}
use Rattle.ground_clauses.proofs.Keeps.{among_from_contains}
use Rattle.ground_clauses.proofs.Lists.{any_same, each_weaker}
use Rattle.ground_clauses.specs.Laws.{IsQuadrupleOf, before_both}
use Rattle.spec_model.specs.Fits.{ClauseFits, IsWellFormed, LiteralFits, PlaceFits}
use Rattle.spec_model.specs.Stable.{IsQuadruple, IsRow, IsStable, Reads, entry, rises, touch_of}
use Rattle.spec_model.specs.Truths.{ClausesHold, Holds, Truths, Within, inst_sets, instance_true, is_locked, literal_true, literals, pred_at, signed_true, size_of, values, var_sorts, wins}
use Rattle.spec_model.specs.declared.clause.Clause.{Clause}
use Rattle.spec_model.specs.declared.clause.Literal.{Literal}
use Rattle.spec_model.specs.declared.clause.Literal.TheVariants.{Atom, Equal}
use Rattle.spec_model.specs.declared.instance.Inst.{Inst}
use Rattle.spec_model.specs.declared.spec.Spec.{Spec}
use Rattle.spec_model.specs.declared.state.Entry.{Entry}
use Rattle.spec_model.specs.declared.state.Entry.TheVariants.{Always, Same}
use Rattle.spec_model.specs.declared.state.Moment.{Moment}
use Rattle.spec_model.specs.declared.state.Moment.TheVariants.{Both, First, Second, Start}
use Rattle.spec_model.specs.declared.state.Rise.{Rise}
use Rattle.spec_model.specs.declared.state.Touch.{Touch}
use Rattle.spec_model.specs.declared.state.Touch.TheVariants.{Leaves, Loses, Wins}

abbrev is_within : (ℕ → ℕ) → List ℕ → List ℕ → Bool
is_within size [] [] = true
is_within size [] (x ∷ xs) = false
is_within size (s ∷ sorts) [] = false
is_within size (s ∷ sorts) (x ∷ xs) = ltb x (size s) && is_within size sorts xs

within_true : (size : ℕ → ℕ) (sorts xs : List ℕ) → is_within size sorts xs ≡ true → Within size sorts xs
within_true size [] [] h = tt
within_true size [] (x ∷ xs) h = absurd (true≢false (sym h))
within_true size (s ∷ sorts) [] h = absurd (true≢false (sym h))
within_true size (s ∷ sorts) (x ∷ xs) h = let k = and_parts (ltb x (size s)) (is_within size sorts xs) h in (ltb-true x (size s) k.0, within_true size sorts xs k.1)

true_within : (size : ℕ → ℕ) (sorts xs : List ℕ) → Within size sorts xs → is_within size sorts xs ≡ true
true_within size [] [] h = refl
true_within size [] (x ∷ xs) h = absurd h
true_within size (s ∷ sorts) [] h = absurd h
true_within size (s ∷ sorts) (x ∷ xs) h = and_from (ltb x (size s)) (is_within size sorts xs) (lt-ltb x (size s) h.0) (true_within size sorts xs h.1)

-- stable by all quadruples, those outside the universe too
pub record IsStableAnywhere (spec : Spec) (e o : Inst) : Type 0 where
  pub keeps : (q : Moment → Truths) → IsQuadrupleOf spec (inst_sets spec e) (inst_sets spec o) q
      → ((m : Moment) (c : Clause) → before_both m ≡ true → Contains spec.clauses c → Holds spec (q m) c)
      → (c : Clause) → Contains spec.clauses c → c.mask ≡ false → Holds spec (q Both) c
  pub agrees : (p : ℕ) (xs : List ℕ) (v : Bool) → is_locked spec p ≡ true → Within (size_of spec) (pred_at spec p).sorts xs → inst_sets spec e p xs ≡ Some v → inst_sets spec o p xs ≢ Some (not v)

-- the quadruple on the universe, the winning value elsewhere
abbrev inside : Spec → (Moment → Truths) → Moment → Truths
inside spec q m p xs = cond (is_within (size_of spec) (pred_at spec p).sorts xs) (q m p xs) (wins spec p)

all_wins : (w : Bool) (m : Moment) (e : Entry) → Reads w (λ k. w) m e
all_wins w m (Same k) = refl
all_wins w m Always = refl

each_wins : (w : Bool) (rs : List Rise) → AllByRecursion (λ r. w ≡ w → w ≡ w) rs
each_wins w [] = tt
each_wins w (r ∷ rs) = ((λ h. h), each_wins w rs)

winning_row : (w : Bool) (a b : Touch) → IsRow w a b (λ m. w)
winning_row w a b = record { entries = λ m. all_wins w m (entry a b m); rising = each_wins w (rises a b) }

inside_row : (spec : Spec) (e o : Inst) (q : Moment → Truths) → IsQuadruple spec e o q → IsQuadrupleOf spec (inst_sets spec e) (inst_sets spec o) (inside spec q)
inside_row spec e o q h p xs = by_place (is_within (size_of spec) (pred_at spec p).sorts xs) refl
  where
    by_place : (i : Bool) → is_within (size_of spec) (pred_at spec p).sorts xs ≡ i
        → IsRow (wins spec p) (touch_of (wins spec p) (inst_sets spec e p xs)) (touch_of (wins spec p) (inst_sets spec o p xs)) (λ m. cond i (q m p xs) (wins spec p))
    by_place true is = h p xs (within_true (size_of spec) (pred_at spec p).sorts xs is)
    by_place false is = winning_row (wins spec p) (touch_of (wins spec p) (inst_sets spec e p xs)) (touch_of (wins spec p) (inst_sets spec o p xs))

get_within : (size : ℕ → ℕ) (sorts xs : List ℕ) (v : ℕ) → Within size sorts xs → v < length sorts → get_or xs v 0 < size (get_or sorts v 0)
get_within size [] xs v w lt = absurd (omega arith)
get_within size (s ∷ sorts) [] v w lt = absurd w
get_within size (s ∷ sorts) (x ∷ xs) zero w lt = w.0
get_within size (s ∷ sorts) (x ∷ xs) (suc v) w lt = get_within size sorts xs v w.1 (omega arith)

values_within : (size : ℕ → ℕ) (sorts xs vars places : List ℕ) → Within size sorts xs → AllZip (PlaceFits sorts) vars places → Within size places (values xs vars)
values_within size sorts xs [] [] w fits = tt
values_within size sorts xs [] (p ∷ places) w fits = absurd fits
values_within size sorts xs (v ∷ vars) [] w fits = absurd fits
values_within size sorts xs (v ∷ vars) (p ∷ places) w fits =
    (subst (λ s. get_or xs v 0 < size s) fits.0.sort_is (get_within size sorts xs v w fits.0.within), values_within size sorts xs vars places w fits.1)

literal_inside : (spec : Spec) (q : Moment → Truths) (m : Moment) (sorts xs : List ℕ) (sign : Bool) (l : Literal) → Within (size_of spec) sorts xs → LiteralFits spec sorts l
    → literal_true (inside spec q m) xs sign l ≡ literal_true (q m) xs sign l
literal_inside spec q m sorts xs sign (Atom p vars) w fits =
    ap (λ b. beq (cond b (q m p (values xs vars)) (wins spec p)) sign) (true_within (size_of spec) (pred_at spec p).sorts (values xs vars) (values_within (size_of spec) sorts xs vars (pred_at spec p).sorts w fits.1))
literal_inside spec q m sorts xs sign (Equal l r) w fits = refl

instance_inside : (spec : Spec) (q : Moment → Truths) (m : Moment) (c : Clause) (xs : List ℕ) → Within (size_of spec) (var_sorts c) xs → ClauseFits spec c → instance_true (inside spec q m) xs c ≡ instance_true (q m) xs c
instance_inside spec q m c xs w fits =
    any_same (signed_true (inside spec q m) xs) (signed_true (q m) xs) (literals c)
    (each_weaker (λ l. LiteralFits spec (var_sorts c) l.literal) (λ l. signed_true (inside spec q m) xs l ≡ signed_true (q m) xs l) (literals c) (λ l f. literal_inside spec q m (var_sorts c) xs l.sign l.literal w f) fits.literals_fit)

by_moment : (spec : Spec) (q : Moment → Truths) → ClausesHold spec (q Start) → ClausesHold spec (q First) → ClausesHold spec (q Second)
    → (m : Moment) (c : Clause) → before_both m ≡ true → Contains spec.clauses c → Holds spec (q m) c
by_moment spec q h0 h1 h2 Start c b is = h0 c is
by_moment spec q h0 h1 h2 First c b is = h1 c is
by_moment spec q h0 h1 h2 Second c b is = h2 c is
by_moment spec q h0 h1 h2 Both c b is = absurd (true≢false (sym b))

pub within_stable : (spec : Spec) (e o : Inst) → IsWellFormed spec → IsStableAnywhere spec e o → IsStable spec e o
within_stable spec e o wf stable = record {
  keeps = λ q quad h0 h1 h2 c known unmasked xs w.
      let fits : (d : Clause) → Contains spec.clauses d → ClauseFits spec d = λ d is. among_each (ClauseFits spec) d spec.clauses wf.clauses (among_from_contains spec.clauses d is) in
      sym (instance_inside spec q Both c xs w (fits c known))
      ∙ stable.keeps (inside spec q) (inside_row spec e o q quad)
      (λ m d b is ys v. instance_inside spec q m d ys v (fits d is) ∙ by_moment spec q h0 h1 h2 m d b is ys v) c known unmasked xs w;
  agrees = stable.agrees;
}

-- ---- in the other order

abbrev swapped : Moment → Moment
swapped Start = Start
swapped First = Second
swapped Second = First
swapped Both = Both

abbrev swap_entry : Entry → Entry
swap_entry (Same k) = Same (swapped k)
swap_entry Always = Always

entry_swapped : (a b : Touch) (m : Moment) → entry b a (swapped m) ≡ swap_entry (entry a b m)
entry_swapped a b Start = refl
entry_swapped Leaves b First = refl
entry_swapped Wins b First = refl
entry_swapped Loses b First = refl
entry_swapped a Leaves Second = refl
entry_swapped a Wins Second = refl
entry_swapped a Loses Second = refl
entry_swapped Leaves Leaves Both = refl
entry_swapped Leaves Loses Both = refl
entry_swapped Loses Leaves Both = refl
entry_swapped Loses Loses Both = refl
entry_swapped Leaves Wins Both = refl
entry_swapped Wins Leaves Both = refl
entry_swapped Wins Wins Both = refl
entry_swapped Wins Loses Both = refl
entry_swapped Loses Wins Both = refl

reads_swapped : (w : Bool) (t : Moment → Bool) (m : Moment) (e : Entry) → Reads w t (swapped m) (swap_entry e) → Reads w (λ k. t (swapped k)) m e
reads_swapped w t m (Same k) h = h
reads_swapped w t m Always h = h

rises_swapped : (w : Bool) (t : Moment → Bool) (a b : Touch) → AllByRecursion (λ r. t r.from ≡ w → t r.to ≡ w) (rises b a) → AllByRecursion (λ r. t (swapped r.from) ≡ w → t (swapped r.to) ≡ w) (rises a b)
rises_swapped w t Wins Loses h = h
rises_swapped w t Loses Wins h = h
rises_swapped w t Loses Leaves h = h
rises_swapped w t Leaves Loses h = h
rises_swapped w t Loses Loses h = (h.1.0, (h.0, (h.1.1.1.0, (h.1.1.0, tt))))
rises_swapped w t Leaves Leaves h = h
rises_swapped w t Leaves Wins h = h
rises_swapped w t Wins Leaves h = h
rises_swapped w t Wins Wins h = h

row_swapped : (w : Bool) (a b : Touch) (t : Moment → Bool) → IsRow w b a t → IsRow w a b (λ m. t (swapped m))
row_swapped w a b t row = record {
  entries = λ m. reads_swapped w t m (entry a b m) (subst (Reads w t (swapped m)) (entry_swapped a b m) (row.entries (swapped m)));
  rising = rises_swapped w t a b row.rising;
}

not_not : (v : Bool) → not (not v) ≡ v
not_not true = refl
not_not false = refl

pub other_order : (spec : Spec) (e o : Inst) → IsStable spec e o → IsStable spec o e
other_order spec e o stable = record {
  keeps = λ q quad h0 h1 h2. stable.keeps (λ m. q (swapped m))
      (λ p xs w. row_swapped (wins spec p) (touch_of (wins spec p) (inst_sets spec e p xs)) (touch_of (wins spec p) (inst_sets spec o p xs)) (λ m. q m p xs) (quad p xs w))
      h0 h2 h1;
  agrees = λ p xs v locked w x y. stable.agrees p xs (not v) locked w y (x ∙ ap (λ b. Some b) (sym (not_not v)));
}
