-- Broken instances are looked for only where an effect may make a literal of the clause false.
use Rattle.std.proofs.Common.{◌≡◌, ◌⊎◌, inl, inr, ℕ, zero, suc, ◌+◌, ◌-◌, ◌<◌, ◌≤◌, max, subst, take, Bool, true, false, not, ◌&&◌, ◌||◌, List, [], ◌∷◌, ◌++◌, map, drop, length, get_or, is_some, if◌then◌else◌, refl, sym, ap, ◌∙◌, arith, Option, Some, None}
use Rattle.std.specs.List.{list_any, find, slice_get}
use Rattle.std.specs.Option.{option_map_or}
use Rattle.std.proofs.lemmas.List.{drop_more, get_or_append_left, take_all}
use Rattle.std.proofs.lemmas.Bool.{cases_lt}
use Rattle.std.proofs.Math.Nat.{max-eq_left, max-eq_right}
use Rattle.std.proofs.lemmas.List.Folds.{list_any-append}
use Rattle.std.specs.Prelude.{◌==◌}
use mathlib.Core.Bool.{beq}
use Rattle.std.proofs.lemmas.Option.{slice_get_within, get_or_from_slice_get}
use Rattle.spec_model.specs.declared.clause.Clause.{Clause}
use Rattle.spec_model.specs.declared.clause.Literal.{Literal}
use Rattle.spec_model.specs.declared.clause.Literal.TheVariants.{Atom, Equal}
use Rattle.spec_model.specs.declared.instance.Inst.{Inst}
use Rattle.spec_model.specs.declared.operation.Line.{Line}
use Rattle.spec_model.specs.declared.operation.Line.TheVariants.{Set, Clear, Add, Sub}
use Rattle.spec_model.specs.declared.spec.Spec.{Spec}
use Rattle.spec_model.specs.declared.operation.Term.{Term}
use Rattle.spec_model.specs.Truths.{Truths, terms_touch, term_has, line_sets, lines_set, or_else, inst_has, inst_sets, op_at, values, Signed, signed, signed_true, literal_true, literals}
use Rattle.spec_model.specs.Breaks.{literal_set, breaks_at, laid_over}
use Rattle.spec_model.specs.Masks.{atom_falsified, is_falsified, falsifies}
use Rattle.spec_model.specs.Universe.{tuples}
use Rattle.effect_model.specs.Pruning.{term_may, terms_may, line_may, literal_may, clause_may, tuples_behind}

-- too few variables for the terms
pub short_vars : (has : ℕ → ℕ → Bool) (front : List ℕ) (terms : List Term) (i : ℕ) (vars : List ℕ) → i < length terms → length vars < 1 → false ≡ terms_may has front (drop i terms) vars
short_vars has front [] i vars lt few = absurd (omega arith)
short_vars has front (t ∷ terms) zero [] lt few = refl
short_vars has front (t ∷ terms) zero (v ∷ vars) lt few = absurd (omega arith)
short_vars has front (t ∷ terms) (suc i) vars lt few = short_vars has front terms i vars (omega arith) few

-- literals of a clause, by its two sides
any_mapped : {X Y : Type 0} (p : Y → Bool) (f : X → Y) (xs : List X) → list_any p (map f xs) ≡ list_any (λ x. p (f x)) xs
any_mapped p f [] = refl
any_mapped p f (x ∷ xs) = ap (λ b. p (f x) || b) (any_mapped p f xs)

pub any_sides : (p : Signed → Bool) (c : Clause) → list_any p (literals c) ≡ (list_any (λ l. p (signed false l)) c.premise || list_any (λ l. p (signed true l)) c.conclusion)
any_sides p c =
    list_any-append p (map (signed false) c.premise) (map (signed true) c.conclusion)
    ∙ ap (λ b. b || list_any p (map (signed true) c.conclusion)) (any_mapped p (signed false) c.premise) ∙ ap (λ b. list_any (λ l. p (signed false l)) c.premise || b) (any_mapped p (signed true) c.conclusion)

-- the other side first
pub any_other_sides : (p : Signed → Bool) (c : Clause) → list_any p (literals c) ≡ (list_any (λ l. p (signed true l)) c.conclusion || list_any (λ l. p (signed false l)) c.premise)
any_other_sides p c = any_sides p c ∙ turned (list_any (λ l. p (signed false l)) c.premise) (list_any (λ l. p (signed true l)) c.conclusion)
  where
    turned : (a b : Bool) → (a || b) ≡ (b || a)
    turned true true = refl
    turned true false = refl
    turned false true = refl
    turned false false = refl

-- ---- where no line may make a literal of the clause false

both_fail : (a b c d : Bool) → (a ≡ false → c ≡ false) → (b ≡ false → d ≡ false) → (a && b) ≡ false → (c && d) ≡ false
both_fail false b c d f g e = ap (λ x. x && d) (f refl)
both_fail true b true d f g e = g e
both_fail true b false d f g e = refl

either_left : (a b : Bool) → (a || b) ≡ false → a ≡ false
either_left true b e = absurd cc
either_left false b e = refl

either_right : (a b : Bool) → (a || b) ≡ false → b ≡ false
either_right true b e = absurd cc
either_right false b e = e

term_misses : (has : ℕ → ℕ → Bool) (front xs : List ℕ) (t : Term) (v : ℕ) → term_may has front t v ≡ false → term_has has t (get_or (front ++ xs) v 0) ≡ false
unfolding term_may
term_misses has front xs t v e = by_element (slice_get front v) refl e
  where
    by_element : (o : Option ℕ) → slice_get front v ≡ o → option_map_or (term_has has t) o true ≡ false → term_has has t (get_or (front ++ xs) v 0) ≡ false
    by_element None is e = absurd cc
    by_element (Some x) is e =
        let same : get_or (front ++ xs) v 0 ≡ x = get_or_append_left front xs 0 v (slice_get_within front v x is) ∙ get_or_from_slice_get front v x 0 is in
        ap (term_has has t) same ∙ e

terms_miss : (has : ℕ → ℕ → Bool) (front xs : List ℕ) (terms : List Term) (vars : List ℕ) → terms_may has front terms vars ≡ false → terms_touch has terms (values (front ++ xs) vars) ≡ false
terms_miss has front xs [] [] e = absurd cc
terms_miss has front xs [] (v ∷ vars) e = refl
terms_miss has front xs (t ∷ terms) [] e = refl
terms_miss has front xs (t ∷ terms) (v ∷ vars) e =
    both_fail (term_may has front t v) (terms_may has front terms vars) (term_has has t (get_or (front ++ xs) v 0)) (terms_touch has terms (values (front ++ xs) vars)) (term_misses has front xs t v) (terms_miss has front xs terms vars) e

-- the effect doesn't give the atom the truth that makes a literal of this sign false
abbrev Agrees : Bool → Option Bool → Type 0
Agrees sign o = option_map_or (λ v. not (beq v sign)) o false ≡ false

kept_agrees : (sign b : Bool) → Agrees sign (if b then Some sign else None)
kept_agrees true true = refl
kept_agrees false true = refl
kept_agrees true false = refl
kept_agrees false false = refl

untouched_agrees : (sign v b : Bool) → b ≡ false → Agrees sign (if b then Some v else None)
untouched_agrees sign v true e = absurd cc
untouched_agrees sign v false e = refl

later_agrees : (sign : Bool) (a b : Option Bool) → Agrees sign a → Agrees sign b → Agrees sign (or_else a b)
later_agrees sign None b f g = g
later_agrees sign (Some v) b f g = f

line_agrees : (inst : Inst) (front xs : List ℕ) (sign : Bool) (p : ℕ) (vars : List ℕ) (line : Line) → line_may inst front sign p vars line ≡ false → Agrees sign (line_sets (inst_has inst) p (values (front ++ xs) vars) line)
line_agrees inst front xs true p vars (Set q terms) e = kept_agrees true (p == q && terms_touch (inst_has inst) terms (values (front ++ xs) vars))
line_agrees inst front xs false p vars (Set q terms) e = untouched_agrees false true _ (both_fail (p == q) (terms_may (inst_has inst) front terms vars) (p == q) (terms_touch (inst_has inst) terms (values (front ++ xs) vars)) (λ f. f) (terms_miss (inst_has inst) front xs terms vars) e)
line_agrees inst front xs true p vars (Clear q terms) e = untouched_agrees true false _ (both_fail (p == q) (terms_may (inst_has inst) front terms vars) (p == q) (terms_touch (inst_has inst) terms (values (front ++ xs) vars)) (λ f. f) (terms_miss (inst_has inst) front xs terms vars) e)
line_agrees inst front xs false p vars (Clear q terms) e = kept_agrees false (p == q && terms_touch (inst_has inst) terms (values (front ++ xs) vars))
line_agrees inst front xs sign p vars (Add n params amount) e = refl
line_agrees inst front xs sign p vars (Sub n params amount) e = refl

lines_agree : (inst : Inst) (front xs : List ℕ) (sign : Bool) (p : ℕ) (vars : List ℕ) (lines : List Line) → list_any (line_may inst front sign p vars) lines ≡ false → Agrees sign (lines_set (inst_has inst) lines p (values (front ++ xs) vars))
lines_agree inst front xs sign p vars [] e = refl
lines_agree inst front xs sign p vars (l ∷ lines) e =
    let may = line_may inst front sign p vars in
    later_agrees sign (lines_set (inst_has inst) lines p (values (front ++ xs) vars)) (line_sets (inst_has inst) p (values (front ++ xs) vars) l)
    (lines_agree inst front xs sign p vars lines (either_right (may l) (list_any may lines) e)) (line_agrees inst front xs sign p vars l (either_left (may l) (list_any may lines) e))

literal_agrees : (spec : Spec) (inst : Inst) (front xs : List ℕ) (sign : Bool) (l : Literal) → literal_may inst (op_at spec inst.op).lines front sign l ≡ false → atom_falsified spec inst (front ++ xs) sign l ≡ false
literal_agrees spec inst front xs sign (Atom p vars) e = lines_agree inst front xs sign p vars (op_at spec inst.op).lines e
literal_agrees spec inst front xs sign (Equal l r) e = refl

neither : (a b c d : Bool) → (a ≡ false → c ≡ false) → (b ≡ false → d ≡ false) → (a || b) ≡ false → (c || d) ≡ false
neither true b c d f g e = absurd cc
neither false b c d f g e = ap (λ x. x || d) (f refl) ∙ g e

literals_agree : (spec : Spec) (inst : Inst) (front xs : List ℕ) (sign : Bool) (ls : List Literal) → list_any (literal_may inst (op_at spec inst.op).lines front sign) ls ≡ false → list_any (atom_falsified spec inst (front ++ xs) sign) ls ≡ false
literals_agree spec inst front xs sign [] e = refl
literals_agree spec inst front xs sign (l ∷ ls) e =
    let may = literal_may inst (op_at spec inst.op).lines front sign in
    neither (may l) (list_any may ls) (atom_falsified spec inst (front ++ xs) sign l) (list_any (atom_falsified spec inst (front ++ xs) sign) ls) (literal_agrees spec inst front xs sign l) (literals_agree spec inst front xs sign ls) e

pub none_falsified : (spec : Spec) (inst : Inst) (c : Clause) (front xs : List ℕ) → clause_may inst (op_at spec inst.op).lines front c ≡ false → falsifies spec inst (front ++ xs) c ≡ false
none_falsified spec inst c front xs e =
    let may = literal_may inst (op_at spec inst.op).lines front in
    any_sides (is_falsified spec inst (front ++ xs)) c
    ∙ neither (list_any (may false) c.premise) (list_any (may true) c.conclusion) (list_any (atom_falsified spec inst (front ++ xs) false) c.premise) (list_any (atom_falsified spec inst (front ++ xs) true) c.conclusion)
    (literals_agree spec inst front xs false c.premise) (literals_agree spec inst front xs true c.conclusion) e

-- what the effect sets without making a literal false is true
set_true : (spec : Spec) (inst : Inst) (s : Truths) (xs : List ℕ) (sign : Bool) (l : Literal) → atom_falsified spec inst xs sign l ≡ false → (literal_set spec inst xs l && not (literal_true (laid_over spec inst s) xs sign l)) ≡ false
set_true spec inst s xs sign (Equal l r) e = refl
set_true spec inst s xs sign (Atom p vars) e = by_value (inst_sets spec inst p (values xs vars)) e
  where
    by_value : (o : Option Bool) → Agrees sign o → (is_some o && not (beq (option_map_or (λ v. v) o (s p (values xs vars))) sign)) ≡ false
    by_value None e = refl
    by_value (Some v) e = e

both_true : (a b c d : Bool) → (a && not b) ≡ false → (c && not d) ≡ false → ((a || c) && not (b || d)) ≡ false
both_true true true c d e f = refl
both_true true false c d e f = absurd cc
both_true false true true d e f = refl
both_true false true false d e f = refl
both_true false false c d e f = f

all_true : (spec : Spec) (inst : Inst) (s : Truths) (xs : List ℕ) (ls : List Signed) → list_any (is_falsified spec inst xs) ls ≡ false → (list_any (λ (l : Signed). literal_set spec inst xs l.literal) ls && not (list_any (signed_true (laid_over spec inst s) xs) ls)) ≡ false
all_true spec inst s xs [] e = refl
all_true spec inst s xs (l ∷ ls) e =
    let falsified = is_falsified spec inst xs in
    both_true (literal_set spec inst xs l.literal) (signed_true (laid_over spec inst s) xs l) (list_any (λ (k : Signed). literal_set spec inst xs k.literal) ls) (list_any (signed_true (laid_over spec inst s) xs) ls)
    (set_true spec inst s xs l.sign l.literal (either_left (falsified l) (list_any falsified ls) e)) (all_true spec inst s xs ls (either_right (falsified l) (list_any falsified ls) e))

clause_misses : (spec : Spec) (inst : Inst) (s : Truths) (c : Clause) (front xs : List ℕ) → clause_may inst (op_at spec inst.op).lines front c ≡ false → breaks_at spec inst s c (front ++ xs) ≡ false
clause_misses spec inst s c front xs e = all_true spec inst s (front ++ xs) (literals c) (none_falsified spec inst c front xs e)

pub find_none : (p : List ℕ → Bool) (f : List ℕ → List ℕ) (ts : List (List ℕ)) → ((xs : List ℕ) → p (f xs) ≡ false) → find p (map f ts) ≡ None
find_none p f [] none = refl
find_none p f (t ∷ ts) none = rw (none t) (find_none p f ts none)

pub none_broken : (spec : Spec) (inst : Inst) (s : Truths) (c : Clause) (front sizes : List ℕ) (lines : List Line) → lines ≡ (op_at spec inst.op).lines → clause_may inst lines front c ≡ false → None ≡ find (breaks_at spec inst s c) (tuples_behind front sizes)
none_broken spec inst s c front sizes lines is e =
    sym (find_none (breaks_at spec inst s c) (λ xs. front ++ xs) (tuples sizes) (λ xs. clause_misses spec inst s c front xs (sym (ap (λ (ls : List Line). clause_may inst ls front c) is) ∙ e)))

-- ---- the next element at which a line may

get_longer : (front xs : List ℕ) (v y : ℕ) → slice_get front v ≡ Some y → slice_get (front ++ xs) v ≡ Some y
get_longer [] xs v y e = absurd cc
get_longer (z ∷ front) xs zero y e = e
get_longer (z ∷ front) xs (suc v) y e = get_longer front xs v y e

get_next : (front : List ℕ) (x : ℕ) → slice_get (front ++ x ∷ []) (length front) ≡ Some x
get_next [] x = refl
get_next (y ∷ front) x = get_next front x

-- a term that doesn't have the next variable's element
pub next_lacks : (has : ℕ → ℕ → Bool) (front : List ℕ) (x : ℕ) (t : Term) (v : ℕ) → v ≡ length front → term_has has t x ≡ false → term_may has (front ++ x ∷ []) t v ≡ false
unfolding term_may
next_lacks has front x t v is e = ap (λ n. option_map_or (term_has has t) (slice_get (front ++ x ∷ []) n) true) is ∙ ap (λ o. option_map_or (term_has has t) o true) (get_next front x) ∙ e

-- what fails at some elements fails at more
pub term_longer : (has : ℕ → ℕ → Bool) (front xs : List ℕ) (t : Term) (v : ℕ) → term_may has front t v ≡ false → term_may has (front ++ xs) t v ≡ false
unfolding term_may
term_longer has front xs t v e = by_element (slice_get front v) refl e
  where
    by_element : (o : Option ℕ) → slice_get front v ≡ o → option_map_or (term_has has t) o true ≡ false → option_map_or (term_has has t) (slice_get (front ++ xs) v) true ≡ false
    by_element None is e = absurd cc
    by_element (Some x) is e = ap (λ o. option_map_or (term_has has t) o true) (get_longer front xs v x is) ∙ e

-- one more term with its variable
step : (has : ℕ → ℕ → Bool) (front : List ℕ) (terms : List Term) (i : ℕ) (d : Term) (left : List ℕ) → i < length terms → 1 ≤ length left
    → terms_may has front (drop i terms) left ≡ (term_may has front (get_or terms i d) (get_or left 0 0) && terms_may has front (drop (i + 1) terms) (take (length left - 1) (drop 1 left)))
step has front terms i d [] lt some = absurd (omega (arith, some))
step has front terms i d (v ∷ vars) lt some =
    let rest : take (length (v ∷ vars) - 1) vars ≡ vars = take_all (length (v ∷ vars) - 1) vars (omega arith) in
    ap (λ ts. terms_may has front ts (v ∷ vars)) (drop_more terms i d lt) ∙ ap (λ vs. term_may has front (get_or terms i d) v && terms_may has front (drop (i + 1) terms) vs) (sym rest)

pub rest_fails : (has : ℕ → ℕ → Bool) (front : List ℕ) (terms : List Term) (i : ℕ) (d : Term) (left : List ℕ) → i < length terms → 1 ≤ length left → terms_may has front (drop (i + 1) terms) (take (length left - 1) (drop 1 left)) ≡ false → terms_may has front (drop i terms) left ≡ false
rest_fails has front terms i d left lt some e =
    step has front terms i d left lt some ∙ second_fails (term_may has front (get_or terms i d) (get_or left 0 0)) (terms_may has front (drop (i + 1) terms) (take (length left - 1) (drop 1 left))) e
  where
    second_fails : (a b : Bool) → b ≡ false → (a && b) ≡ false
    second_fails true b e = e
    second_fails false b e = refl

pub term_fails : (has : ℕ → ℕ → Bool) (front : List ℕ) (terms : List Term) (i : ℕ) (d : Term) (left : List ℕ) → i < length terms → 1 ≤ length left → term_may has front (get_or terms i d) (get_or left 0 0) ≡ false → terms_may has front (drop i terms) left ≡ false
term_fails has front terms i d left lt some e =
    step has front terms i d left lt some ∙ ap (λ b. b && terms_may has front (drop (i + 1) terms) (take (length left - 1) (drop 1 left))) e

-- a number below the greater of two
pub below_max : (a b x : ℕ) → x < max a b → (x < a) ⊎ (x < b)
below_max a b x lt = elim (cases_lt a b) [
  | inl less ↦ inr (subst (λ m. x < m) (max-eq_right (omega (arith, less))) lt)
  | inr more ↦ inl (subst (λ m. x < m) (max-eq_left more) lt)
]
