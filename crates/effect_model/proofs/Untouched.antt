-- Where no line touches anything behind some elements.
use Rattle.std.proofs.Common.{◌≡◌, ℕ, Bool, true, false, ◌&&◌, ◌||◌, if◌then◌else◌, List, [], ◌∷◌, ◌++◌, refl, ap, ◌∙◌, arith, Some, None, ◌-◌}
use Rattle.std.specs.List.{list_any, sum_by}
use Rattle.std.specs.Str.{bytes_eq as equal_numbers}
use Rattle.std.proofs.lemmas.List.Sums.{sum_by-cons}
use Rattle.std.specs.Prelude.{◌==◌}
use Rattle.spec_model.specs.declared.instance.Inst.{Inst}
use Rattle.spec_model.specs.declared.instance.Cell.{Cell}
use Rattle.spec_model.specs.declared.operation.Line.{Line}
use Rattle.spec_model.specs.declared.operation.Line.TheVariants.{Set, Clear, Add, Sub}
use Rattle.spec_model.specs.declared.operation.Term.{Term}
use Rattle.spec_model.specs.declared.right.Right.TheVariants as right
use Rattle.spec_model.specs.Truths.{terms_touch, term_has, line_sets, lines_set, inst_has}
use Rattle.spec_model.specs.Changes.{line_adds, line_subtracts, elements_at}
use Rattle.effect_model.specs.Touching.{terms_begin, begins_with, line_may_set, line_may_change}
use Rattle.effect_model.specs.Effects.{with_truth, with_net}
use Rattle.effect_model.specs.Turns.{atoms_set_by, cells_changed_by, where_bounded, count_need, cell_needs}

-- tests that fail
and_fails : (a b c : Bool) → (b ≡ false → c ≡ false) → (a && b) ≡ false → (a && c) ≡ false
and_fails true b c f e = f e
and_fails false b c f e = refl

none_left : (a b : Bool) → (a || b) ≡ false → a ≡ false
none_left true b e = absurd cc
none_left false b e = refl

none_right : (a b : Bool) → (a || b) ≡ false → b ≡ false
none_right true b e = absurd cc
none_right false b e = e

-- what doesn't begin so isn't touched
untouched : (has : ℕ → ℕ → Bool) (terms : List Term) (front xs : List ℕ) → terms_begin has terms front ≡ false → terms_touch has terms (front ++ xs) ≡ false
untouched has terms [] xs e = absurd cc
untouched has [] (x ∷ front) xs e = refl
untouched has (t ∷ terms) (x ∷ front) xs e = and_fails (term_has has t x) (terms_begin has terms front) (terms_touch has terms (front ++ xs)) (untouched has terms front xs) e

unequal : (numbers front xs : List ℕ) → begins_with numbers front ≡ false → equal_numbers numbers (front ++ xs) ≡ false
unequal numbers [] xs e = absurd cc
unequal [] (y ∷ front) xs e = refl
unequal (n ∷ numbers) (y ∷ front) xs e = and_fails (n == y) (begins_with numbers front) (equal_numbers numbers (front ++ xs)) (unequal numbers front xs) e

not_then : {X : Type 0} (b : Bool) (x y : X) → b ≡ false → (if b then x else y) ≡ y
not_then true x y e = absurd cc
not_then false x y e = refl

line_unset : (inst : Inst) (p : ℕ) (front xs : List ℕ) (line : Line) → line_may_set inst p front line ≡ false → line_sets (inst_has inst) p (front ++ xs) line ≡ None
line_unset inst p front xs (Set q terms) e = not_then _ (Some true) None (and_fails (p == q) (terms_begin (inst_has inst) terms front) (terms_touch (inst_has inst) terms (front ++ xs)) (untouched (inst_has inst) terms front xs) e)
line_unset inst p front xs (Clear q terms) e = not_then _ (Some false) None (and_fails (p == q) (terms_begin (inst_has inst) terms front) (terms_touch (inst_has inst) terms (front ++ xs)) (untouched (inst_has inst) terms front xs) e)
line_unset inst p front xs (Add n params amount) e = refl
line_unset inst p front xs (Sub n params amount) e = refl

pub lines_unset : (inst : Inst) (p : ℕ) (front xs : List ℕ) (lines : List Line) → list_any (line_may_set inst p front) lines ≡ false → lines_set (inst_has inst) lines p (front ++ xs) ≡ None
lines_unset inst p front xs [] e = refl
lines_unset inst p front xs (l ∷ lines) e =
    let here = line_unset inst p front xs l (none_left (line_may_set inst p front l) (list_any (line_may_set inst p front) lines) e) in
    let rest = lines_unset inst p front xs lines (none_right (line_may_set inst p front l) (list_any (line_may_set inst p front) lines) e) in
    rw (rest, here) refl

pub nothing_set : (inst : Inst) (p : ℕ) (front xs : List ℕ) (lines : List Line) → list_any (line_may_set inst p front) lines ≡ false → atoms_set_by inst lines p (front ++ xs) ≡ []
nothing_set inst p front xs lines e = ap (with_truth _) (lines_unset inst p front xs lines e)

-- the cell of a number at some elements
abbrev cell_at : ℕ → List ℕ → Cell
cell_at n xs = record { num = n; args = xs }

line_same : (inst : Inst) (n : ℕ) (front xs : List ℕ) (line : Line) → line_may_change inst n front line ≡ false → (line_adds inst (cell_at n (front ++ xs)) line ≡ 0) × (line_subtracts inst (cell_at n (front ++ xs)) line ≡ 0)
line_same inst n front xs (Set q terms) e = (refl, refl)
line_same inst n front xs (Clear q terms) e = (refl, refl)
line_same inst n front xs (Add m params amount) e =
    (not_then _ amount 0 (and_fails (m == n) (begins_with (elements_at inst.args params) front) (equal_numbers (elements_at inst.args params) (front ++ xs)) (unequal (elements_at inst.args params) front xs) e), refl)
line_same inst n front xs (Sub m params amount) e =
    (refl, not_then _ amount 0 (and_fails (m == n) (begins_with (elements_at inst.args params) front) (equal_numbers (elements_at inst.args params) (front ++ xs)) (unequal (elements_at inst.args params) front xs) e))

pub lines_same : (inst : Inst) (n : ℕ) (front xs : List ℕ) (lines : List Line) → list_any (line_may_change inst n front) lines ≡ false
    → (sum_by (line_adds inst (cell_at n (front ++ xs))) lines ≡ 0) × (sum_by (line_subtracts inst (cell_at n (front ++ xs))) lines ≡ 0)
lines_same inst n front xs [] e = (refl, refl)
lines_same inst n front xs (l ∷ lines) e =
    let here = line_same inst n front xs l (none_left (line_may_change inst n front l) (list_any (line_may_change inst n front) lines) e) in
    let rest = lines_same inst n front xs lines (none_right (line_may_change inst n front l) (list_any (line_may_change inst n front) lines) e) in
    (omega (arith, here.0, rest.0, sum_by-cons (line_adds inst (cell_at n (front ++ xs))) l lines), omega (arith, here.1, rest.1, sum_by-cons (line_subtracts inst (cell_at n (front ++ xs))) l lines))

pub nothing_changed : (inst : Inst) (n : ℕ) (front xs : List ℕ) (lines : List Line) → list_any (line_may_change inst n front) lines ≡ false → cells_changed_by inst lines n (front ++ xs) ≡ []
nothing_changed inst n front xs lines e =
    let same = lines_same inst n front xs lines e in
    ap (λ k. with_net (cell_at n (front ++ xs)) k (sum_by (line_subtracts inst (cell_at n (front ++ xs))) lines)) same.0 ∙ ap (with_net (cell_at n (front ++ xs)) 0) same.1

none_bounded : (b : Bool) → where_bounded b 0 ≡ 0
none_bounded true = refl
none_bounded false = refl

pub nothing_needed : (inst : Inst) (n : ℕ) (front xs : List ℕ) (lines : List Line) (low high : Bool) → list_any (line_may_change inst n front) lines ≡ false → cell_needs inst lines low high (cell_at n (front ++ xs)) ≡ []
nothing_needed inst n front xs lines low high e =
    let same = lines_same inst n front xs lines e in
    let cell = cell_at n (front ++ xs) in
    ap (λ k. count_need (right.Low cell) (where_bounded low (sum_by (line_subtracts inst cell) lines - k)) ++ count_need (right.High cell) (where_bounded high (k - sum_by (line_subtracts inst cell) lines))) same.0
    ∙ ap (λ k. count_need (right.Low cell) (where_bounded low (k - 0)) ++ count_need (right.High cell) (where_bounded high (0 - k))) same.1
    ∙ ap (λ k. count_need (right.Low cell) k ++ count_need (right.High cell) (where_bounded high 0)) (none_bounded low)
    ∙ ap (λ k. count_need (right.High cell) k) (none_bounded high)
