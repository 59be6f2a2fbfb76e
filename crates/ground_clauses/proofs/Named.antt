-- What names change: touched atoms, rows and instances of clauses.
use Rattle.std.proofs.Common.{◌≡◌, inl, inr, ℕ, zero, suc, ◌<◌, Bool, true, false, ◌&&◌, cond, eqb, List, [], ◌∷◌, length, get_or, refl, sym, ap, subst, ◌∙◌, arith}
use Rattle.std.specs.Prelude.{Some, None, Option}
use Rattle.std.specs.List.{AllByRecursion, AllZip}
use mathlib.Core.Bool.{beq}
use Rattle.std.proofs.lemmas.Bool.{cases_Bool, eqb-true, eqb-false, eq-eqb, ne_eqb}
use Rattle.ground_clauses.proofs.Lists.{any_same, each_weaker}
use Rattle.ground_clauses.specs.Laws.{IsQuadrupleOf, names}
use Rattle.ground_clauses.specs.Query.{Sets}
use Rattle.spec_model.specs.Fits.{ClauseFits, LineFits, LiteralFits, PlaceFits, TermFits}
use Rattle.spec_model.specs.Stable.{IsRow, touch_of}
use Rattle.spec_model.specs.Truths.{Truths, Within, instance_true, line_sets, lines_set, literal_true, literals, or_else, pred_at, set_where, signed_true, sort_of, term_has, terms_touch, values, var_sorts, wins}
use Rattle.spec_model.specs.declared.clause.Clause.{Clause}
use Rattle.spec_model.specs.declared.clause.Literal.{Literal}
use Rattle.spec_model.specs.declared.clause.Literal.TheVariants.{Atom, Equal}
use Rattle.spec_model.specs.declared.clause.Var.{Var}
use Rattle.spec_model.specs.declared.operation.Line.{Line}
use Rattle.spec_model.specs.declared.operation.Line.TheVariants.{Add, Clear, Set, Sub}
use Rattle.spec_model.specs.declared.operation.Term.{Term}
use Rattle.spec_model.specs.declared.operation.Term.TheVariants.{Every, Param}
use Rattle.spec_model.specs.declared.spec.Spec.{Spec}
use Rattle.spec_model.specs.declared.state.Moment.{Moment}

term_named : (n : ℕ → ℕ → ℕ) (params : List Var) (has' has : ℕ → ℕ → Bool) (t : Term) (s c : ℕ) → ((i c : ℕ) → has' i c ≡ has i (n (sort_of params i) c)) → TermFits params t s → term_has has' t c ≡ term_has has t (n s c)
term_named n params has' has (Param i) s c h fits = h i c ∙ ap (λ z. has i (n z c)) fits.1
term_named n params has' has Every s c h fits = refl

terms_named : (n : ℕ → ℕ → ℕ) (params : List Var) (has' has : ℕ → ℕ → Bool) (terms : List Term) (sorts cs : List ℕ) → ((i c : ℕ) → has' i c ≡ has i (n (sort_of params i) c)) → AllZip (TermFits params) terms sorts
    → terms_touch has' terms cs ≡ terms_touch has terms (names n sorts cs)
terms_named n params has' has [] [] [] h fits = refl
terms_named n params has' has [] [] (c ∷ cs) h fits = refl
terms_named n params has' has [] (s ∷ sorts) cs h fits = absurd fits
terms_named n params has' has (t ∷ terms) [] cs h fits = absurd fits
terms_named n params has' has (t ∷ terms) (s ∷ sorts) [] h fits = refl
terms_named n params has' has (t ∷ terms) (s ∷ sorts) (c ∷ cs) h fits =
    ap (λ b. b && terms_touch has' terms cs) (term_named n params has' has t s c h fits.0)
    ∙ ap (λ b. term_has has t (n s c) && b) (terms_named n params has' has terms sorts cs h fits.1)

set_named : (spec : Spec) (n : ℕ → ℕ → ℕ) (params : List Var) (has' has : ℕ → ℕ → Bool) (v : Bool) (r : ℕ) (terms : List Term) (p : ℕ) (cs : List ℕ) → ((i c : ℕ) → has' i c ≡ has i (n (sort_of params i) c)) → AllZip (TermFits params) terms (pred_at spec r).sorts
    → set_where has' p cs v r terms ≡ set_where has p (names n (pred_at spec p).sorts cs) v r terms
set_named spec n params has' has v r terms p cs h fits = elim (cases_Bool (eqb p r)) [
  | inl is ↦ ap (λ b. cond (eqb p r && b) (Some v) None)
      (subst (λ z. terms_touch has' terms cs ≡ terms_touch has terms (names n (pred_at spec z).sorts cs)) (sym (eqb-true p r is))
      (terms_named n params has' has terms (pred_at spec r).sorts cs h fits))
  | inr other ↦ ap (λ b. cond (b && terms_touch has' terms cs) (Some v) None) other ∙ sym (ap (λ b. cond (b && terms_touch has terms (names n (pred_at spec p).sorts cs)) (Some v) None) other)
]

line_named : (spec : Spec) (n : ℕ → ℕ → ℕ) (params : List Var) (has' has : ℕ → ℕ → Bool) (l : Line) (p : ℕ) (cs : List ℕ) → ((i c : ℕ) → has' i c ≡ has i (n (sort_of params i) c)) → LineFits spec params l
    → line_sets has' p cs l ≡ line_sets has p (names n (pred_at spec p).sorts cs) l
line_named spec n params has' has (Set r terms) p cs h fits = set_named spec n params has' has true r terms p cs h fits.1
line_named spec n params has' has (Clear r terms) p cs h fits = set_named spec n params has' has false r terms p cs h fits.1
line_named spec n params has' has (Add r args amount) p cs h fits = refl
line_named spec n params has' has (Sub r args amount) p cs h fits = refl

pub lines_named : (spec : Spec) (n : ℕ → ℕ → ℕ) (params : List Var) (has' has : ℕ → ℕ → Bool) (lines : List Line) (p : ℕ) (cs : List ℕ) → ((i c : ℕ) → has' i c ≡ has i (n (sort_of params i) c)) → AllByRecursion (LineFits spec params) lines
    → lines_set has' lines p cs ≡ lines_set has lines p (names n (pred_at spec p).sorts cs)
lines_named spec n params has' has [] p cs h fits = refl
lines_named spec n params has' has (l ∷ lines) p cs h fits =
    ap (λ o. or_else o (line_sets has' p cs l)) (lines_named spec n params has' has lines p cs h fits.1)
    ∙ ap (λ o. or_else (lines_set has lines p (names n (pred_at spec p).sorts cs)) o) (line_named spec n params has' has l p cs h fits.0)

-- the truths at the named elements
abbrev pub renamed : Spec → (ℕ → ℕ → ℕ) → (Moment → Truths) → Moment → Truths
renamed spec n q m p cs = q m p (names n (pred_at spec p).sorts cs)

pub renamed_row : (spec : Spec) (n : ℕ → ℕ → ℕ) (sets : Sets) (a b : ℕ → List ℕ → Option Bool) (q : Moment → Truths)
    → ((p : ℕ) (cs : List ℕ) → sets.one p cs ≡ a p (names n (pred_at spec p).sorts cs))
    → ((p : ℕ) (cs : List ℕ) → sets.other p cs ≡ b p (names n (pred_at spec p).sorts cs))
    → IsQuadrupleOf spec a b q → IsQuadrupleOf spec sets.one sets.other (renamed spec n q)
renamed_row spec n sets a b q one other row p cs =
    subst (λ x. IsRow (wins spec p) (touch_of (wins spec p) x) (touch_of (wins spec p) (sets.other p cs)) (λ m. renamed spec n q m p cs)) (sym (one p cs))
    (subst (λ y. IsRow (wins spec p) (touch_of (wins spec p) (a p (names n (pred_at spec p).sorts cs))) (touch_of (wins spec p) y) (λ m. renamed spec n q m p cs)) (sym (other p cs))
    (row p (names n (pred_at spec p).sorts cs)))

-- ---- instances of clauses

pub names-get : (n : ℕ → ℕ → ℕ) (bound : ℕ → ℕ) (sorts cs : List ℕ) (v : ℕ) → Within bound sorts cs → v < length sorts → get_or (names n sorts cs) v 0 ≡ n (get_or sorts v 0) (get_or cs v 0)
names-get n bound [] cs v w lt = absurd (omega arith)
names-get n bound (s ∷ sorts) [] v w lt = absurd w
names-get n bound (s ∷ sorts) (c ∷ cs) zero w lt = refl
names-get n bound (s ∷ sorts) (c ∷ cs) (suc v) w lt = names-get n bound sorts cs v w.1 (omega arith)

values_named : (n : ℕ → ℕ → ℕ) (bound : ℕ → ℕ) (sorts cs : List ℕ) (vars places : List ℕ) → Within bound sorts cs → AllZip (PlaceFits sorts) vars places → values (names n sorts cs) vars ≡ names n places (values cs vars)
values_named n bound sorts cs [] [] w fits = refl
values_named n bound sorts cs [] (p ∷ places) w fits = absurd fits
values_named n bound sorts cs (v ∷ vars) [] w fits = absurd fits
values_named n bound sorts cs (v ∷ vars) (p ∷ places) w fits =
    ap (λ x. x ∷ values (names n sorts cs) vars) (names-get n bound sorts cs v w fits.0.within ∙ ap (λ s. n s (get_or cs v 0)) fits.0.sort_is)
    ∙ ap (λ xs. n p (get_or cs v 0) ∷ xs) (values_named n bound sorts cs vars places w fits.1)

pub eqb_named : (f : ℕ → ℕ) (c d : ℕ) → ((c d : ℕ) → f c ≡ f d → c ≡ d) → eqb c d ≡ eqb (f c) (f d)
eqb_named f c d once = elim (cases_Bool (eqb c d)) [
  | inl is ↦ is ∙ sym (eq-eqb (f c) (f d) (ap f (eqb-true c d is)))
  | inr other ↦ other ∙ sym (ne_eqb (f c) (f d) (λ e. eqb-false c d other (once c d e)))
]

literal_named : (spec : Spec) (n : ℕ → ℕ → ℕ) (bound : ℕ → ℕ) (q : Moment → Truths) (m : Moment) (sorts cs : List ℕ) (sign : Bool) (l : Literal)
    → ((s c d : ℕ) → n s c ≡ n s d → c ≡ d) → Within bound sorts cs → LiteralFits spec sorts l
    → literal_true (renamed spec n q m) cs sign l ≡ literal_true (q m) (names n sorts cs) sign l
literal_named spec n bound q m sorts cs sign (Atom p vars) once w fits =
    ap (λ xs. beq (q m p xs) sign) (sym (values_named n bound sorts cs vars (pred_at spec p).sorts w fits.1))
literal_named spec n bound q m sorts cs sign (Equal l r) once w fits =
    let left : get_or (names n sorts cs) l 0 ≡ n (get_or sorts r 0) (get_or cs l 0) = names-get n bound sorts cs l w fits.0.within ∙ ap (λ s. n s (get_or cs l 0)) fits.0.sort_is in
    let right : get_or (names n sorts cs) r 0 ≡ n (get_or sorts r 0) (get_or cs r 0) = names-get n bound sorts cs r w fits.1 in
    ap (λ b. beq b sign) (eqb_named (n (get_or sorts r 0)) (get_or cs l 0) (get_or cs r 0) (once (get_or sorts r 0))
    ∙ ap (λ x. eqb x (n (get_or sorts r 0) (get_or cs r 0))) (sym left) ∙ ap (λ y. eqb (get_or (names n sorts cs) l 0) y) (sym right))

pub instance_named : (spec : Spec) (n : ℕ → ℕ → ℕ) (bound : ℕ → ℕ) (q : Moment → Truths) (m : Moment) (c : Clause) (cs : List ℕ)
    → ((s c d : ℕ) → n s c ≡ n s d → c ≡ d) → Within bound (var_sorts c) cs → ClauseFits spec c
    → instance_true (renamed spec n q m) cs c ≡ instance_true (q m) (names n (var_sorts c) cs) c
instance_named spec n bound q m c cs once w fits =
    any_same (signed_true (renamed spec n q m) cs) (signed_true (q m) (names n (var_sorts c) cs)) (literals c)
    (each_weaker (λ l. LiteralFits spec (var_sorts c) l.literal) (λ l. signed_true (renamed spec n q m) cs l ≡ signed_true (q m) (names n (var_sorts c) cs) l) (literals c)
    (λ l f. literal_named spec n bound q m (var_sorts c) cs l.sign l.literal once w f) fits.literals_fit)

-- names within one bound are within another
pub names_within : (n : ℕ → ℕ → ℕ) (bound size : ℕ → ℕ) (sorts cs : List ℕ) → ((s c : ℕ) → c < bound s → n s c < size s) → Within bound sorts cs → Within size sorts (names n sorts cs)
names_within n bound size [] [] f w = tt
names_within n bound size [] (c ∷ cs) f w = absurd w
names_within n bound size (s ∷ sorts) [] f w = absurd w
names_within n bound size (s ∷ sorts) (c ∷ cs) f w = (f s c w.0, names_within n bound size sorts cs f w.1)
