-- Places of names that are declared.
use Rattle.std.proofs.Common.{◌≡◌, ℕ, zero, suc, ◌+◌, ◌<◌, ◌≤◌, Bool, true, false, cond, eqb, not, ◌||◌, List, [], ◌∷◌, length, map, get_or, refl, sym, ◌∙◌, arith}
use Rattle.std.specs.Str.{bytes_eq}
use Rattle.std.specs.List.{AllByRecursion, AllZip, list_all}
use Rattle.std.proofs.lemmas.Bool.{eqb-true}
use Rattle.std.proofs.lemmas.List.{length-map}
use Rattle.std.proofs.lemmas.List.Sums.{sum_by-cons}
use Rattle.std.specs.Prelude.{count_by, MatchBool}
use Rattle.line_text.proofs.Guards.{and_true, not_true}
use Rattle.spec_model.specs.declared.spec.Sort.{Sort}
use Rattle.spec_model.specs.declared.spec.Pred.{Pred}
use Rattle.spec_model.specs.declared.spec.Num.{Num}
use Rattle.spec_model.specs.declared.spec.Spec.{Spec}
use Rattle.spec_model.specs.declared.clause.Var.{Var}
use Rattle.spec_model.specs.declared.operation.Op.{Op}
use Rattle.spec_lines.specs.declared.item.NamedVar.{NamedVar}
use Rattle.spec_lines.specs.declared.item.NamedParam.{NamedParam}
use Rattle.spec_lines.specs.declared.item.NamedTerm.{NamedTerm}
use Rattle.spec_lines.specs.declared.item.NamedTerm.TheVariants as named_terms
use Rattle.spec_lines.specs.declared.line.NamedLiteral.{NamedLiteral}
use Rattle.spec_lines.specs.declared.line.NamedLiteral.TheVariants as named_literals
use Rattle.spec_language.specs.Names.{is_known, place_in}
use Rattle.spec_language.specs.Draft as drafts
use Rattle.spec_model.specs.Truths.{sort_of, no_var}
use Rattle.spec_model.specs.Fits.{PlaceFits, PlainFits, LiteralFits, TermFits, OneInterval}

nearer : (t : Bool) (n len : ℕ) (later : Bool) → (later ≡ true → n < len) → (t || later) ≡ true → cond t 0 (suc n) < suc len
nearer true n len later h e = omega arith
nearer false n len later h e =
    let lt = h e in
    omega arith

-- a name that is known has a place
pub known_place : {X : Type 0} → (name : X → List ℕ) (xs : List X) (w : List ℕ) → is_known name xs w ≡ true → place_in name xs w < length xs
known_place name [] w e = absurd cc
known_place name (x ∷ xs) w e = nearer (bytes_eq (name x) w) (place_in name xs w) (length xs) (is_known name xs w) (known_place name xs w) e

pub sort_below : (sorts : List Sort) (w : List ℕ) → drafts.is_sort sorts w ≡ true → drafts.sort_place sorts w < length sorts
unfolding drafts.is_sort drafts.sort_place
sort_below sorts w e = known_place (λ (x : Sort). x.name) sorts w e

pub sorts_below : (sorts : List Sort) (names : List (List ℕ)) → list_all (drafts.is_sort sorts) names ≡ true → AllByRecursion (λ (i : ℕ). i < length sorts) (map (drafts.sort_place sorts) names)
sorts_below sorts [] e = tt
sorts_below sorts (w ∷ ws) e =
    let h = and_true (drafts.is_sort sorts w) (list_all (drafts.is_sort sorts) ws) e in
    (sort_below sorts w h.0, sorts_below sorts ws h.1)

pub vars_below : (sorts : List Sort) (vars : List NamedVar) → list_all (drafts.is_var_known sorts) vars ≡ true → AllByRecursion (λ (v : Var). v.sort < length sorts) (map (drafts.var_of sorts) vars)
unfolding drafts.is_var_known drafts.var_of
vars_below sorts [] e = tt
vars_below sorts (v ∷ vs) e =
    let h = and_true (drafts.is_sort sorts v.sort) _ e in
    (sort_below sorts v.sort h.0, vars_below sorts vs h.1)

pub params_below : (sorts : List Sort) (params : List NamedParam) → list_all (drafts.is_param_known sorts) params ≡ true → AllByRecursion (λ (v : Var). v.sort < length sorts) (map (drafts.param_of sorts) params)
unfolding drafts.is_param_known drafts.param_of
params_below sorts [] e = tt
params_below sorts (v ∷ vs) e =
    let h = and_true (drafts.is_sort sorts v.sort) _ e in
    (sort_below sorts v.sort h.0, params_below sorts vs h.1)

place_sort : (t : Bool) (v : Var) (vars : List Var) (n s : ℕ) → sort_of vars n ≡ s → sort_of (v ∷ vars) (cond t 0 (suc n)) ≡ cond t v.sort s
place_sort true v vars n s e = refl
place_sort false v vars n s e = e

later_sort : (vars : List Var) (w : List ℕ) → sort_of vars (place_in (λ (x : Var). x.name) vars w) ≡ drafts.sort_of_var vars w
later_sort [] w = refl
later_sort (v ∷ vs) w = place_sort (bytes_eq v.name w) v vs (place_in (λ (x : Var). x.name) vs w) (drafts.sort_of_var vs w) (later_sort vs w)

-- the sort at a variable's place is the variable's sort
pub sort_at_place : (vars : List Var) (w : List ℕ) → sort_of vars (drafts.var_place vars w) ≡ drafts.sort_of_var vars w
unfolding drafts.var_place
sort_at_place vars w = later_sort vars w

place_interval : (t : Bool) (v : Var) (vars : List Var) (n : ℕ) (s : Bool) → (get_or vars n no_var).interval ≡ s → (get_or (v ∷ vars) (cond t 0 (suc n)) no_var).interval ≡ cond t v.interval s
place_interval true v vars n s e = refl
place_interval false v vars n s e = e

later_interval : (vars : List Var) (w : List ℕ) → (get_or vars (place_in (λ (x : Var). x.name) vars w) no_var).interval ≡ drafts.is_interval vars w
later_interval [] w = refl
later_interval (v ∷ vs) w = place_interval (bytes_eq v.name w) v vs (place_in (λ (x : Var). x.name) vs w) (drafts.is_interval vs w) (later_interval vs w)

interval_at_place : (vars : List Var) (w : List ℕ) → (get_or vars (drafts.var_place vars w) no_var).interval ≡ drafts.is_interval vars w
unfolding drafts.var_place
interval_at_place vars w = later_interval vars w

-- the sorts of all variables
abbrev pub sorts_among : List Var → List ℕ
sorts_among vars = map (λ v. v.sort) vars

sort_among : (vars : List Var) (i : ℕ) → get_or (sorts_among vars) i 0 ≡ sort_of vars i
sort_among [] i = refl
sort_among (v ∷ vs) zero = refl
sort_among (v ∷ vs) (suc i) = sort_among vs i

pub var_below : (vars : List Var) (w : List ℕ) → drafts.is_var vars w ≡ true → drafts.var_place vars w < length vars
unfolding drafts.is_var drafts.var_place
var_below vars w e = known_place (λ (x : Var). x.name) vars w e

place_fits : (vars : List Var) (w : List ℕ) (s : ℕ) → drafts.is_var vars w ≡ true → drafts.is_plain vars w s ≡ true → PlainFits vars (drafts.var_place vars w) s
unfolding drafts.is_plain
place_fits vars w s known fits =
    let h = and_true (eqb (drafts.sort_of_var vars w) s) (not (drafts.is_interval vars w)) fits in
    record { within = var_below vars w known; sort_is = sort_at_place vars w ∙ eqb-true (drafts.sort_of_var vars w) s h.0; plain = interval_at_place vars w ∙ not_true (drafts.is_interval vars w) h.1 }

-- names that fit are places that fit
pub places_fit : (vars : List Var) (names : List (List ℕ)) (sorts : List ℕ) → list_all (drafts.is_var vars) names ≡ true → drafts.fit_all (drafts.is_plain vars) names sorts ≡ true → AllZip (PlainFits vars) (map (drafts.var_place vars) names) sorts
places_fit vars [] [] known fits = tt
places_fit vars [] (s ∷ ss) known fits = absurd cc
places_fit vars (w ∷ ws) [] known fits = absurd cc
places_fit vars (w ∷ ws) (s ∷ ss) known fits =
    let h = and_true (drafts.is_var vars w) (list_all (drafts.is_var vars) ws) known in
    let k = and_true (drafts.is_plain vars w s) (drafts.fit_all (drafts.is_plain vars) ws ss) fits in
    (place_fits vars w s h.0 k.0, places_fit vars ws ss h.1 k.1)

place_among : (vars : List Var) (i s : ℕ) → i < length vars → sort_of vars i ≡ s → PlaceFits (sorts_among vars) i s
place_among vars i s lt is = record { within = rw (length-map vars (λ (v : Var). v.sort)) lt; sort_is = sort_among vars i ∙ is }

places_among : (vars : List Var) (is sorts : List ℕ) → AllZip (PlainFits vars) is sorts → AllZip (PlaceFits (sorts_among vars)) is sorts
places_among vars [] [] fits = tt
places_among vars [] (s ∷ ss) fits = absurd fits
places_among vars (i ∷ is) [] fits = absurd fits
places_among vars (i ∷ is) (s ∷ ss) fits = (place_among vars i s fits.0.within fits.0.sort_is, places_among vars is ss fits.1)

pub pred_below : (preds : List Pred) (w : List ℕ) → drafts.is_pred preds w ≡ true → drafts.pred_place preds w < length preds
unfolding drafts.is_pred drafts.pred_place
pred_below preds w e = known_place (λ (x : Pred). x.name) preds w e

pub num_below : (nums : List Num) (w : List ℕ) → drafts.is_num nums w ≡ true → drafts.num_place nums w < length nums
unfolding drafts.is_num drafts.num_place
num_below nums w e = known_place (λ (x : Num). x.name) nums w e

pub op_below : (ops : List Op) (w : List ℕ) → drafts.is_op ops w ≡ true → drafts.op_place ops w < length ops
unfolding drafts.is_op drafts.op_place
op_below ops w e = known_place (λ (x : Op). x.name) ops w e

literal_fit : (spec : Spec) (vars : List Var) (x : NamedLiteral) → drafts.is_literal_known spec.preds vars x ≡ true → drafts.literal_fits spec.preds vars x ≡ true → LiteralFits spec (sorts_among vars) (drafts.literal_of spec.preds vars x)
unfolding drafts.is_literal_known drafts.literal_fits drafts.literal_of
literal_fit spec vars (named_literals.Atom pred names) known fits =
    let sorts = drafts.sorts_of_pred spec.preds (drafts.pred_place spec.preds pred) in
    let h = and_true (drafts.is_pred spec.preds pred) (list_all (drafts.is_var vars) names) known in
    let k = and_true _ (drafts.fit_all (drafts.is_plain vars) names sorts) fits in
    (pred_below spec.preds pred h.0, places_among vars (map (drafts.var_place vars) names) sorts (places_fit vars names sorts h.1 k.1))
literal_fit spec vars (named_literals.Equal left right) known fits =
    let h = and_true (drafts.is_var vars left) (drafts.is_var vars right) known in
    let i = drafts.var_place vars left in
    let j = drafts.var_place vars right in
    let one = sort_at_place vars left ∙ eqb-true (drafts.sort_of_var vars left) (drafts.sort_of_var vars right) fits ∙ sym (sort_at_place vars right) ∙ sym (sort_among vars j) in
    (place_among vars i (get_or (sorts_among vars) j 0) (var_below vars left h.0) one, rw (length-map vars (λ (v : Var). v.sort)) (var_below vars right h.1))

pub literals_fit : (spec : Spec) (vars : List Var) (xs : List NamedLiteral) → list_all (drafts.is_literal_known spec.preds vars) xs ≡ true → list_all (drafts.literal_fits spec.preds vars) xs ≡ true
    → AllByRecursion (LiteralFits spec (sorts_among vars)) (map (drafts.literal_of spec.preds vars) xs)
literals_fit spec vars [] known fits = tt
literals_fit spec vars (x ∷ xs) known fits =
    let h = and_true (drafts.is_literal_known spec.preds vars x) (list_all (drafts.is_literal_known spec.preds vars) xs) known in
    let k = and_true (drafts.literal_fits spec.preds vars x) (list_all (drafts.literal_fits spec.preds vars) xs) fits in
    (literal_fit spec vars x h.0 k.0, literals_fit spec vars xs h.1 k.1)

term_fit : (params : List Var) (t : NamedTerm) (s : ℕ) → drafts.is_term_known params t ≡ true → drafts.term_fits params t s ≡ true → TermFits params (drafts.term_of params t) s
unfolding drafts.is_term_known drafts.term_fits drafts.term_of
term_fit params (named_terms.Param w) s known fits = (var_below params w known, sort_at_place params w ∙ eqb-true (drafts.sort_of_var params w) s fits)
term_fit params named_terms.Every s known fits = tt

pub terms_fit : (params : List Var) (ts : List NamedTerm) (sorts : List ℕ) → list_all (drafts.is_term_known params) ts ≡ true → drafts.fit_all (drafts.term_fits params) ts sorts ≡ true → AllZip (TermFits params) (map (drafts.term_of params) ts) sorts
terms_fit params [] [] known fits = tt
terms_fit params [] (s ∷ ss) known fits = absurd cc
terms_fit params (t ∷ ts) [] known fits = absurd cc
terms_fit params (t ∷ ts) (s ∷ ss) known fits =
    let h = and_true (drafts.is_term_known params t) (list_all (drafts.is_term_known params) ts) known in
    let k = and_true (drafts.term_fits params t s) (drafts.fit_all (drafts.term_fits params) ts ss) fits in
    (term_fit params t s h.0 k.0, terms_fit params ts ss h.1 k.1)

none_counted : (t : Bool) (n : ℕ) → cond t 1 0 + n ≡ 0 → (t ≡ false) × (n ≡ 0)
none_counted true n e = absurd (omega arith)
none_counted false n e = (refl, omega arith)

no_interval : (sorts : List Sort) (ps : List NamedParam) → count_by (λ (p : NamedParam). p.interval) ps ≡ 0 → AllByRecursion (λ (r : Var). r.interval ≡ false) (map (drafts.param_of sorts) ps)
unfolding drafts.param_of
no_interval sorts [] none = tt
no_interval sorts (p ∷ ps) none =
    let h = none_counted p.interval (count_by (λ (q : NamedParam). q.interval) ps) (sym (sum_by-cons (λ (q : NamedParam). cond q.interval 1 0) p ps) ∙ none) in
    (h.0, no_interval sorts ps h.1)

one_counted : (A B : Type 0) (t : Bool) (n : ℕ) → cond t 1 0 + n ≤ 1 → (n ≡ 0 → A) → (n ≤ 1 → B) → MatchBool t A B
one_counted A B true n few none one = none (omega arith)
one_counted A B false n few none one = one (omega arith)

-- at most one parameter is an interval
pub one_interval : (sorts : List Sort) (ps : List NamedParam) → count_by (λ (p : NamedParam). p.interval) ps ≤ 1 → OneInterval (map (drafts.param_of sorts) ps)
unfolding drafts.param_of
one_interval sorts [] few = tt
one_interval sorts (p ∷ ps) few =
    let rest = count_by (λ (q : NamedParam). q.interval) ps in
    let split = sum_by-cons (λ (q : NamedParam). cond q.interval 1 0) p ps in
    one_counted (AllByRecursion (λ (r : Var). r.interval ≡ false) (map (drafts.param_of sorts) ps)) (OneInterval (map (drafts.param_of sorts) ps)) p.interval rest (rw split at few) (no_interval sorts ps) (one_interval sorts ps)
