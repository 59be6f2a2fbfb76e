-- The case of two instances and an assignment stands for them.
use Rattle.std.proofs.Common.{◌≡◌, ◌⊎◌, inl, inr, ℕ, zero, suc, ◌+◌, ◌<◌, ◌≤◌, max, Bool, true, false, cond, eqb, leb, List, [], ◌∷◌, ◌++◌, map, length, get_or, take, drop, refl, sym, ap, subst, ◌∙◌, arith}
use Rattle.std.specs.List.{list_any, AllByRecursion, AllZip}
use Rattle.std.proofs.Math.Seq.{take-append_seam, drop-append_seam}
use Rattle.std.proofs.lemmas.List.{map-append, length-map}
use Rattle.std.proofs.lemmas.Bool.{cases_lt, cases_order, cases_Bool, true≢false, and_from, and_left, and_right, eqb-true, eq-eqb, ne_eqb, lt-ltb, le-ltb, le-leb, lt-leb, MatchBool-at_true, MatchBool-at_false}
use Rattle.ground_clauses.proofs.Hypotheses.{Among, among_flat_map, among_map}
use Rattle.ground_clauses.proofs.Keeps.{contains_from_among}
use Rattle.ground_clauses.proofs.Lists.{each_append, each_append_left, each_append_right, each_weaker}
use Rattle.ground_clauses.proofs.Masks.{bit_of, no_bit}
use Rattle.ground_clauses.proofs.Named.{eqb_named}
use Rattle.ground_clauses.proofs.Seen.{Fit, IsSeen, all_seen, among_class_lists, distinct_get, each_seen, get_index, index_below}
use Rattle.ground_clauses.specs.Bits.{bits_number, has_bit}
use Rattle.ground_clauses.specs.Cases.{bit_lists, bits, case_at, class_cases, class_count, class_lists, classes_in, interval_classes, pattern_sorts, plain_sorts, point, reaches, reaches_have, target_cases, target_sorts, upto_from}
use Rattle.ground_clauses.specs.Laws.{HasItsCase, StandsFor, names}
use Rattle.ground_clauses.specs.Numbering.{Element, assigned, case_of, class_in, classes_of, count_in, element, interval_bits, naming, naming_of, none_seen, pattern_of, plain_elements, seen_after}
use Rattle.ground_clauses.specs.declared.case.Target.{Target}
use Rattle.ind_base.specs.declared.span.Span.{Span}
use Rattle.spec_model.specs.Fits.{ArgFits, InstFits, IsWellFormed, OneInterval, OpFits}
use Rattle.spec_model.specs.Truths.{Within, no_op, no_span, op_at, size_of, sort_of, span_has}
use Rattle.spec_model.specs.declared.clause.Var.{Var}
use Rattle.spec_model.specs.declared.instance.Inst.{Inst}
use Rattle.spec_model.specs.declared.operation.Op.{Op}
use Rattle.spec_model.specs.declared.spec.Spec.{Spec}

-- ---- counts of classes

class_counted : (f : Element → ℕ) (es : List Element) (count : ℕ → ℕ) → ((z : ℕ) → class_count (map (λ e. e.sort) es) (map f es) z ≤ count z) → AllByRecursion (λ e. f e < count e.sort) es
class_counted f [] count h = tt
class_counted f (e ∷ es) count h =
    let k : cond (eqb e.sort e.sort) (max (suc (f e)) (class_count (map (λ x. x.sort) es) (map f es) e.sort)) (class_count (map (λ x. x.sort) es) (map f es) e.sort) ≤ count e.sort = h e.sort in
    let k2 : max (suc (f e)) (class_count (map (λ x. x.sort) es) (map f es) e.sort) ≤ count e.sort =
    subst (λ b. cond b (max (suc (f e)) (class_count (map (λ x. x.sort) es) (map f es) e.sort)) (class_count (map (λ x. x.sort) es) (map f es) e.sort) ≤ count e.sort) (eq-eqb e.sort e.sort refl) k in
    (omega arith, class_counted f es count (λ z. tail z (h z)))
  where
    tail : (z : ℕ) → cond (eqb e.sort z) (max (suc (f e)) (class_count (map (λ x. x.sort) es) (map f es) z)) (class_count (map (λ x. x.sort) es) (map f es) z) ≤ count z → class_count (map (λ x. x.sort) es) (map f es) z ≤ count z
    tail z g = elim (cases_Bool (eqb e.sort z)) [
      | inl is ↦ let k : max (suc (f e)) (class_count (map (λ x. x.sort) es) (map f es) z) ≤ count z =
          subst (λ b. cond b (max (suc (f e)) (class_count (map (λ x. x.sort) es) (map f es) z)) (class_count (map (λ x. x.sort) es) (map f es) z) ≤ count z) is g in omega arith
      | inr other ↦ subst (λ b. cond b (max (suc (f e)) (class_count (map (λ x. x.sort) es) (map f es) z)) (class_count (map (λ x. x.sort) es) (map f es) z) ≤ count z) other g
    ]

class_count_small : (f : Element → ℕ) (es : List Element) (bound : ℕ → ℕ) (z : ℕ) → AllByRecursion (λ e. f e < bound e.sort) es → class_count (map (λ e. e.sort) es) (map f es) z ≤ bound z
class_count_small f [] bound z h = omega arith
class_count_small f (e ∷ es) bound z h =
    let rest : class_count (map (λ x. x.sort) es) (map f es) z ≤ bound z = class_count_small f es bound z h.1 in
    elim (cases_Bool (eqb e.sort z)) [
      | inl is ↦
          let here : f e < bound z = subst (λ s. f e < bound s) (eqb-true e.sort z is) h.0 in
          subst (λ b. cond b (max (suc (f e)) (class_count (map (λ x. x.sort) es) (map f es) z)) (class_count (map (λ x. x.sort) es) (map f es) z) ≤ bound z) (sym is) (omega arith)
      | inr other ↦ subst (λ b. cond b (max (suc (f e)) (class_count (map (λ x. x.sort) es) (map f es) z)) (class_count (map (λ x. x.sort) es) (map f es) z) ≤ bound z) (sym other) rest
    ]

-- ---- the naming

pub record IsNaming (size count : ℕ → ℕ) (n : ℕ → ℕ → ℕ) : Type 0 where
  pub apart : (s c d : ℕ) → n s c ≡ n s d → c ≡ d
  pub fits : (s c : ℕ) → c < count s → n s c < size s
  pub past : (s c : ℕ) → count s ≤ c → size s ≤ n s c

naming_below : (size count : ℕ → ℕ) (seen : ℕ → List ℕ) (s c : ℕ) → c < count s → naming size count seen s c ≡ get_or (seen s) c 0
naming_below size count seen s c lt = ap (λ b. cond b (get_or (seen s) c 0) (size s + c)) (lt-ltb c (count s) lt)

naming_past : (size count : ℕ → ℕ) (seen : ℕ → List ℕ) (s c : ℕ) → count s ≤ c → naming size count seen s c ≡ size s + c
naming_past size count seen s c le = ap (λ b. cond b (get_or (seen s) c 0) (size s + c)) (le-ltb c (count s) le)

each_get : (P : ℕ → Type 0) (xs : List ℕ) (i : ℕ) → AllByRecursion P xs → i < length xs → P (get_or xs i 0)
each_get P [] i h lt = absurd (omega arith)
each_get P (x ∷ xs) zero h lt = h.0
each_get P (x ∷ xs) (suc i) h lt = each_get P xs i h.1 (omega arith)

is_naming : (size count : ℕ → ℕ) (seen : ℕ → List ℕ) → IsSeen size seen → ((s : ℕ) → count s ≤ length (seen s)) → IsNaming size count (naming size count seen)
is_naming size count seen h le = record {
  apart = λ s c d e. apart_at s c d e (cases_lt c (count s)) (cases_lt d (count s));
  fits = λ s c lt. subst (λ x. x < size s) (sym (naming_below size count seen s c lt)) (small s c lt);
  past = λ s c ge. let k : naming size count seen s c ≡ size s + c = naming_past size count seen s c ge in omega arith;
}
  where
    small : (s c : ℕ) → c < count s → get_or (seen s) c 0 < size s
    small s c lt = each_get (λ x. x < size s) (seen s) c (h.small s) (let k : count s ≤ length (seen s) = le s in omega arith)

    mixed : (s c d : ℕ) → c < count s → count s ≤ d → naming size count seen s c ≡ naming size count seen s d → c ≡ d
    mixed s c d lt ge e =
        let a : naming size count seen s c ≡ get_or (seen s) c 0 = naming_below size count seen s c lt in
        let b : naming size count seen s d ≡ size s + d = naming_past size count seen s d ge in
        let k : get_or (seen s) c 0 < size s = small s c lt in
        absurd (omega arith)

    apart_at : (s c d : ℕ) → naming size count seen s c ≡ naming size count seen s d → ((c < count s) ⊎ (count s ≤ c)) → ((d < count s) ⊎ (count s ≤ d)) → c ≡ d
    apart_at s c d e (inl lc) (inl ld) =
        let k : count s ≤ length (seen s) = le s in
        distinct_get (seen s) c d 0 (h.apart s) (omega arith) (omega arith) (sym (naming_below size count seen s c lc) ∙ e ∙ naming_below size count seen s d ld)
    apart_at s c d e (inl lc) (inr gd) = mixed s c d lc gd e
    apart_at s c d e (inr gc) (inl ld) = sym (mixed s d c ld gc (sym e))
    apart_at s c d e (inr gc) (inr gd) =
        let a : naming size count seen s c ≡ size s + c = naming_past size count seen s c gc in
        let b : naming size count seen s d ≡ size s + d = naming_past size count seen s d gd in
        omega arith

-- each element has the name of its class
abbrev pub Named : (ℕ → ℕ → ℕ) → (Element → ℕ) → Element → Type 0
Named n f e = n e.sort (f e) ≡ e.value

named : (size count : ℕ → ℕ) (seen : ℕ → List ℕ) (es : List Element) → AllByRecursion (λ e. list_any (eqb e.value) (seen e.sort) ≡ true) es → AllByRecursion (λ e. class_in seen e < count e.sort) es
    → AllByRecursion (Named (naming size count seen) (class_in seen)) es
named size count seen [] h k = tt
named size count seen (e ∷ es) h k =
    (naming_below size count seen e.sort (class_in seen e) k.0 ∙ get_index e.value 0 (seen e.sort) h.0, named size count seen es h.1 k.1)

-- ---- arguments

span_plain : (a : Span) (x : ℕ) → a.lo ≡ a.hi → eqb a.lo x ≡ span_has a x
span_plain a x e = elim (cases_order a.lo x) [
  | inl is ↦ eq-eqb a.lo x is ∙ sym (and_from (leb a.lo x) (leb x a.hi) (le-leb a.lo x (omega arith)) (le-leb x a.hi (omega arith)))
  | inr (inl below) ↦ ne_eqb a.lo x (λ z. omega arith) ∙ sym (and_right (leb a.lo x) (leb x a.hi) (lt-leb x a.hi (omega arith)))
  | inr (inr above) ↦ ne_eqb a.lo x (λ z. omega arith) ∙ sym (and_left (leb a.lo x) (leb x a.hi) (lt-leb a.lo x (omega arith)))
]

span_past : (a : Span) (x : ℕ) → a.hi < x → span_has a x ≡ false
span_past a x lt = and_right (leb a.lo x) (leb x a.hi) (lt-leb x a.hi lt)

get_map_upto : (f : ℕ → Bool) (j k c d : ℕ) → d ≡ j + c → c < k → get_or (map f (upto_from j k)) c false ≡ f d
get_map_upto f j zero c d e lt = absurd (omega arith)
get_map_upto f j (suc k) zero d e lt = ap f (let z : d ≡ j = omega arith in sym z)
get_map_upto f j (suc k) (suc c) d e lt = get_map_upto f (suc j) k c d (omega arith) (omega arith)

get_map_past : (f : ℕ → Bool) (j k c : ℕ) → k ≤ c → get_or (map f (upto_from j k)) c false ≡ false
get_map_past f j zero c le = refl
get_map_past f j (suc k) zero le = absurd (omega arith)
get_map_past f j (suc k) (suc c) le = get_map_past f (suc j) k c (omega arith)

abbrev pub IntervalSays : (ℕ → ℕ → ℕ) → ℕ → Var → Span → Type 0
IntervalSays n mask p a = p.interval ≡ true → (c : ℕ) → has_bit mask c ≡ span_has a (n p.sort c)

bits_say_one : (spec : Spec) (count : ℕ → ℕ) (n : ℕ → ℕ → ℕ) (p : Var) (a : Span) → IsNaming (size_of spec) count n → ArgFits spec p a → (c : ℕ) → get_or (map (λ x. span_has a (n p.sort x)) (upto_from 0 (count p.sort))) c false ≡ span_has a (n p.sort c)
bits_say_one spec count n p a is fit c = elim (cases_lt c (count p.sort)) [
  | inl lt ↦ get_map_upto (λ x. span_has a (n p.sort x)) 0 (count p.sort) c c (omega arith) lt
  | inr ge ↦
      let k : size_of spec p.sort ≤ n p.sort c = is.past p.sort c ge in
      let g : a.hi < size_of spec p.sort = fit.fits in
      get_map_past (λ x. span_has a (n p.sort x)) 0 (count p.sort) c ge ∙ sym (span_past a (n p.sort c) (omega arith))
]

none_say : (spec : Spec) (n : ℕ → ℕ → ℕ) (bs : ℕ) (params : List Var) (args : List Span) → AllByRecursion (λ r. r.interval ≡ false) params → AllZip (ArgFits spec) params args → AllZip (IntervalSays n bs) params args
none_say spec n bs [] [] h fits = tt
none_say spec n bs [] (a ∷ args) h fits = absurd fits
none_say spec n bs (p ∷ params) [] h fits = absurd fits
none_say spec n bs (p ∷ params) (a ∷ args) h fits = ((λ i. absurd (true≢false (sym i ∙ h.0))), none_say spec n bs params args h.1 fits.1)

bits_say : (spec : Spec) (count : ℕ → ℕ) (n : ℕ → ℕ → ℕ) (params : List Var) (args : List Span) → IsNaming (size_of spec) count n → OneInterval params → AllZip (ArgFits spec) params args
    → AllZip (IntervalSays n (bits_number (interval_bits n count params args))) params args
bits_say spec count n [] [] is one fits = tt
bits_say spec count n [] (a ∷ args) is one fits = absurd fits
bits_say spec count n (p ∷ params) [] is one fits = absurd fits
bits_say spec count n (p ∷ params) (a ∷ args) is one fits = elim (cases_Bool (p.interval)) [
  | inl yes' ↦ subst (λ b. AllZip (IntervalSays n (bits_number (cond b (map (λ c. span_has a (n p.sort c)) (upto_from 0 (count p.sort))) (interval_bits n count params args)))) (p ∷ params) (a ∷ args)) (sym yes') (
    (λ i c. bit_of (map (λ x. span_has a (n p.sort x)) (upto_from 0 (count p.sort))) c ∙ bits_say_one spec count n p a is fits.0 c),
    none_say spec n (bits_number (map (λ c. span_has a (n p.sort c)) (upto_from 0 (count p.sort)))) params args (MatchBool-at_true (AllByRecursion (λ r. r.interval ≡ false) params) (OneInterval params) yes' one) fits.1,
  )
  | inr no' ↦ subst (λ b. AllZip (IntervalSays n (bits_number (cond b (map (λ c. span_has a (n p.sort c)) (upto_from 0 (count p.sort))) (interval_bits n count params args)))) (p ∷ params) (a ∷ args)) (sym no') (
    (λ i. absurd (true≢false (sym i ∙ no'))),
    bits_say spec count n params args is (MatchBool-at_false (AllByRecursion (λ r. r.interval ≡ false) params) (OneInterval params) no' one) fits.1,
  )
]

-- what a case's parameters reach is what the instance's arguments hold
reaches_say : (spec : Spec) (count : ℕ → ℕ) (n : ℕ → ℕ → ℕ) (f : Element → ℕ) (bs : ℕ) (params : List Var) (args : List Span) → IsNaming (size_of spec) count n → AllZip (ArgFits spec) params args
    → AllByRecursion (Named n f) (plain_elements params args) → AllZip (IntervalSays n bs) params args
    → (i c : ℕ) → reaches_have (reaches params (map f (plain_elements params args)) bs) i c ≡ span_has (get_or args i no_span) (n (sort_of params i) c)
reaches_say spec count n f bs [] [] is fits names' says i c = no_bit c ∙ none_has (n 0 c)
  where
    none_has : (x : ℕ) → false ≡ span_has no_span x
    none_has x = elim (cases_lt x 1) [
      | inl lt ↦ sym (and_left (leb 1 x) (leb x 0) (lt-leb 1 x lt))
      | inr ge ↦ sym (and_right (leb 1 x) (leb x 0) (lt-leb x 0 (omega arith)))
    ]
reaches_say spec count n f bs [] (a ∷ args) is fits names' says i c = absurd fits
reaches_say spec count n f bs (p ∷ params) [] is fits names' says i c = absurd fits
reaches_say spec count n f bs (p ∷ params) (a ∷ args) is fits names' says i c =
    by_kind (p.interval) refl i (λ h j. reaches_say spec count n f bs params args is fits.1 h says.1 j c) names'
  where
    by_kind : (b : Bool) → p.interval ≡ b → (i : ℕ)
        → (AllByRecursion (Named n f) (plain_elements params args) → (j : ℕ) → reaches_have (reaches params (map f (plain_elements params args)) bs) j c ≡ span_has (get_or args j no_span) (n (sort_of params j) c))
        → AllByRecursion (Named n f) (cond b (plain_elements params args) (element p.sort a.lo ∷ plain_elements params args))
        → reaches_have (cond b (bits bs ∷ reaches params (map f (cond b (plain_elements params args) (element p.sort a.lo ∷ plain_elements params args))) bs)
        (point (get_or (map f (cond b (plain_elements params args) (element p.sort a.lo ∷ plain_elements params args))) 0 0) ∷ reaches params (drop 1 (map f (cond b (plain_elements params args) (element p.sort a.lo ∷ plain_elements params args)))) bs)) i c
        ≡ span_has (get_or (a ∷ args) i no_span) (n (sort_of (p ∷ params) i) c)
    by_kind true k zero rest h = says.0 k c
    by_kind true k (suc j) rest h = rest h j
    by_kind false k zero rest h = eqb_named (n p.sort) (f (element p.sort a.lo)) c (is.apart p.sort) ∙ ap (λ x. eqb x (n p.sort c)) h.0 ∙ span_plain a (n p.sort c) (fits.0.plain k)
    by_kind false k (suc j) rest h = rest h.1 j

-- ---- sorts of the pattern

plain_elements_sorts : (spec : Spec) (params : List Var) (args : List Span) → AllZip (ArgFits spec) params args → map (λ e. e.sort) (plain_elements params args) ≡ plain_sorts params
plain_elements_sorts spec [] [] h = refl
plain_elements_sorts spec [] (a ∷ args) h = absurd h
plain_elements_sorts spec (p ∷ params) [] h = absurd h
plain_elements_sorts spec (p ∷ params) (a ∷ args) h = by_kind (p.interval) (plain_elements_sorts spec params args h.1)
  where
    by_kind : (b : Bool) → map (λ e. e.sort) (plain_elements params args) ≡ plain_sorts params
        → map (λ e. e.sort) (cond b (plain_elements params args) (element p.sort a.lo ∷ plain_elements params args)) ≡ cond b (plain_sorts params) (p.sort ∷ plain_sorts params)
    by_kind true h = h
    by_kind false h = ap (λ xs. p.sort ∷ xs) h

plain_elements_fit : (spec : Spec) (params : List Var) (args : List Span) → AllZip (ArgFits spec) params args → AllByRecursion (Fit (size_of spec)) (plain_elements params args)
plain_elements_fit spec [] [] h = tt
plain_elements_fit spec [] (a ∷ args) h = absurd h
plain_elements_fit spec (p ∷ params) [] h = absurd h
plain_elements_fit spec (p ∷ params) (a ∷ args) h = by_kind (p.interval) (plain_elements_fit spec params args h.1) (let k : a.lo ≤ a.hi = h.0.ordered in let g : a.hi < size_of spec p.sort = h.0.fits in omega arith)
  where
    by_kind : (b : Bool) → AllByRecursion (Fit (size_of spec)) (plain_elements params args) → a.lo < size_of spec p.sort
        → AllByRecursion (Fit (size_of spec)) (cond b (plain_elements params args) (element p.sort a.lo ∷ plain_elements params args))
    by_kind true h lt = h
    by_kind false h lt = (lt, h)

assigned_sorts : (size : ℕ → ℕ) (sorts xs : List ℕ) → Within size sorts xs → map (λ e. e.sort) (assigned sorts xs) ≡ sorts
assigned_sorts size [] [] h = refl
assigned_sorts size [] (x ∷ xs) h = absurd h
assigned_sorts size (s ∷ sorts) [] h = absurd h
assigned_sorts size (s ∷ sorts) (x ∷ xs) h = ap (λ ys. s ∷ ys) (assigned_sorts size sorts xs h.1)

assigned_fit : (size : ℕ → ℕ) (sorts xs : List ℕ) → Within size sorts xs → AllByRecursion (Fit size) (assigned sorts xs)
assigned_fit size [] [] h = tt
assigned_fit size [] (x ∷ xs) h = absurd h
assigned_fit size (s ∷ sorts) [] h = absurd h
assigned_fit size (s ∷ sorts) (x ∷ xs) h = (h.0, assigned_fit size sorts xs h.1)

-- ---- the target

assigned_within : (size count : ℕ → ℕ) (f : Element → ℕ) (sorts xs : List ℕ) → Within size sorts xs → AllByRecursion (λ e. f e < count e.sort) (assigned sorts xs) → Within count sorts (map f (assigned sorts xs))
assigned_within size count f [] [] w h = tt
assigned_within size count f [] (x ∷ xs) w h = absurd w
assigned_within size count f (s ∷ sorts) [] w h = absurd w
assigned_within size count f (s ∷ sorts) (x ∷ xs) w h = (h.0, assigned_within size count f sorts xs w.1 h.1)

assigned_named : (size : ℕ → ℕ) (n : ℕ → ℕ → ℕ) (f : Element → ℕ) (sorts xs : List ℕ) → Within size sorts xs → AllByRecursion (Named n f) (assigned sorts xs) → names n sorts (map f (assigned sorts xs)) ≡ xs
assigned_named size n f [] [] w h = refl
assigned_named size n f [] (x ∷ xs) w h = absurd w
assigned_named size n f (s ∷ sorts) [] w h = absurd w
assigned_named size n f (s ∷ sorts) (x ∷ xs) w h = ap (λ y. y ∷ names n sorts (map f (assigned sorts xs))) h.0 ∙ ap (λ ys. x ∷ ys) (assigned_named size n f sorts xs w.1 h.1)

-- ---- bits

among_bits : (bs : List Bool) → Among bs (bit_lists (length bs))
among_bits [] = inl refl
among_bits (b ∷ bs) =
    among_flat_map (λ x. map (λ xs. x ∷ xs) (bit_lists (length bs))) b (b ∷ bs) (false ∷ true ∷ []) (one b) (among_map (λ xs. b ∷ xs) bs (bit_lists (length bs)) (among_bits bs))
  where
    one : (x : Bool) → Among x (false ∷ true ∷ [])
    one false = inl refl
    one true = inr (inl refl)

length_upto : (j k : ℕ) → length (upto_from j k) ≡ k
length_upto j zero = refl
length_upto j (suc k) = ap suc (length_upto (suc j) k)

interval_bits_length : (spec : Spec) (n : ℕ → ℕ → ℕ) (count : ℕ → ℕ) (params : List Var) (args : List Span) → AllZip (ArgFits spec) params args → length (interval_bits n count params args) ≡ interval_classes count params
interval_bits_length spec n count [] [] h = refl
interval_bits_length spec n count [] (a ∷ args) h = absurd h
interval_bits_length spec n count (p ∷ params) [] h = absurd h
interval_bits_length spec n count (p ∷ params) (a ∷ args) h = by_kind (p.interval) (interval_bits_length spec n count params args h.1)
  where
    by_kind : (b : Bool) → length (interval_bits n count params args) ≡ interval_classes count params
        → length (cond b (map (λ c. span_has a (n p.sort c)) (upto_from 0 (count p.sort))) (interval_bits n count params args)) ≡ cond b (count p.sort) (interval_classes count params)
    by_kind true g = length-map (upto_from 0 (count p.sort)) (λ c. span_has a (n p.sort c)) ∙ length_upto 0 (count p.sort)
    by_kind false g = g

-- ---- three parts of the classes

front_part : (f : Element → ℕ) (k : ℕ) (xs ys : List Element) → k ≡ length xs → take k (map f (xs ++ ys)) ≡ map f xs
front_part f k xs ys e =
    ap (λ j. take j (map f (xs ++ ys))) (e ∙ sym (length-map xs f)) ∙ ap (take (length (map f xs))) (map-append f xs ys) ∙ take-append_seam (map f xs) (map f ys)

back_part : (f : Element → ℕ) (k : ℕ) (xs ys : List Element) → k ≡ length xs → drop k (map f (xs ++ ys)) ≡ map f ys
back_part f k xs ys e =
    ap (λ j. drop j (map f (xs ++ ys))) (e ∙ sym (length-map xs f)) ∙ ap (drop (length (map f xs))) (map-append f xs ys) ∙ drop-append_seam (map f xs) (map f ys)

plain_length : (spec : Spec) (params : List Var) (args : List Span) → AllZip (ArgFits spec) params args → length (plain_sorts params) ≡ length (plain_elements params args)
plain_length spec params args h = ap length (sym (plain_elements_sorts spec params args h)) ∙ length-map (plain_elements params args) (λ e. e.sort)

none_start : (size : ℕ → ℕ) → IsSeen size none_seen
none_start size = record { apart = λ s. tt; small = λ s. tt }

-- ---- the parts of a pattern

abbrev elements_of : Spec → Inst → List Element
elements_of spec e = plain_elements (op_at spec e.op).params e.args

pattern_fits : (spec : Spec) (t : Target) (e o : Inst) (xs : List ℕ) → InstFits spec e → InstFits spec o → Within (size_of spec) (target_sorts spec t) xs
    → AllByRecursion (Fit (size_of spec)) (pattern_of spec t e o xs)
pattern_fits spec t e o xs fe fo w =
    each_append (Fit (size_of spec)) (elements_of spec e) (elements_of spec o ++ assigned (target_sorts spec t) xs) (plain_elements_fit spec (op_at spec e.op).params e.args fe.args_fit)
    (each_append (Fit (size_of spec)) (elements_of spec o) (assigned (target_sorts spec t) xs) (plain_elements_fit spec (op_at spec o.op).params o.args fo.args_fit) (assigned_fit (size_of spec) (target_sorts spec t) xs w))

sorts_of_pattern : (spec : Spec) (t : Target) (e o : Inst) (xs : List ℕ) → InstFits spec e → InstFits spec o → Within (size_of spec) (target_sorts spec t) xs
    → map (λ x. x.sort) (pattern_of spec t e o xs) ≡ pattern_sorts spec e.op o.op t
sorts_of_pattern spec t e o xs fe fo w =
    map-append (λ x. x.sort) (elements_of spec e) (elements_of spec o ++ assigned (target_sorts spec t) xs)
    ∙ ap (λ ss. ss ++ map (λ x. x.sort) (elements_of spec o ++ assigned (target_sorts spec t) xs)) (plain_elements_sorts spec (op_at spec e.op).params e.args fe.args_fit)
    ∙ ap (λ ss. plain_sorts (op_at spec e.op).params ++ ss)
    (map-append (λ x. x.sort) (elements_of spec o) (assigned (target_sorts spec t) xs)
    ∙ ap (λ ss. ss ++ map (λ x. x.sort) (assigned (target_sorts spec t) xs)) (plain_elements_sorts spec (op_at spec o.op).params o.args fo.args_fit)
    ∙ ap (λ ss. plain_sorts (op_at spec o.op).params ++ ss) (assigned_sorts (size_of spec) (target_sorts spec t) xs w))

-- ---- numbered elements

pub record IsNumbered (spec : Spec) (es : List Element) : Type 0 where
  pub names' : IsNaming (size_of spec) (count_in es) (naming_of spec es)
  pub each : AllByRecursion (Named (naming_of spec es) (class_in (seen_after none_seen es))) es
  pub counted : AllByRecursion (λ x. class_in (seen_after none_seen es) x < count_in es x.sort) es

is_numbered : (spec : Spec) (es : List Element) → AllByRecursion (Fit (size_of spec)) es → IsNumbered spec es
is_numbered spec es fit =
    let seen : IsSeen (size_of spec) (seen_after none_seen es) = all_seen (size_of spec) none_seen es (none_start (size_of spec)) fit in
    let counted : AllByRecursion (λ x. class_in (seen_after none_seen es) x < count_in es x.sort) es = class_counted (class_in (seen_after none_seen es)) es (count_in es) (λ z. omega arith) in
    record {
      names' = is_naming (size_of spec) (count_in es) (seen_after none_seen es) seen
          (λ s. class_count_small (class_in (seen_after none_seen es)) es (λ z. length (seen_after none_seen es z)) s
          (each_weaker (λ x. list_any (eqb x.value) (seen_after none_seen es x.sort) ≡ true) (λ x. class_in (seen_after none_seen es) x < length (seen_after none_seen es x.sort)) es
          (λ x h. index_below (eqb x.value) (seen_after none_seen es x.sort) h) (each_seen none_seen es)));
      each = named (size_of spec) (count_in es) (seen_after none_seen es) es (each_seen none_seen es) counted;
      counted = counted;
    }

-- ---- the case is in the canonical list

bits_in : (spec : Spec) (t : Target) (e o d : Inst) (xs : List ℕ) → AllZip (ArgFits spec) (op_at spec d.op).params d.args → map (λ x. x.sort) (pattern_of spec t e o xs) ≡ pattern_sorts spec e.op o.op t
    → Among (interval_bits (naming_of spec (pattern_of spec t e o xs)) (count_in (pattern_of spec t e o xs)) (op_at spec d.op).params d.args)
    (bit_lists (interval_classes (class_count (pattern_sorts spec e.op o.op t) (classes_of (pattern_of spec t e o xs))) (op_at spec d.op).params))
bits_in spec t e o d xs fit sorts =
    subst (λ k. Among (interval_bits (naming_of spec (pattern_of spec t e o xs)) (count_in (pattern_of spec t e o xs)) (op_at spec d.op).params d.args) (bit_lists k))
    (interval_bits_length spec (naming_of spec (pattern_of spec t e o xs)) (count_in (pattern_of spec t e o xs)) (op_at spec d.op).params d.args fit
    ∙ ap (λ ss. interval_classes (class_count ss (classes_of (pattern_of spec t e o xs))) (op_at spec d.op).params) sorts)
    (among_bits (interval_bits (naming_of spec (pattern_of spec t e o xs)) (count_in (pattern_of spec t e o xs)) (op_at spec d.op).params d.args))

in_canon : (spec : Spec) (t : Target) (e o : Inst) (xs : List ℕ) → InstFits spec e → InstFits spec o → Within (size_of spec) (target_sorts spec t) xs
    → Among (case_of spec t e o xs) (target_cases spec e.op o.op t)
in_canon spec t e o xs fe fo w =
    let sorts : map (λ x. x.sort) (pattern_of spec t e o xs) ≡ pattern_sorts spec e.op o.op t = sorts_of_pattern spec t e o xs fe fo w in
    among_flat_map (class_cases spec e.op o.op t) (classes_of (pattern_of spec t e o xs)) (case_of spec t e o xs) (class_lists (size_of spec) (λ z. 0) (pattern_sorts spec e.op o.op t))
    (subst (λ ss. Among (classes_of (pattern_of spec t e o xs)) (class_lists (size_of spec) (λ z. 0) ss)) sorts
    (among_class_lists (size_of spec) (λ z. 0) none_seen (pattern_of spec t e o xs) (λ z. refl) (none_start (size_of spec)) (pattern_fits spec t e o xs fe fo w)))
    (among_flat_map (λ ba. map (λ bb. case_at e.op o.op t (classes_of (pattern_of spec t e o xs)) ba bb) (bit_lists (interval_classes (class_count (pattern_sorts spec e.op o.op t) (classes_of (pattern_of spec t e o xs))) (op_at spec o.op).params)))
    (interval_bits (naming_of spec (pattern_of spec t e o xs)) (count_in (pattern_of spec t e o xs)) (op_at spec e.op).params e.args) (case_of spec t e o xs)
    (bit_lists (interval_classes (class_count (pattern_sorts spec e.op o.op t) (classes_of (pattern_of spec t e o xs))) (op_at spec e.op).params))
    (bits_in spec t e o e xs fe.args_fit sorts)
    (among_map (λ bb. case_at e.op o.op t (classes_of (pattern_of spec t e o xs)) (interval_bits (naming_of spec (pattern_of spec t e o xs)) (count_in (pattern_of spec t e o xs)) (op_at spec e.op).params e.args) bb)
    (interval_bits (naming_of spec (pattern_of spec t e o xs)) (count_in (pattern_of spec t e o xs)) (op_at spec o.op).params o.args)
    (bit_lists (interval_classes (class_count (pattern_sorts spec e.op o.op t) (classes_of (pattern_of spec t e o xs))) (op_at spec o.op).params))
    (bits_in spec t e o o xs fo.args_fit sorts)))

-- ---- the case stands for them

-- one operation's part, over the parts of the pattern as variables
part_has : (spec : Spec) (count : ℕ → ℕ) (n : ℕ → ℕ → ℕ) (f : Element → ℕ) (params : List Var) (args : List Span) (cs : List ℕ) → IsNaming (size_of spec) count n → OneInterval params → AllZip (ArgFits spec) params args
    → AllByRecursion (Named n f) (plain_elements params args) → cs ≡ map f (plain_elements params args)
    → (i c : ℕ) → reaches_have (reaches params cs (bits_number (interval_bits n count params args))) i c ≡ span_has (get_or args i no_span) (n (sort_of params i) c)
part_has spec count n f params args cs is one fit each e i c =
    ap (λ ds. reaches_have (reaches params ds (bits_number (interval_bits n count params args))) i c) e
    ∙ reaches_say spec count n f (bits_number (interval_bits n count params args)) params args is fit each (bits_say spec count n params args is one fit) i c

-- the parts of a list of numbered elements
pub record HasParts (n : ℕ → ℕ → ℕ) (f : Element → ℕ) (count : ℕ → ℕ) (la lb : ℕ) (ea eb et : List Element) : Type 0 where
  pub front : take la (map f (ea ++ (eb ++ et))) ≡ map f ea
  pub middle : take lb (drop la (map f (ea ++ (eb ++ et)))) ≡ map f eb
  pub back : drop lb (drop la (map f (ea ++ (eb ++ et)))) ≡ map f et
  pub front_named : AllByRecursion (Named n f) ea
  pub middle_named : AllByRecursion (Named n f) eb
  pub back_named : AllByRecursion (Named n f) et
  pub back_counted : AllByRecursion (λ x. f x < count x.sort) et

has_parts : (n : ℕ → ℕ → ℕ) (f : Element → ℕ) (count : ℕ → ℕ) (la lb : ℕ) (ea eb et : List Element) → la ≡ length ea → lb ≡ length eb
    → AllByRecursion (Named n f) (ea ++ (eb ++ et)) → AllByRecursion (λ x. f x < count x.sort) (ea ++ (eb ++ et)) → HasParts n f count la lb ea eb et
has_parts n f count la lb ea eb et a_is b_is each counted =
    let rest : drop la (map f (ea ++ (eb ++ et))) ≡ map f (eb ++ et) = back_part f la ea (eb ++ et) a_is in
    let named_rest : AllByRecursion (Named n f) (eb ++ et) = each_append_right (Named n f) ea (eb ++ et) each in
    record {
      front = front_part f la ea (eb ++ et) a_is;
      middle = ap (take lb) rest ∙ front_part f lb eb et b_is;
      back = ap (drop lb) rest ∙ back_part f lb eb et b_is;
      front_named = each_append_left (Named n f) ea (eb ++ et) each;
      middle_named = each_append_left (Named n f) eb et named_rest;
      back_named = each_append_right (Named n f) eb et named_rest;
      back_counted = each_append_right (λ x. f x < count x.sort) eb et (each_append_right (λ x. f x < count x.sort) ea (eb ++ et) counted);
    }

pub op_one_interval : (spec : Spec) (ops : List Op) (i : ℕ) → AllByRecursion (OpFits spec) ops → OneInterval (get_or ops i no_op).params
op_one_interval spec [] i h = tt
op_one_interval spec (o ∷ ops) zero h = h.0.one_interval
op_one_interval spec (o ∷ ops) (suc i) h = op_one_interval spec ops i h.1

stands : (spec : Spec) (t : Target) (e o : Inst) (xs : List ℕ) → IsWellFormed spec → InstFits spec e → InstFits spec o → Within (size_of spec) (target_sorts spec t) xs
    → StandsFor spec (case_of spec t e o xs) (naming_of spec (pattern_of spec t e o xs)) e o xs
stands spec t e o xs wf fe fo w =
    let k : IsNumbered spec (pattern_of spec t e o xs) = is_numbered spec (pattern_of spec t e o xs) (pattern_fits spec t e o xs fe fo w) in
    let sorts : map (λ x. x.sort) (pattern_of spec t e o xs) ≡ pattern_sorts spec e.op o.op t = sorts_of_pattern spec t e o xs fe fo w in
    let p : HasParts (naming_of spec (pattern_of spec t e o xs)) (class_in (seen_after none_seen (pattern_of spec t e o xs))) (classes_in spec (case_of spec t e o xs))
    (length (plain_sorts (op_at spec e.op).params)) (length (plain_sorts (op_at spec o.op).params)) (elements_of spec e) (elements_of spec o) (assigned (target_sorts spec t) xs) =
    has_parts (naming_of spec (pattern_of spec t e o xs)) (class_in (seen_after none_seen (pattern_of spec t e o xs))) (classes_in spec (case_of spec t e o xs))
    (length (plain_sorts (op_at spec e.op).params)) (length (plain_sorts (op_at spec o.op).params)) (elements_of spec e) (elements_of spec o) (assigned (target_sorts spec t) xs)
    (plain_length spec (op_at spec e.op).params e.args fe.args_fit) (plain_length spec (op_at spec o.op).params o.args fo.args_fit) k.each
    (subst (λ ss. AllByRecursion (λ x. class_in (seen_after none_seen (pattern_of spec t e o xs)) x < class_count ss (classes_of (pattern_of spec t e o xs)) x.sort) (pattern_of spec t e o xs)) sorts k.counted) in
    record {
      apart = k.names'.apart;
      fits = λ s c lt. k.names'.fits s c (subst (λ ss. c < class_count ss (classes_of (pattern_of spec t e o xs)) s) (sym sorts) lt);
      op_a = refl;
      op_b = refl;
      args_a = part_has spec (count_in (pattern_of spec t e o xs)) (naming_of spec (pattern_of spec t e o xs)) (class_in (seen_after none_seen (pattern_of spec t e o xs))) (op_at spec e.op).params e.args
          (take (length (plain_sorts (op_at spec e.op).params)) (classes_of (pattern_of spec t e o xs))) k.names' (op_one_interval spec spec.ops e.op wf.ops) fe.args_fit p.front_named p.front;
      args_b = part_has spec (count_in (pattern_of spec t e o xs)) (naming_of spec (pattern_of spec t e o xs)) (class_in (seen_after none_seen (pattern_of spec t e o xs))) (op_at spec o.op).params o.args
          (take (length (plain_sorts (op_at spec o.op).params)) (drop (length (plain_sorts (op_at spec e.op).params)) (classes_of (pattern_of spec t e o xs)))) k.names' (op_one_interval spec spec.ops o.op wf.ops) fo.args_fit p.middle_named p.middle;
      within = subst (Within (classes_in spec (case_of spec t e o xs)) (target_sorts spec t)) (sym p.back)
          (assigned_within (size_of spec) (classes_in spec (case_of spec t e o xs)) (class_in (seen_after none_seen (pattern_of spec t e o xs))) (target_sorts spec t) xs w p.back_counted);
      target = ap (names (naming_of spec (pattern_of spec t e o xs)) (target_sorts spec t)) p.back
          ∙ assigned_named (size_of spec) (naming_of spec (pattern_of spec t e o xs)) (class_in (seen_after none_seen (pattern_of spec t e o xs))) (target_sorts spec t) xs w p.back_named;
    }

pub has_its_case : HasItsCase
has_its_case spec t e o xs wf fe fo w =
    (contains_from_among (target_cases spec e.op o.op t) (case_of spec t e o xs) (in_canon spec t e o xs fe fo w), stands spec t e o xs wf fe fo w)
