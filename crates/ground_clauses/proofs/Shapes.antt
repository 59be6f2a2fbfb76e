-- Class lists, one class after the other.
use Rattle.std.proofs.Common.{◌≡◌, ℕ, zero, suc, ◌+◌, ◌*◌, ◌^◌, ◌<◌, ◌≤◌, max, min, eqb, Bool, true, false, cond, List, [], ◌∷◌, ◌++◌, map, length, get_or, take, drop, refl, sym, ap, subst, append_assoc, append-nil, take-suc, length-take-le, length-append, ◌∙◌, arith}
use Rattle.std.specs.List.{flat_map, filter}
use Rattle.std.proofs.Math.Seq.{drop-cons}
use Rattle.std.proofs.lemmas.List.{map-append}
use Rattle.std.proofs.lemmas.List.Elements.{filter-append}
use Rattle.std.proofs.lemmas.Grind.{flat_map-append}
use Rattle.ground_clauses.proofs.Finding.{upto_more}
use Rattle.ground_clauses.proofs.Reaches.{at_place}
use Rattle.ground_clauses.specs.Bits.{bits_number}
use Rattle.ground_clauses.specs.Cases.{bit_lists, case_at, class_cases, class_count, class_lists, clause_targets, grown, interval_classes, is_touched_case, pair_cases, pattern_sorts, pred_targets, target_cases, upto_from}
use Rattle.ground_clauses.specs.Listing.{RisesFrom, first_bits, limit_at, listed_from, second_bits, touched_of}
use Rattle.ground_clauses.specs.declared.case.Case.{Case}
use Rattle.ground_clauses.specs.declared.case.Target.{Target}
use Rattle.ground_clauses.specs.declared.case.Target.TheVariants.{Clause as of_clause, Locked as of_pred}
use Rattle.ground_clauses.specs.declared.listing.Shape.{Shape}
use Rattle.spec_model.specs.Truths.{op_at, rule_locks, size_of}
use Rattle.spec_model.specs.declared.clause.Clause.{Clause}
use Rattle.spec_model.specs.declared.clause.Var.{Var}
use Rattle.spec_model.specs.declared.spec.Pred.{Pred}
use Rattle.spec_model.specs.declared.spec.Spec.{Spec}

-- ---- few classes

pub count_rises : (sorts cs : List ℕ) (k z : ℕ) → RisesFrom k cs → class_count sorts cs z ≤ k + length cs
count_rises [] cs k z h = omega arith
count_rises (s ∷ sorts) [] k z h = omega arith
count_rises (s ∷ sorts) (c ∷ cs) k z h =
    let rest : class_count sorts cs z ≤ suc k + length cs = count_rises sorts cs (suc k) z h.1 in
    let le : c ≤ k = h.0 in
    by_sort (eqb s z) rest le
  where
    by_sort : (b : Bool) → class_count sorts cs z ≤ suc k + length cs → c ≤ k → cond b (max (suc c) (class_count sorts cs z)) (class_count sorts cs z) ≤ k + suc (length cs)
    by_sort true rest le = omega arith
    by_sort false rest le = omega arith

rises_push : (k c : ℕ) (cs : List ℕ) → RisesFrom k cs → c ≤ k + length cs → RisesFrom k (cs ++ c ∷ [])
rises_push k c [] h le = (omega arith, tt)
rises_push k c (d ∷ cs) h le = (h.0, rises_push (suc k) c cs h.1 (omega arith))

few_in : (count : ℕ → ℕ) (params : List Var) → ((z : ℕ) → count z ≤ 12) → interval_classes count params ≤ 12
few_in count [] h = omega arith
few_in count (p ∷ params) h = by_kind p.interval (few_in count params h)
  where
    by_kind : (b : Bool) → interval_classes count params ≤ 12 → cond b (count p.sort) (interval_classes count params) ≤ 12
    by_kind true g = h p.sort
    by_kind false g = g

-- an interval has at most twelve classes
pub few_interval : (sorts cs : List ℕ) (params : List Var) → RisesFrom 0 cs → length cs ≤ 12 → interval_classes (class_count sorts cs) params ≤ 12
few_interval sorts cs params h le = few_in (class_count sorts cs) params (λ z. let k : class_count sorts cs z ≤ 0 + length cs = count_rises sorts cs 0 z h in omega arith)

-- ---- all bits

whole_bits : (n : ℕ) → 0 + 2 ^ 0 * n ≡ n
whole_bits n = omega arith

second_are : (a b : ℕ) (t : Target) (cs : List ℕ) (ma : ℕ) (ba : List Bool) (bss : List (List Bool)) → ma ≡ bits_number ba
    → map (λ bb. let r : Case = record { a = a; b = b; target = t; classes = cs; bits_a = ma; bits_b = 0 + 2 ^ 0 * bits_number bb } in r) bss ≡ map (λ bb. case_at a b t cs ba bb) bss
second_are a b t cs ma ba [] is = refl
second_are a b t cs ma ba (bb ∷ bss) is =
    ap (λ n. let r : Case = record { a = a; b = b; target = t; classes = cs; bits_a = n; bits_b = 0 + 2 ^ 0 * bits_number bb } in
    r ∷ map (λ xb. let q : Case = record { a = a; b = b; target = t; classes = cs; bits_a = ma; bits_b = 0 + 2 ^ 0 * bits_number xb } in q) bss) is
    ∙ ap (λ n. let r : Case = record { a = a; b = b; target = t; classes = cs; bits_a = bits_number ba; bits_b = n } in
    r ∷ map (λ xb. let q : Case = record { a = a; b = b; target = t; classes = cs; bits_a = ma; bits_b = 0 + 2 ^ 0 * bits_number xb } in q) bss) (whole_bits (bits_number bb))
    ∙ ap (λ ks. case_at a b t cs ba bb ∷ ks) (second_are a b t cs ma ba bss is)

first_are : (a b : ℕ) (t : Target) (cs : List ℕ) (second : ℕ) (bss : List (List Bool))
    → flat_map (λ ba. second_bits (record { a = a; b = b; target = t; classes = cs; bits_a = 0 + 2 ^ 0 * bits_number ba; bits_b = 0 }) 0 second) bss
    ≡ flat_map (λ ba. map (λ bb. case_at a b t cs ba bb) (bit_lists second)) bss
first_are a b t cs second [] = refl
first_are a b t cs second (ba ∷ bss) =
    ap (λ ks. ks ++ flat_map (λ ba. second_bits (record { a = a; b = b; target = t; classes = cs; bits_a = 0 + 2 ^ 0 * bits_number ba; bits_b = 0 }) 0 second) bss)
    (second_are a b t cs (0 + 2 ^ 0 * bits_number ba) ba (bit_lists second) (whole_bits (bits_number ba)))
    ∙ ap (λ ks. map (λ bb. case_at a b t cs ba bb) (bit_lists second) ++ ks) (first_are a b t cs second bss)

pub bits_are : (s : Shape) (cs : List ℕ) (k : Case) → k ≡ record { a = s.a; b = s.b; target = s.target; classes = cs; bits_a = 0; bits_b = 0 } → s.sorts.now ≡ pattern_sorts s.spec.now s.a s.b s.target
    → first_bits k 0 (interval_classes (class_count s.sorts.now cs) (op_at s.spec.now s.a).params) (interval_classes (class_count s.sorts.now cs) (op_at s.spec.now s.b).params)
    ≡ class_cases s.spec.now s.a s.b s.target cs
bits_are s cs k is sorts =
    ap (λ x. first_bits x 0 (interval_classes (class_count s.sorts.now cs) (op_at s.spec.now s.a).params) (interval_classes (class_count s.sorts.now cs) (op_at s.spec.now s.b).params)) is
    ∙ first_are s.a s.b s.target cs (interval_classes (class_count s.sorts.now cs) (op_at s.spec.now s.b).params) (bit_lists (interval_classes (class_count s.sorts.now cs) (op_at s.spec.now s.a).params))
    ∙ ap (λ ss. flat_map (λ ba. map (λ bb. case_at s.a s.b s.target cs ba bb) (bit_lists (interval_classes (class_count ss cs) (op_at s.spec.now s.b).params))) (bit_lists (interval_classes (class_count ss cs) (op_at s.spec.now s.a).params))) sorts

-- ---- class lists

lists_same : (size used more : ℕ → ℕ) (sorts : List ℕ) → ((z : ℕ) → used z ≡ more z) → class_lists size used sorts ≡ class_lists size more sorts
lists_same size used more [] h = refl
lists_same size used more (s ∷ sorts) h =
    ap (λ n. flat_map (λ c. map (λ cs. c ∷ cs) (class_lists size (grown used s c) sorts)) (upto_from 0 (min (size s) (suc n)))) (h s)
    ∙ flat_same (λ c. map (λ cs. c ∷ cs) (class_lists size (grown used s c) sorts)) (λ c. map (λ cs. c ∷ cs) (class_lists size (grown more s c) sorts)) (upto_from 0 (min (size s) (suc (more s))))
    (λ c. ap (map (λ cs. c ∷ cs)) (lists_same size (grown used s c) (grown more s c) sorts (λ z. grown_same s c z (h z))))
  where
    grown_same : (s c z : ℕ) → used z ≡ more z → grown used s c z ≡ grown more s c z
    grown_same s c z e = ap (λ n. cond (eqb s z) (max (suc c) n) n) e

    flat_same : (f g : ℕ → List (List ℕ)) (us : List ℕ) → ((c : ℕ) → f c ≡ g c) → flat_map f us ≡ flat_map g us
    flat_same f g [] e = refl
    flat_same f g (u ∷ us) e = ap (λ xs. xs ++ flat_map f us) (e u) ∙ ap (λ xs. g u ++ xs) (flat_same f g us e)

-- ---- one class more

count_push : (ss cs : List ℕ) (s c z : ℕ) → length ss ≡ length cs → class_count (ss ++ s ∷ []) (cs ++ c ∷ []) z ≡ grown (class_count ss cs) s c z
count_push [] [] s c z e = refl
count_push [] (d ∷ cs) s c z e = absurd (omega (arith, e))
count_push (t ∷ ss) [] s c z e = absurd (omega (arith, e))
count_push (t ∷ ss) (d ∷ cs) s c z e =
    ap (λ n. cond (eqb t z) (max (suc d) n) n) (count_push ss cs s c z (omega (arith, e))) ∙ both_ways (eqb t z) (eqb s z)
  where
    both_ways : (x y : Bool) → cond x (max (suc d) (cond y (max (suc c) (class_count ss cs z)) (class_count ss cs z))) (cond y (max (suc c) (class_count ss cs z)) (class_count ss cs z))
        ≡ cond y (max (suc c) (cond x (max (suc d) (class_count ss cs z)) (class_count ss cs z))) (cond x (max (suc d) (class_count ss cs z)) (class_count ss cs z))
    both_ways true true = omega arith
    both_ways true false = refl
    both_ways false true = refl
    both_ways false false = refl

take_push : (xs : List ℕ) (i d : ℕ) → i < length xs → take (i + 1) xs ≡ take i xs ++ get_or xs i d ∷ []
take_push xs i d lt = ap (λ k. take k xs) (let z : i + 1 ≡ suc i = omega arith in z) ∙ take-suc xs i d lt

take_length : (xs : List ℕ) (i : ℕ) → i ≤ length xs → length (take i xs) ≡ i
take_length xs i le = length-take-le i xs le

-- those whose next class is below i
abbrev pub listed_upto : Shape → List ℕ → ℕ → List Case
listed_upto s front i = flat_map (λ c. listed_from s (front ++ c ∷ [])) (upto_from 0 i)

pub listed_end : (s : Shape) (front : List ℕ) → length front ≡ length s.sorts.now → listed_from s front ≡ class_cases s.spec.now s.a s.b s.target front
listed_end s front e =
    ap (λ ss. flat_map (class_cases s.spec.now s.a s.b s.target) (map (λ cs. front ++ cs) (class_lists (size_of s.spec.now) (class_count (take (length front) s.sorts.now) front) ss))) (none_left s.sorts.now (length front) (omega (arith, e)))
    ∙ append-nil (class_cases s.spec.now s.a s.b s.target (front ++ [])) ∙ ap (class_cases s.spec.now s.a s.b s.target) (append-nil front)
  where
    none_left : (xs : List ℕ) (i : ℕ) → length xs ≤ i → drop i xs ≡ []
    none_left [] zero le = refl
    none_left [] (suc i) le = refl
    none_left (x ∷ xs) zero le = absurd (omega arith)
    none_left (x ∷ xs) (suc i) le = none_left xs i (omega arith)

-- a class that comes next stands behind those in front
next_class : (front : List ℕ) (c : ℕ) (rest : List (List ℕ)) → map (λ cs. front ++ cs) (map (λ cs. c ∷ cs) rest) ≡ map (λ cs. (front ++ c ∷ []) ++ cs) rest
next_class front c [] = refl
next_class front c (cs ∷ rest) =
    ap (λ x. x ∷ map (λ cs. front ++ cs) (map (λ cs. c ∷ cs) rest)) (sym (append_assoc front (c ∷ []) cs))
    ∙ ap (λ xs. ((front ++ c ∷ []) ++ cs) ∷ xs) (next_class front c rest)

each_next : (f : List ℕ → List Case) (front : List ℕ) (rest : ℕ → List (List ℕ)) (g : ℕ → List Case) (us : List ℕ) → ((c : ℕ) → flat_map f (map (λ cs. (front ++ c ∷ []) ++ cs) (rest c)) ≡ g c)
    → flat_map f (map (λ cs. front ++ cs) (flat_map (λ c. map (λ cs. c ∷ cs) (rest c)) us)) ≡ flat_map g us
each_next f front rest g [] h = refl
each_next f front rest g (u ∷ us) h =
    ap (flat_map f) (map-append (λ cs. front ++ cs) (map (λ cs. u ∷ cs) (rest u)) (flat_map (λ c. map (λ cs. c ∷ cs) (rest c)) us))
    ∙ flat_map-append f (map (λ cs. front ++ cs) (map (λ cs. u ∷ cs) (rest u))) (map (λ cs. front ++ cs) (flat_map (λ c. map (λ cs. c ∷ cs) (rest c)) us))
    ∙ ap (λ xs. flat_map f xs ++ flat_map f (map (λ cs. front ++ cs) (flat_map (λ c. map (λ cs. c ∷ cs) (rest c)) us))) (next_class front u (rest u))
    ∙ ap (λ ks. ks ++ flat_map f (map (λ cs. front ++ cs) (flat_map (λ c. map (λ cs. c ∷ cs) (rest c)) us))) (h u)
    ∙ ap (λ ks. g u ++ ks) (each_next f front rest g us h)

pub listed_each : (s : Shape) (front : List ℕ) → length front < length s.sorts.now → listed_from s front ≡ listed_upto s front (limit_at s front)
listed_each s front lt =
    let i = length front in
    let sort = get_or s.sorts.now (length front) 0 in
    let rest = drop (length front + 1) s.sorts.now in
    let used = class_count (take (length front) s.sorts.now) front in
    ap (λ ss. flat_map (class_cases s.spec.now s.a s.b s.target) (map (λ cs. front ++ cs) (class_lists (size_of s.spec.now) used ss)))
    (drop-cons s.sorts.now i 0 lt ∙ ap (λ k. sort ∷ drop k s.sorts.now) (let z : suc (length front) ≡ length front + 1 = omega arith in z))
    ∙ each_next (class_cases s.spec.now s.a s.b s.target) front (λ c. class_lists (size_of s.spec.now) (grown used sort c) rest) (λ c. listed_from s (front ++ c ∷ []))
    (upto_from 0 (min (size_of s.spec.now sort) (suc (used sort))))
    (λ c. ap (λ ls. flat_map (class_cases s.spec.now s.a s.b s.target) (map (λ cs. (front ++ c ∷ []) ++ cs) ls)) (same_lists c))
  where
    longer : (c : ℕ) → length front + 1 ≡ length (front ++ c ∷ [])
    longer c = sym (length-append front (c ∷ []))

    same_lists : (c : ℕ) → class_lists (size_of s.spec.now) (grown (class_count (take (length front) s.sorts.now) front) (get_or s.sorts.now (length front) 0) c) (drop (length front + 1) s.sorts.now)
        ≡ class_lists (size_of s.spec.now) (class_count (take (length (front ++ c ∷ [])) s.sorts.now) (front ++ c ∷ [])) (drop (length (front ++ c ∷ [])) s.sorts.now)
    same_lists c =
        lists_same (size_of s.spec.now) (grown (class_count (take (length front) s.sorts.now) front) (get_or s.sorts.now (length front) 0) c) (class_count (take (length front + 1) s.sorts.now) (front ++ c ∷ [])) (drop (length front + 1) s.sorts.now)
        (λ z. sym (ap (λ ss. class_count ss (front ++ c ∷ []) z) (take_push s.sorts.now (length front) 0 lt)
        ∙ count_push (take (length front) s.sorts.now) front (get_or s.sorts.now (length front) 0) c z (take_length s.sorts.now (length front) (omega arith))))
        ∙ ap (λ n. class_lists (size_of s.spec.now) (class_count (take n s.sorts.now) (front ++ c ∷ [])) (drop n s.sorts.now)) (longer c)

pub listed_more : (s : Shape) (front : List ℕ) (i : ℕ) → listed_upto s front (i + 1) ≡ listed_upto s front i ++ listed_from s (front ++ i ∷ [])
listed_more s front i =
    ap (λ n. listed_upto s front n) (let z : i + 1 ≡ suc i = omega arith in z)
    ∙ ap (flat_map (λ c. listed_from s (front ++ c ∷ []))) (upto_more 0 i ∙ ap (λ n. upto_from 0 i ++ n ∷ []) (let z : 0 + i ≡ i = omega arith in z))
    ∙ flat_map-append (λ c. listed_from s (front ++ c ∷ [])) (upto_from 0 i) (i ∷ [])
    ∙ ap (λ xs. listed_upto s front i ++ xs) (append-nil (listed_from s (front ++ i ∷ [])))

-- the touched ones, with one class more
pub touched_more : (s : Shape) (front : List ℕ) (i : ℕ) (old one two : List Case) (next : List ℕ) → next ≡ front ++ i ∷ []
    → one ≡ old ++ filter (is_touched_case s.spec.now) (listed_upto s front i) → two ≡ one ++ filter (is_touched_case s.spec.now) (listed_from s next)
    → two ≡ old ++ filter (is_touched_case s.spec.now) (listed_upto s front (i + 1))
touched_more s front i old one two next is first_is second_is =
    second_is ∙ ap (λ cs. one ++ filter (is_touched_case s.spec.now) (listed_from s cs)) is ∙ ap (λ xs. xs ++ filter (is_touched_case s.spec.now) (listed_from s (front ++ i ∷ []))) first_is
    ∙ append_assoc old (filter (is_touched_case s.spec.now) (listed_upto s front i)) (filter (is_touched_case s.spec.now) (listed_from s (front ++ i ∷ [])))
    ∙ ap (λ xs. old ++ xs) (sym (filter-append (is_touched_case s.spec.now) (listed_upto s front i) (listed_from s (front ++ i ∷ []))) ∙ ap (filter (is_touched_case s.spec.now)) (sym (listed_more s front i)))

-- the next class is at most its place
pub next_rises : (cs more : List ℕ) (c : ℕ) → more ≡ cs ++ c ∷ [] → RisesFrom 0 cs → c ≤ length cs → RisesFrom 0 more
next_rises cs more c is h le = subst (RisesFrom 0) (sym is) (rises_push 0 c cs h (omega arith))

pub few_next : (sorts cs : List ℕ) (z : ℕ) → RisesFrom 0 cs → class_count sorts cs z ≤ length cs
few_next sorts cs z h = let k : class_count sorts cs z ≤ 0 + length cs = count_rises sorts cs 0 z h in omega arith

-- ---- targets

map_empty : (xs : List (List ℕ)) → map (λ cs. [] ++ cs) xs ≡ xs
map_empty [] = refl
map_empty (x ∷ xs) = ap (λ ys. x ∷ ys) (map_empty xs)

pub whole_target : (s : Shape) → s.sorts.now ≡ pattern_sorts s.spec.now s.a s.b s.target → listed_from s [] ≡ target_cases s.spec.now s.a s.b s.target
whole_target s is =
    ap (flat_map (class_cases s.spec.now s.a s.b s.target)) (map_empty (class_lists (size_of s.spec.now) (class_count (take 0 s.sorts.now) []) (drop 0 s.sorts.now)))
    ∙ ap (flat_map (class_cases s.spec.now s.a s.b s.target))
    (lists_same (size_of s.spec.now) (class_count (take 0 s.sorts.now) []) (λ z. 0) (drop 0 s.sorts.now) (λ z. none_yet (take 0 s.sorts.now) z)
    ∙ ap (class_lists (size_of s.spec.now) (λ z. 0)) (drop_none s.sorts.now ∙ is))
  where
    none_yet : (ss : List ℕ) (z : ℕ) → class_count ss [] z ≡ 0
    none_yet [] z = refl
    none_yet (s ∷ ss) z = refl

    drop_none : (xs : List ℕ) → drop 0 xs ≡ xs
    drop_none [] = refl
    drop_none (x ∷ xs) = refl

touched_append : (spec : Spec) (a b : ℕ) (ts us : List Target) → touched_of spec a b (ts ++ us) ≡ touched_of spec a b ts ++ touched_of spec a b us
touched_append spec a b ts us =
    ap (filter (is_touched_case spec)) (flat_map-append (target_cases spec a b) ts us) ∙ filter-append (is_touched_case spec) (flat_map (target_cases spec a b) ts) (flat_map (target_cases spec a b) us)

pub touched_both : (spec : Spec) (a b : ℕ) → touched_of spec a b (clause_targets 0 spec.clauses) ++ touched_of spec a b (pred_targets 0 spec.preds) ≡ pair_cases spec a b
touched_both spec a b = sym (touched_append spec a b (clause_targets 0 spec.clauses) (pred_targets 0 spec.preds))

-- the targets from a place on
abbrev pub clauses_from : Spec → ℕ → List Target
clauses_from spec i = clause_targets i (drop i spec.clauses)

abbrev pub preds_from : Spec → ℕ → List Target
preds_from spec i = pred_targets i (drop i spec.preds)

pub clause_step : (spec : Spec) (i : ℕ) (d : Clause) → i < length spec.clauses → clauses_from spec i ≡ cond (get_or spec.clauses i d).mask (clauses_from spec (i + 1)) (of_clause i ∷ clauses_from spec (i + 1))
clause_step spec i d lt =
    at_place (λ cs. clause_targets i cs ≡ cond (get_or spec.clauses i d).mask (clauses_from spec (i + 1)) (of_clause i ∷ clauses_from spec (i + 1))) spec.clauses i d lt
    (ap (λ j. cond (get_or spec.clauses i d).mask (clause_targets j (drop (i + 1) spec.clauses)) (of_clause i ∷ clause_targets j (drop (i + 1) spec.clauses))) (let z : suc i ≡ i + 1 = omega arith in z))

pub pred_step : (spec : Spec) (i : ℕ) (d : Pred) → i < length spec.preds → preds_from spec i ≡ cond (rule_locks (get_or spec.preds i d).rule) (of_pred i ∷ preds_from spec (i + 1)) (preds_from spec (i + 1))
pred_step spec i d lt =
    at_place (λ ps. pred_targets i ps ≡ cond (rule_locks (get_or spec.preds i d).rule) (of_pred i ∷ preds_from spec (i + 1)) (preds_from spec (i + 1))) spec.preds i d lt
    (ap (λ j. cond (rule_locks (get_or spec.preds i d).rule) (of_pred i ∷ pred_targets j (drop (i + 1) spec.preds)) (pred_targets j (drop (i + 1) spec.preds))) (let z : suc i ≡ i + 1 = omega arith in z))

-- one target's cases and those of the targets behind it
pub touched_one : (spec : Spec) (a b : ℕ) (t : Target) (ts : List Target) → touched_of spec a b (t ∷ ts) ≡ filter (is_touched_case spec) (target_cases spec a b t) ++ touched_of spec a b ts
touched_one spec a b t ts = filter-append (is_touched_case spec) (target_cases spec a b t) (flat_map (target_cases spec a b) ts)
