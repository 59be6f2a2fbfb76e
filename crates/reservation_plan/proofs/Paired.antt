-- The pairs of operations: each stands once, and their cases in a row are all cases.
use Rattle.std.proofs.Common.{◌≡◌, ℕ, zero, suc, ◌+◌, ◌-◌, ◌*◌, ◌<◌, ◌≤◌, List, [], ◌∷◌, ◌++◌, map, length, length-append, refl, sym, ap, append_assoc, ◌∙◌, arith}
use Rattle.std.specs.List.{AllByRecursion, flat_map}
use Rattle.std.proofs.lemmas.Grind.{flat_map-append}
use Rattle.std.proofs.lemmas.List.{length-map}
use Rattle.std.proofs.lemmas.List.Folds.{flat_map-map}
use Rattle.ground_clauses.proofs.Hypotheses.{each_upto}
use Rattle.ground_clauses.proofs.Lists.{each_append, each_append_right, each_both, each_flat_map, each_map, each_weaker}
use Rattle.ground_clauses.specs.Cases.{pair_cases, touched_cases, upto_from}
use Rattle.reservation_plan.proofs.Partners.{upto_next}
use Rattle.reservation_plan.specs.Derived.{pair_of, pairs_of, row_pairs}
use Rattle.reservation_plan.specs.Drafting.{cases_at}
use Rattle.spec_model.specs.declared.plan.Pair.{Pair}
use Rattle.spec_model.specs.declared.spec.Spec.{Spec}

-- ---- each pair is known

each_from : (k n : ℕ) → AllByRecursion (λ c. k ≤ c) (upto_from k n)
each_from k zero = tt
each_from k (suc n) = (omega arith, each_weaker (λ c. suc k ≤ c) (λ c. k ≤ c) (upto_from (suc k) n) (λ c h. omega (arith, h)) (each_from (suc k) n))

pub record IsPair (spec : Spec) (p : Pair) : Type 0 where
  pub ordered : p.a ≤ p.b
  pub known : p.b < length spec.ops

row_known : (spec : Spec) (a : ℕ) → a < length spec.ops → AllByRecursion (IsPair spec) (row_pairs spec a)
row_known spec a lt =
    each_map (IsPair spec) (pair_of a) (upto_from a (length spec.ops - a))
    (each_weaker (λ b. (a ≤ b) × (b < a + (length spec.ops - a))) (λ b. IsPair spec (pair_of a b)) (upto_from a (length spec.ops - a))
    (λ b h. record { ordered = h.0; known = omega (arith, h.1, lt) })
    (each_both (λ b. a ≤ b) (λ b. b < a + (length spec.ops - a)) (upto_from a (length spec.ops - a)) (each_from a (length spec.ops - a)) (each_upto a (length spec.ops - a))))

pub pairs_known : (spec : Spec) → AllByRecursion (IsPair spec) (pairs_of spec)
pairs_known spec =
    each_flat_map (IsPair spec) (row_pairs spec) (upto_from 0 (length spec.ops))
    (each_weaker (λ a. a < 0 + length spec.ops) (λ a. AllByRecursion (IsPair spec) (row_pairs spec a)) (upto_from 0 (length spec.ops)) (λ a lt. row_known spec a (omega (arith, lt))) (each_upto 0 (length spec.ops)))

-- ---- there are few

pub length-upto : (k n : ℕ) → length (upto_from k n) ≡ n
length-upto k zero = refl
length-upto k (suc n) = ap suc (length-upto (suc k) n)

row_short : (spec : Spec) (a : ℕ) → length spec.ops ≤ 64 → length (row_pairs spec a) ≤ 64
row_short spec a few =
    let e : length (row_pairs spec a) ≡ length spec.ops - a = length-map (upto_from a (length spec.ops - a)) (pair_of a) ∙ length-upto a (length spec.ops - a) in
    omega (arith, e, few)

rows_short : (spec : Spec) (as' : List ℕ) → length spec.ops ≤ 64 → length (flat_map (row_pairs spec) as') ≤ 64 * length as'
rows_short spec [] few = omega arith
rows_short spec (a ∷ as') few =
    let e : length (row_pairs spec a ++ flat_map (row_pairs spec) as') ≡ length (row_pairs spec a) + length (flat_map (row_pairs spec) as') = length-append (row_pairs spec a) (flat_map (row_pairs spec) as') in
    let r : length (row_pairs spec a) ≤ 64 = row_short spec a few in
    let s : length (flat_map (row_pairs spec) as') ≤ 64 * length as' = rows_short spec as' few in
    omega (arith, e, r, s)

pub few_pairs : (spec : Spec) → length spec.ops ≤ 64 → length (pairs_of spec) ≤ 4096
few_pairs spec few =
    let r : length (pairs_of spec) ≤ 64 * length (upto_from 0 (length spec.ops)) = rows_short spec (upto_from 0 (length spec.ops)) few in
    let e : length (upto_from 0 (length spec.ops)) ≡ length spec.ops = length-upto 0 (length spec.ops) in
    omega (arith, r, e, few)

-- ---- each stands once

abbrev pub Other : Pair → Pair → Type 0
Other p q = p.a ≡ q.a → p.b ≡ q.b → ⊥

abbrev pub EachOther : List Pair → Type 0
EachOther [] = Unit {0}
EachOther (p ∷ ps) = AllByRecursion (Other p) ps × EachOther ps

others_append : (ps qs : List Pair) → EachOther ps → EachOther qs → AllByRecursion (λ p. AllByRecursion (Other p) qs) ps → EachOther (ps ++ qs)
others_append [] qs h k f = k
others_append (p ∷ ps) qs h k f = (each_append (Other p) ps qs h.0 f.0, others_append ps qs h.1 k f.1)

row_others : (a b n : ℕ) → EachOther (map (pair_of a) (upto_from b n))
row_others a b zero = tt
row_others a b (suc n) = (
  each_map (Other (pair_of a b)) (pair_of a) (upto_from (suc b) n) (each_weaker (λ c. suc b ≤ c) (λ c. Other (pair_of a b) (pair_of a c)) (upto_from (suc b) n) (λ c le same_a same_b. omega (arith, le, same_b)) (each_from (suc b) n)),
  row_others a (suc b) n,
)

row_begins : (spec : Spec) (a : ℕ) → AllByRecursion (λ p. p.a ≡ a) (row_pairs spec a)
row_begins spec a = each_map (λ p. p.a ≡ a) (pair_of a) (upto_from a (length spec.ops - a)) (each_weaker (λ b. a ≤ b) (λ b. a ≡ a) (upto_from a (length spec.ops - a)) (λ b h. refl) (each_from a (length spec.ops - a)))

rows_begin : (spec : Spec) (i n : ℕ) → AllByRecursion (λ p. i ≤ p.a) (flat_map (row_pairs spec) (upto_from i n))
rows_begin spec i n =
    each_flat_map (λ p. i ≤ p.a) (row_pairs spec) (upto_from i n)
    (each_weaker (λ a. i ≤ a) (λ a. AllByRecursion (λ p. i ≤ p.a) (row_pairs spec a)) (upto_from i n)
    (λ a le. each_weaker (λ p. p.a ≡ a) (λ p. i ≤ p.a) (row_pairs spec a) (λ p is. omega (arith, le, is)) (row_begins spec a)) (each_from i n))

rows_others : (spec : Spec) (i n : ℕ) → EachOther (flat_map (row_pairs spec) (upto_from i n))
rows_others spec i zero = tt
rows_others spec i (suc n) =
    others_append (row_pairs spec i) (flat_map (row_pairs spec) (upto_from (suc i) n)) (row_others i i (length spec.ops - i)) (rows_others spec (suc i) n)
    (each_weaker (λ p. p.a ≡ i) (λ p. AllByRecursion (Other p) (flat_map (row_pairs spec) (upto_from (suc i) n))) (row_pairs spec i)
    (λ p is. each_weaker (λ q. suc i ≤ q.a) (Other p) (flat_map (row_pairs spec) (upto_from (suc i) n)) (λ q le same_a same_b. omega (arith, le, same_a, is)) (rows_begin spec (suc i) n))
    (row_begins spec i))

pub pairs_others : (spec : Spec) → EachOther (pairs_of spec)
pairs_others spec = rows_others spec 0 (length spec.ops)

-- those before a pair and those behind it are others
pub others_around : (before : List Pair) (p : Pair) (behind : List Pair) → EachOther (before ++ p ∷ behind) → AllByRecursion (λ q. Other q p) before × AllByRecursion (Other p) behind
others_around [] p behind h = (tt, h.0)
others_around (q ∷ before) p behind h =
    let r : AllByRecursion (λ q. Other q p) before × AllByRecursion (Other p) behind = others_around before p behind h.1 in
    (((each_append_right (Other q) before (p ∷ behind) h.0).0, r.0), r.1)

-- ---- all cases

rows_cases : (spec : Spec) (as' : List ℕ) → flat_map (cases_at spec) (flat_map (row_pairs spec) as') ≡ flat_map (λ a. flat_map (pair_cases spec a) (upto_from a (length spec.ops - a))) as'
rows_cases spec [] = refl
rows_cases spec (a ∷ as') =
    flat_map-append (cases_at spec) (row_pairs spec a) (flat_map (row_pairs spec) as')
    ∙ ap (λ ks. ks ++ flat_map (cases_at spec) (flat_map (row_pairs spec) as')) (flat_map-map (cases_at spec) (pair_of a) (upto_from a (length spec.ops - a)))
    ∙ ap (λ ks. flat_map (pair_cases spec a) (upto_from a (length spec.ops - a)) ++ ks) (rows_cases spec as')

pub all_cases : (spec : Spec) → flat_map (cases_at spec) (pairs_of spec) ≡ touched_cases spec
all_cases spec = rows_cases spec (upto_from 0 (length spec.ops))

-- ---- one pair more

pub row_next : (pairs more : List Pair) (a b n : ℕ) → b < n → more ≡ pairs ++ pair_of a b ∷ [] → more ++ map (pair_of a) (upto_from (b + 1) (n - (b + 1))) ≡ pairs ++ map (pair_of a) (upto_from b (n - b))
row_next pairs more a b n lt is =
    ap (λ ps. ps ++ map (pair_of a) (upto_from (b + 1) (n - (b + 1)))) is
    ∙ append_assoc pairs (pair_of a b ∷ []) (map (pair_of a) (upto_from (b + 1) (n - (b + 1))))
    ∙ ap (λ bs. pairs ++ map (pair_of a) bs) (sym (upto_next b n lt))
