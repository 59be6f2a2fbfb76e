-- The reservations of a plan that fits are few, and their keys are short.
use Rattle.std.proofs.Common.{◌≡◌, ℕ, zero, suc, ◌+◌, ◌*◌, ◌<◌, ◌≤◌, Bool, true, false, ◌||◌, List, [], ◌∷◌, ◌++◌, map, length, get_or, eqb, refl, arith}
use Rattle.std.specs.List.{list_any, AllByRecursion, IsDistinct}
use Rattle.std.proofs.lemmas.Bool.{eqb-true, ne_eqb}
use Rattle.std.proofs.lemmas.List.{length-map, length-append}
use Rattle.std.proofs.lemmas.Map.Steps.{length-le_from_distinct_below}
use Rattle.spec_model.specs.declared.clause.Var.{Var}
use Rattle.spec_model.specs.declared.operation.Op.{Op}
use Rattle.spec_model.specs.declared.plan.LockKind.{LockKind}
use Rattle.spec_model.specs.declared.plan.Pair.{Pair}
use Rattle.spec_model.specs.declared.plan.Plan.{Plan}
use Rattle.spec_model.specs.declared.spec.Spec.{Spec}
use Rattle.spec_model.specs.Fits.{EachPairOnce, IsWellFormed, KeyFits, LockFits, OpFits, OtherPair, PartFits, PlanFits, RisesAbove}
use Rattle.spec_model.specs.Truths.{no_op, op_at}
use Rattle.effect_model.specs.Masking.{AreFew}
use Rattle.effect_model.proofs.Needed.{all_both}

-- ---- each pair of operations as one number

abbrev code : LockKind → ℕ
code l = 64 * l.a + l.b

-- its operations are among the first 64
abbrev IsLow : LockKind → Type 0
IsLow l = (l.a < 64) × (l.b < 64)

same_first : (a b c d : ℕ) → b < 64 → d < 64 → 64 * a + b ≡ 64 * c + d → a ≡ c
same_first a b c d lb ld e = omega arith

same_second : (a b c d : ℕ) → b < 64 → d < 64 → 64 * a + b ≡ 64 * c + d → b ≡ d
same_second a b c d lb ld e = omega arith

others : (l : LockKind) (kinds : List LockKind) → IsLow l → AllByRecursion IsLow kinds → AllByRecursion (OtherPair l) kinds → AllByRecursion (λ y. eqb (code l) y ≡ false) (map code kinds)
others l [] low lows other = tt
others l (m ∷ kinds) low lows other =
    (ne_eqb (code l) (code m) (λ e. other.0 (same_first l.a l.b m.a m.b low.1 lows.0.1 e) (same_second l.a l.b m.a m.b low.1 lows.0.1 e)), others l kinds low lows.1 other.1)

distinct_codes : (kinds : List LockKind) → AllByRecursion IsLow kinds → EachPairOnce kinds → IsDistinct eqb (map code kinds)
unfolding IsDistinct
distinct_codes [] lows once = tt
distinct_codes (l ∷ kinds) lows once = (others l kinds lows.0 lows.1 once.0, distinct_codes kinds lows.1 once.1)

either : {P : Type 0} (a b : Bool) → (a ≡ true → P) → (b ≡ true → P) → (a || b) ≡ true → P
either true b f g e = f refl
either false b f g e = g e

codes_below : (kinds : List LockKind) (q : ℕ) → AllByRecursion IsLow kinds → list_any (eqb q) (map code kinds) ≡ true → q < 4096
codes_below [] q lows e = absurd cc
codes_below (l ∷ kinds) q lows e =
    either (eqb q (code l)) (list_any (eqb q) (map code kinds)) (λ same. omega (arith, eqb-true q (code l) same, lows.0.0, lows.0.1)) (λ later. codes_below kinds q lows.1 later) e

kinds_few : (kinds : List LockKind) → AllByRecursion IsLow kinds → EachPairOnce kinds → length kinds ≤ 4096
kinds_few kinds lows once =
    omega (arith, length-map kinds code, length-le_from_distinct_below (map code kinds) 4096 (distinct_codes kinds lows once) (λ q e. codes_below kinds q lows e))

-- ---- keys

params_few : (spec : Spec) (ops : List Op) (i : ℕ) → AllByRecursion (OpFits spec) ops → length (get_or ops i no_op).params ≤ 4
params_few spec [] i f = omega arith
params_few spec (o ∷ ops) zero f = f.0.few_params
params_few spec (o ∷ ops) (suc i) f = params_few spec ops i f.1

key_rises : (pa pb : List Var) (n : ℕ) (key : List Pair) → n ≤ length pa → RisesAbove n key → AllByRecursion (KeyFits pa pb) key → n + length key ≤ length pa
key_rises pa pb n [] le rises fits = omega arith
key_rises pa pb n (k ∷ key) le rises fits = omega (arith, rises.0, key_rises pa pb (suc k.a) key (omega (arith, fits.0.within_a)) rises.1 fits.1)

lock_low : (spec : Spec) (l : LockKind) → IsWellFormed spec → LockFits spec l → IsLow l
lock_low spec l w f = (omega (arith, f.ordered, f.known, w.few_ops), omega (arith, f.known, w.few_ops))

lock_short : (spec : Spec) (l : LockKind) → IsWellFormed spec → LockFits spec l → length l.key ≤ 4
lock_short spec l w f =
    omega (arith, params_few spec spec.ops l.a w.ops, key_rises (op_at spec l.a).params (op_at spec l.b).params 0 l.key (omega arith) f.key_rises f.key_fits)

-- ---- the reservations of a plan

each : {X : Type 0} (P Q : X → Type 0) → ((x : X) → P x → Q x) → (xs : List X) → AllByRecursion P xs → AllByRecursion Q xs
each P Q f [] all = tt
each P Q f (x ∷ xs) all = (f x all.0, each P Q f xs all.1)

plan_few : (spec : Spec) (plan : Plan) → IsWellFormed spec → PlanFits spec plan → length plan.locks + length plan.parts ≤ 4096
plan_few spec plan w f =
    let locks = each (LockFits spec) IsLow (λ l k. lock_low spec l w k) plan.locks f.locks_fit in
    let parts = each (PartFits spec) IsLow (λ l k. lock_low spec l w k.lock) plan.parts f.parts_fit in
    omega (arith, length-append plan.locks plan.parts, kinds_few (plan.locks ++ plan.parts) (all_both IsLow plan.locks plan.parts locks parts) f.once)

pub locks_few : (spec : Spec) (plan : Plan) → IsWellFormed spec → PlanFits spec plan → AreFew plan.locks
locks_few spec plan w f = record {
  few = omega (arith, plan_few spec plan w f);
  short = each (LockFits spec) (λ (l : LockKind). length l.key ≤ 4) (λ l k. lock_short spec l w k) plan.locks f.locks_fit;
}

pub parts_few : (spec : Spec) (plan : Plan) → IsWellFormed spec → PlanFits spec plan → AreFew plan.parts
parts_few spec plan w f = record {
  few = omega (arith, plan_few spec plan w f);
  short = each (PartFits spec) (λ (l : LockKind). length l.key ≤ 4) (λ l k. lock_short spec l w k.lock) plan.parts f.parts_fit;
}
