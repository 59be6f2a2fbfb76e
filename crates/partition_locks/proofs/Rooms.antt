-- Runs of few points are few, so that room for all of them is always enough.
use Rattle.std.proofs.Common.{◌≡◌, ℕ, ◌+◌, ◌<◌, ◌≤◌, Bool, true, false, List, [], ◌∷◌, length, inl, inr, refl, sym, ap, ◌∙◌, arith}
use Rattle.std.specs.Prelude.{◌&&◌, nat_lt, not, filter, Vec, vec_capacity}
use Rattle.std.proofs.lemmas.Bool.{and_parts, or_left, or_right, or_cases}
use Rattle.ind_base.specs.declared.span.Span.{Span}
use Rattle.spec_model.specs.Truths.{span_has}
use Rattle.run_model.specs.Points.{points_of}
use Rattle.partition_locks.specs.Held.{HeldPoints, AreApart, HoldsLess, HoldsMore, are_below, holds, holds_all, is_roomy, lies_in}
use Rattle.partition_locks.specs.Edits.{spare_in}
use Rattle.partition_locks.proofs.Apart.{has, has_parts}
use Rattle.partition_locks.proofs.Counts.{all_held, held_is_whole}

pub lt_is : (a b : ℕ) → nat_lt a b ≡ true → a < b
lt_is a b h = search (arith)

lt_from : (a b : ℕ) → a < b → nat_lt a b ≡ true
lt_from a b h = search (arith)

both : (a b : Bool) → a ≡ true → b ≡ true → (a && b) ≡ true
both true b p q = q
both false b p q = absurd cc

-- between two runs a point is left out
runs_few : (from all : ℕ) (runs : List Span) → AreApart from runs → are_below all runs ≡ true → from ≤ all + 1 → from + (length runs + length runs) ≤ all + 1
runs_few from all [] apart below le = omega (arith, le)
runs_few from all (run ∷ runs) apart below le =
    let parts = and_parts (nat_lt run.hi all) (are_below all runs) below in
    let lt = lt_is run.hi all parts.0 in
    let rest = runs_few (run.hi + 2) all runs apart.2 parts.1 (omega (arith, lt)) in
    omega (arith, rest, apart.0, apart.1)

-- where each point is below one, each run ends below it
pub below_from : (all from : ℕ) (runs : List Span) → AreApart from runs → ((x : ℕ) → lies_in runs x ≡ true → x < all) → are_below all runs ≡ true
below_from all from [] apart above = refl
below_from all from (run ∷ runs) apart above =
    both _ _ (lt_from run.hi all (above run.hi (or_left (span_has run run.hi) (lies_in runs run.hi) (has run run.hi apart.1 (omega arith)))))
    (below_from all (run.hi + 2) runs apart.2 (λ x lies. above x (or_right (span_has run x) (lies_in runs x) lies)))

-- and the other way round
pub below_is : (all : ℕ) (runs : List Span) → are_below all runs ≡ true → (x : ℕ) → lies_in runs x ≡ true → x < all
below_is all [] below x lies = absurd cc
below_is all (run ∷ runs) below x lies =
    let parts = and_parts (nat_lt run.hi all) (are_below all runs) below in
    let lt = lt_is run.hi all parts.0 in
    elim (or_cases (span_has run x) (lies_in runs x) lies) [
      | inl here ↦ let p = has_parts run x here in omega (arith, p.1, lt)
      | inr there ↦ below_is all runs parts.1 x there
    ]

-- what is roomy has room for one more
pub room_left : (runs : List Span) (spare : ℕ) → AreApart 0 runs → is_roomy (record { runs = runs; spare = spare }) ≡ true → spare ≡ 0 → ⊥
room_left runs spare apart roomy none =
    let parts = and_parts (nat_lt 512 (length runs + spare)) (are_below 1024 runs) roomy in
    let long = lt_is 512 (length runs + spare) parts.0 in
    let few = runs_few 0 1024 runs apart parts.1 (omega arith) in
    absurd (omega (arith, long, few, none))

-- room for so many makes it roomy
pub roomy_made : {Z : Type 0} (v : Vec Span Z) → AreApart 0 v.items → ((x : ℕ) → lies_in v.items x ≡ true → x < 1024) → 512 < length v.items + spare_in v → is_roomy (record { runs = v.items; spare = spare_in v }) ≡ true
roomy_made v apart above room = both _ _ (lt_from 512 (length v.items + spare_in v) room) (below_from 1024 0 v.items apart above)

-- and it stays so while the room doesn't shrink
pub roomy_still : {Z : Type 0} (old new : Vec Span Z) → vec_capacity old ≤ vec_capacity new → AreApart 0 new.items → ((x : ℕ) → lies_in new.items x ≡ true → x < 1024)
    → is_roomy (record { runs = old.items; spare = spare_in old }) ≡ true → is_roomy (record { runs = new.items; spare = spare_in new }) ≡ true
roomy_still old new room apart above roomy =
    let parts = and_parts (nat_lt 512 (length old.items + spare_in old)) (are_below 1024 old.items) roomy in
    let long = lt_is 512 (length old.items + spare_in old) parts.0 in
    roomy_made new apart above (omega (arith, long, room, old.ok, new.ok))

-- each point of a span that is held as a whole is held
pub held_each : (h : HeldPoints) (span : Span) → holds_all h span ≡ true → (x : ℕ) → span_has span x ≡ true → holds h x ≡ true
held_each h span all = all_held (holds h) span (let whole : length (filter (holds h) (points_of span)) ≡ length (points_of span) = held_is_whole h span all in omega (arith, whole))

-- with fewer points no point is higher
pub less_below : (old new : HeldPoints) (span : Span) → are_below 1024 old.runs ≡ true → HoldsLess old span new → (x : ℕ) → lies_in new.runs x ≡ true → x < 1024
less_below old new span below less x lies = below_is 1024 old.runs below x (and_parts (holds old x) (not (span_has span x)) (sym (less x) ∙ lies)).0

pub more_below : (old new : HeldPoints) (span : Span) → are_below 1024 old.runs ≡ true → span.hi < 1024 → HoldsMore old span new → (x : ℕ) → lies_in new.runs x ≡ true → x < 1024
more_below old new span below low more x lies =
    elim (or_cases (holds old x) (span_has span x) (sym (more x) ∙ lies)) [
      | inl was ↦ below_is 1024 old.runs below x was
      | inr given ↦ let p = has_parts span x given in omega (arith, p.1, low)
    ]

-- the points of what is roomy are below 1024, and so are those of its copy
pub copy_below : (old new : HeldPoints) → is_roomy old ≡ true → new.runs ≡ old.runs → (x : ℕ) → holds new x ≡ true → x < 1024
copy_below old new roomy same x lies =
    let parts = and_parts (nat_lt 512 (length old.runs + old.spare)) (are_below 1024 old.runs) roomy in
    below_is 1024 old.runs parts.1 x (ap (λ (rs : List Span). lies_in rs x) (sym same) ∙ lies)
