-- How often a point is held before and after.
use Rattle.std.proofs.Common.{◌≡◌, ℕ, ◌+◌, Bool, true, false, not, cond, refl}
use Rattle.std.specs.Prelude.{◌||◌, ◌&&◌}
use Rattle.std.proofs.lemmas.Bool.{false≢true, true≢false}
use Rattle.ind_base.specs.declared.span.Span.{Span}
use Rattle.spec_model.specs.Truths.{span_has}
use Rattle.partition_locks.specs.Held.{HeldPoints, holds, held_times, point_times, IsFree, HoldsLess, HoldsMore}

less : (was is has : Bool) → is ≡ (was && not has) → (has ≡ true → was ≡ true) → cond was 1 0 ≡ cond is 1 0 + cond has 1 0
less true true true same held = absurd cc
less true true false same held = refl
less true false true same held = refl
less true false false same held = absurd cc
less false true true same held = absurd cc
less false true false same held = absurd cc
less false false true same held = absurd (false≢true (held refl))
less false false false same held = refl

more : (was is has : Bool) → is ≡ (was || has) → (has ≡ true → was ≡ false) → cond is 1 0 ≡ cond was 1 0 + cond has 1 0
more true is true same free = absurd (true≢false (free refl))
more true true false same free = refl
more true false false same free = absurd cc
more false true true same free = refl
more false true false same free = absurd cc
more false false true same free = absurd cc
more false false false same free = refl

pub given_counts : (old new : HeldPoints) (span : Span) → HoldsLess old span new → ((x : ℕ) → span_has span x ≡ true → holds old x ≡ true) → (x : ℕ) → held_times old x ≡ held_times new x + point_times span x
given_counts old new span h held x = less (holds old x) (holds new x) (span_has span x) (h x) (held x)

pub taken_counts : (old new : HeldPoints) (span : Span) → HoldsMore old span new → IsFree old span → (x : ℕ) → held_times new x ≡ held_times old x + point_times span x
taken_counts old new span h free x = more (holds old x) (holds new x) (span_has span x) (h x) (free x)
