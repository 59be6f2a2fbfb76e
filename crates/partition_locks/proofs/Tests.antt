-- Tests that agree.
use Rattle.std.proofs.Common.{◌≡◌, Bool, true, false, not, refl}
use Rattle.std.specs.Prelude.{◌||◌, ◌&&◌}
use Rattle.std.proofs.lemmas.Bool.{false≢true, true≢false}

pub both : (p q : Bool) → (p ≡ true → q ≡ true) → (q ≡ true → p ≡ true) → p ≡ q
both true true there back = refl
both true false there back = absurd (false≢true (there refl))
both false true there back = absurd (false≢true (back refl))
both false false there back = refl

pub or_none : (b : Bool) → (b || false) ≡ b
or_none true = refl
or_none false = refl

pub or_swap : (a b : Bool) → (a || b) ≡ (b || a)
or_swap true true = refl
or_swap true false = refl
or_swap false true = refl
or_swap false false = refl

pub or_join : (a b c : Bool) → (a || (b || c)) ≡ ((a || b) || c)
or_join true b c = refl
or_join false b c = refl

pub or_middle : (r s m : Bool) → ((s || r) || m) ≡ ((r || m) || s)
or_middle true true m = refl
or_middle true false m = refl
or_middle false true true = refl
or_middle false true false = refl
or_middle false false true = refl
or_middle false false false = refl

-- s is true where r is, and neither a nor m is
pub cut : (a r m s : Bool) → (s ≡ true → a ≡ false) → (s ≡ true → m ≡ false) → (a || ((r && not s) || m)) ≡ ((a || (r || m)) && not s)
cut true r m true no_a no_m = absurd (true≢false (no_a refl))
cut false r true true no_a no_m = absurd (true≢false (no_m refl))
cut false true false true no_a no_m = refl
cut false false false true no_a no_m = refl
cut true r m false no_a no_m = refl
cut false true m false no_a no_m = refl
cut false false true false no_a no_m = refl
cut false false false false no_a no_m = refl
