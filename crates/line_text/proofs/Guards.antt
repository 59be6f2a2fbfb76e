-- What a chain of causes says where it ends well.
use Rattle.std.proofs.Common.{◌≡◌, Bool, true, false, ◌&&◌, not, refl}
use Rattle.std.specs.Prelude.{Result, Ok, Err, Option, Some, None}
use Rattle.line_text.specs.declared.cause.Cause.{Cause}
use Rattle.line_text.specs.Causes.{◌>>=◌, guard, caused}

pub and_true : (a b : Bool) → (a && b) ≡ true → (a ≡ true) × (b ≡ true)
and_true true b e = (refl, e)
and_true false b e = absurd cc

pub not_true : (b : Bool) → not b ≡ true → b ≡ false
not_true true e = absurd cc
not_true false e = refl

pub guard_ok : {A : Type 0} → (b : Bool) (c : Cause) (f : Unit {0} → Result A Cause) (y : A) → (guard b c >>= f) ≡ Ok y → (b ≡ true) × (f tt ≡ Ok y)
guard_ok true c f y e = (refl, e)
guard_ok false c f y e = absurd cc

pub bind_ok : {A B : Type 0} → (r : Result A Cause) (f : A → Result B Cause) (y : B) → (r >>= f) ≡ Ok y → (x : A) × (r ≡ Ok x) × (f x ≡ Ok y)
bind_ok (Ok x) f y e = (x, refl, e)
bind_ok (Err c) f y e = absurd cc

abbrev pub good : {A : Type 0} → A → Result A Cause
good x = Ok x

pub ok_same : {A : Type 0} → (x y : A) → good x ≡ good y → x ≡ y
ok_same x y e = cc

pub caused_ok : {A : Type 0} → (o : Option A) (c : Cause) (x : A) → caused o c ≡ Ok x → o ≡ Some x
caused_ok (Some y) c x e = cc
caused_ok None c x e = absurd cc
