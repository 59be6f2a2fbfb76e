-- Steps that give a value or nothing, and tests.
use Rattle.std.proofs.Common.{◌≡◌, ◌⊎◌, inl, inr, ℕ, Bool, true, false, cond, eqb, Option, Some, None, refl, ap}
use Rattle.std.specs.Prelude.{IfOk, Result, Ok, Err}
use Rattle.std.proofs.lemmas.Bool.{eqb-true}
use Rattle.op_records.specs.Reading.{◌>>=◌}

-- the value of a step that gave one
pub bind_some : {A B : Type 0} (read : Option A) (f : A → Option B) (y : B) → (read >>= f) ≡ Some y → (x : A) × (read ≡ Some x) × (f x ≡ Some y)
bind_some None f y e = absurd cc
bind_some (Some x) f y e = (x, refl, e)

-- a test that was passed
pub passed : {A : Type 0} (b : Bool) (x y : A) → cond b (Some x) None ≡ Some y → (b ≡ true) × (x ≡ y)
passed true x y e = (refl, cc)
passed false x y e = absurd cc

pub not_short : {A : Type 0} (b : Bool) (x y : A) → cond b None (Some x) ≡ Some y → (b ≡ false) × (x ≡ y)
not_short true x y e = absurd cc
not_short false x y e = (refl, cc)

pub some_is : {A : Type 0} (x y : A) → Some x ≡ Some y → x ≡ y
some_is x y e = cc

-- a step that gave a value goes on with it
pub then_again : {A B : Type 0} (read : Option A) (f : A → Option B) (x : A) → read ≡ Some x → (read >>= f) ≡ f x
then_again read f x is = ap (λ r. r >>= f) is

either_of : {X : Type 0} (t k : ℕ) (b : Bool) (x y z : X) → (b ≡ true → t ≡ k) → cond b x y ≡ z → ((t ≡ k) × (x ≡ z)) ⊎ (y ≡ z)
either_of t k true x y z is e = inl (is refl, e)
either_of t k false x y z is e = inr e

-- a test for a tag was passed or not
pub either : {X : Type 0} (t k : ℕ) (x y z : X) → cond (eqb t k) x y ≡ z → ((t ≡ k) × (x ≡ z)) ⊎ (y ≡ z)
either t k x y z e = either_of t k (eqb t k) x y z (eqb-true t k) e

-- of an answer Ok
pub map_ok : {X E : Type 0} {P Q : X → Type 0} (result : Result X E) → ((x : X) → P x → Q x) → IfOk result P → IfOk result Q
map_ok (Ok x) f p = f x p
map_ok (Err e) f p = tt
