-- What reading a part of a line gives: a value, a refusal, or want of memory.
use Rattle.std.specs.Prelude.{◌≡◌, Option, Some, None, Result, Ok, Err}
use Rattle.line_text.specs.declared.cause.FormError.{FormError}
use Rattle.line_text.specs.declared.cause.FormError.TheVariants as errors

infixl 10 ◌>>=◌
abbrev pub ◌>>=◌ : {A B : Type 0} → Option A → (A → Option B) → Option B
None >>= f = None
(Some x) >>= f = f x

-- a refusal is that of reading, and of want of memory nothing is said
abbrev pub Fails : {Y : Type 0} → FormError → Option Y → Type 0
Fails errors.Memory read = Unit {0}
Fails errors.Refused read = read ≡ None

-- what a function returned, seen by view, is what reading gives, unless memory ran out
abbrev pub Gives : {X Y : Type 0} → (X → Y) → Result X FormError → Option Y → Type 0
Gives view (Ok x) read = read ≡ Some (view x)
Gives view (Err e) read = Fails e read
