-- What taking a line gives: a value, a cause, or want of memory.
use Rattle.std.specs.Prelude.{◌≡◌, ℕ, Bool, true, false, List, [], ◌∷◌, Option, Some, None, Result, Ok, Err}
use Rattle.line_text.specs.declared.cause.FormError.{FormError}
use Rattle.line_text.specs.declared.cause.FormError.TheVariants as forms
use Rattle.line_text.specs.declared.cause.LineError.{LineError}
use Rattle.line_text.specs.declared.cause.LineError.TheVariants as errors
use Rattle.line_text.specs.declared.cause.Cause.{Cause}
use Rattle.line_text.specs.declared.cause.Cause.TheVariants as causes

infixl 10 ◌>>=◌
abbrev pub ◌>>=◌ : {A B : Type 0} → Result A Cause → (A → Result B Cause) → Result B Cause
(Ok x) >>= f = f x
(Err e) >>= f = Err e

-- a cause is that of the definition, and of want of memory nothing is said
abbrev pub Fails : {Y : Type 0} → LineError → Result Y Cause → Type 0
Fails errors.Memory read = Unit {0}
Fails (errors.Refused cause) read = read ≡ Err cause

-- what a function returned, seen by view, is what the definition gives, unless memory ran out
abbrev pub Gives : {X Y : Type 0} → (X → Y) → Result X LineError → Result Y Cause → Type 0
Gives view (Ok x) read = read ≡ Ok (view x)
Gives view (Err e) read = Fails e read

-- the cause, unless the condition holds
abbrev pub guard : Bool → Cause → Result (Unit {0}) Cause
guard true cause = Ok tt
guard false cause = Err cause

-- the place of a name that has to be declared
abbrev pub known : Option ℕ → Result ℕ Cause
known (Some i) = Ok i
known None = Err causes.UnknownName

-- a part of a line, with the cause of its refusal
abbrev pub caused : {A : Type 0} → Option A → Cause → Result A Cause
caused (Some x) cause = Ok x
caused None cause = Err cause

-- each of them, or the first cause
abbrev pub each_of : {A B : Type 0} → (A → Result B Cause) → List A → Result (List B) Cause
each_of f [] = Ok []
each_of f (x ∷ xs) = f x >>= λ y. (each_of f xs >>= λ ys. Ok (y ∷ ys))

-- the same answer with a cause
abbrev pub Rises : {X : Type 0} → Result X FormError → Result X LineError → Cause → Type 0
Rises (Ok x) result cause = result ≡ Ok x
Rises (Err forms.Memory) result cause = result ≡ Err errors.Memory
Rises (Err forms.Refused) result cause = result ≡ Err (errors.Refused cause)
