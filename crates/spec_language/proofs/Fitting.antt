-- Lists that fit, and the last operation.
use Rattle.std.proofs.Common.{◌≡◌, ℕ, ◌<◌, Bool, true, false, List, [], ◌∷◌, ◌++◌, length, get_or, drop, eqb, ◌&&◌, refl, sym, ap, arith}
use Rattle.std.specs.Prelude.{Result, Ok, Err, nat_le}
use Rattle.std.specs.List.{AllByRecursion, list_all}
use Rattle.std.proofs.lemmas.List.{drop_more}
use Rattle.spec_model.specs.declared.spec.Pred.{Pred}
use Rattle.spec_model.specs.declared.clause.Var.{Var}
use Rattle.spec_lines.specs.declared.line.NamedLiteral.{NamedLiteral}
use Rattle.spec_lines.specs.declared.line.NamedLiteral.TheVariants as literals
use Rattle.std.proofs.lemmas.Bool.{ne_eqb}
use Rattle.spec_model.specs.declared.operation.Op.{Op}
use Rattle.line_text.specs.declared.cause.Cause.{Cause}
use Rattle.line_text.specs.declared.cause.LineError.{LineError}
use Rattle.line_text.specs.declared.cause.LineError.TheVariants as errors
use Rattle.line_text.specs.Causes.{◌>>=◌, Fails}
use Rattle.spec_language.specs.Draft.{fit_all, change_last, literal_fits, has_few}

pub fit_all-ended : {A : Type 0} → (fits : A → ℕ → Bool) (xs : List A) (ss : List ℕ) → length xs ≡ 0 → fit_all fits xs ss ≡ eqb (length ss) 0
fit_all-ended fits (x ∷ xs) ss none = absurd (omega arith)
fit_all-ended fits [] [] none = refl
fit_all-ended fits [] (s ∷ ss) none = sym (ne_eqb (length (s ∷ ss)) 0 (λ e. absurd (omega arith)))

pub fit_all-short : {A : Type 0} → (fits : A → ℕ → Bool) (xs : List A) (ss : List ℕ) → ((length xs ≡ 0) → ⊥) → length ss ≡ 0 → false ≡ fit_all fits xs ss
fit_all-short fits [] ss some none = absurd (some refl)
fit_all-short fits (x ∷ xs) [] some none = refl
fit_all-short fits (x ∷ xs) (s ∷ ss) some none = absurd (omega arith)

abbrev behind : Op → Result (List Op) Cause → Result (List Op) Cause
behind op read = read >>= λ os. Ok (op ∷ os)

pub change_last-ok : (f : Op → Result Op Cause) (front : List Op) (last new : Op) → f last ≡ Ok new → change_last f (front ++ last ∷ []) ≡ Ok (front ++ new ∷ [])
change_last-ok f [] last new is = rw is refl
change_last-ok f (g ∷ []) last new is = rw is refl
change_last-ok f (g ∷ h ∷ front) last new is = ap (behind g) (change_last-ok f (h ∷ front) last new is)

refused : (f : Op → Result Op Cause) (front : List Op) (last : Op) (cause : Cause) → f last ≡ Err cause → change_last f (front ++ last ∷ []) ≡ Err cause
refused f [] last cause is = rw is refl
refused f (g ∷ []) last cause is = rw is refl
refused f (g ∷ h ∷ front) last cause is = ap (behind g) (refused f (h ∷ front) last cause is)

pub change_last-err : (e : LineError) (f : Op → Result Op Cause) (front : List Op) (last : Op) → Fails e (f last) → Fails e (change_last f (front ++ last ∷ []))
change_last-err errors.Memory f front last is = tt
change_last-err (errors.Refused cause) f front last is = refused f front last cause is

-- what holds of all holds of the last one
pub last_of_all : (P : Op → Type 0) (front : List Op) (last : Op) → AllByRecursion P (front ++ last ∷ []) → P last
last_of_all P [] last all = all.0
last_of_all P (x ∷ front) last all = last_of_all P front last all.1

and_true : (a b : Bool) → (a && b) ≡ true → (a ≡ true) × (b ≡ true)
and_true true b e = (refl, e)
and_true false b e = absurd cc

-- a literal that fits has few arguments
few_of_fits : (preds : List Pred) (vars : List Var) (literal : NamedLiteral) → literal_fits preds vars literal ≡ true → has_few literal ≡ true
unfolding literal_fits
few_of_fits preds vars (literals.Atom pred names) fits = (and_true (nat_le (length names) 3) _ fits).0
few_of_fits preds vars (literals.Equal left right) fits = refl

-- the next one of those that fit has few arguments
pub few_first : (preds : List Pred) (vars : List Var) (xs : List NamedLiteral) (i : ℕ) (x : NamedLiteral) → i < length xs → x ≡ get_or xs i x
    → list_all (literal_fits preds vars) (drop i xs) ≡ true → has_few x ≡ true
few_first preds vars xs i x lt is fit =
    let split = drop_more xs i x lt in
    few_of_fits preds vars x ((and_true (literal_fits preds vars x) _ (rw (split, ← is) at fit)).0)
