-- Texts of lists, one piece after the other.
use Rattle.std.proofs.Common.{◌≡◌, ℕ, zero, suc, ◌+◌, ◌<◌, List, [], ◌∷◌, ◌++◌, length, get_or, drop, refl, ap, arith}
use Rattle.std.specs.Prelude.{codes}
use Rattle.std.specs.List.{AllByRecursion, flat_map}
use Rattle.certificate_check.specs.Printed.{cases_text, form_text, kind_text, kinds_text, number}
use Rattle.certificate_check.specs.declared.certificate.CertLine.{CertLine}
use Rattle.ground_clauses.proofs.Lists.{each_append, each_weaker}
use Rattle.ground_clauses.proofs.Reaches.{at_place}
use Rattle.spec_model.specs.Fits.{LockFits, PartFits}
use Rattle.spec_model.specs.declared.plan.LockKind.{LockKind}
use Rattle.spec_model.specs.declared.spec.Spec.{Spec}

pub flat_next : {X : Type 0} (f : X → List ℕ) (xs : List X) (i : ℕ) (d : X) → i < length xs → flat_map f (drop i xs) ≡ f (get_or xs i d) ++ flat_map f (drop (i + 1) xs)
flat_next f xs i d lt = at_place (λ ys. flat_map f ys ≡ f (get_or xs i d) ++ flat_map f (drop (i + 1) xs)) xs i d lt refl

pub kinds_next : (spec : Spec) (word : List ℕ) (kinds : List LockKind) (i : ℕ) (d : LockKind) → i < length kinds
    → kinds_text spec word i (drop i kinds) ≡ word ++ kind_text spec i (get_or kinds i d) ++ kinds_text spec word (i + 1) (drop (i + 1) kinds)
kinds_next spec word kinds i d lt =
    at_place (λ ks. kinds_text spec word i ks ≡ word ++ kind_text spec i (get_or kinds i d) ++ kinds_text spec word (i + 1) (drop (i + 1) kinds)) kinds i d lt
    (ap (λ n. word ++ kind_text spec i (get_or kinds i d) ++ kinds_text spec word n (drop (i + 1) kinds)) (let z : suc i ≡ i + 1 = omega arith in z))

pub cases_next : (lines : List CertLine) (i : ℕ) (d : CertLine) → i < length lines
    → cases_text i (drop i lines) ≡ codes "case " ++ number i ++ form_text (get_or lines i d) ++ cases_text (i + 1) (drop (i + 1) lines)
cases_next lines i d lt =
    at_place (λ ls. cases_text i ls ≡ codes "case " ++ number i ++ form_text (get_or lines i d) ++ cases_text (i + 1) (drop (i + 1) lines)) lines i d lt
    (ap (λ n. codes "case " ++ number i ++ form_text (get_or lines i d) ++ cases_text n (drop (i + 1) lines)) (let z : suc i ≡ i + 1 = omega arith in z))

pub lock_at : (spec : Spec) (kinds : List LockKind) (i : ℕ) (d : LockKind) → AllByRecursion (LockFits spec) kinds → i < length kinds → LockFits spec (get_or kinds i d)
lock_at spec [] i d h lt = absurd (omega arith)
lock_at spec (k ∷ kinds) zero d h lt = h.0
lock_at spec (k ∷ kinds) (suc i) d h lt = lock_at spec kinds i d h.1 (omega arith)

pub parts_fit : (spec : Spec) (parts : List LockKind) → AllByRecursion (PartFits spec) parts → AllByRecursion (LockFits spec) parts
parts_fit spec parts h = each_weaker (PartFits spec) (LockFits spec) parts (λ l fit. fit.lock) h

pub each_push : {X : Type 0} (P : X → Type 0) (xs : List X) (x : X) → AllByRecursion P xs → P x → AllByRecursion P (xs ++ x ∷ [])
each_push P xs x h k = each_append P xs (x ∷ []) h (k, tt)
