-- Keys, shared classes, and the lowest that separates.
use Rattle.std.proofs.Common.{◌≡◌, inl, inr, ℕ, zero, suc, ◌+◌, ◌<◌, ◌≤◌, Bool, true, false, ◌||◌, ◌&&◌, cond, eqb, List, [], ◌∷◌, ◌++◌, length, get_or, take, drop, refl, sym, ap, ◌∙◌, arith}
use Rattle.std.specs.Prelude.{Some, None, Option}
use Rattle.std.specs.List.{list_any}
use Rattle.std.proofs.lemmas.Bool.{cases_eq, or_left, or_right, and_from}
use Rattle.certificate_check.specs.Separation.{lock_fits, lowest, lowest_from, pair_meets, part_fits, same_class, shares, shares_below}
use Rattle.ground_clauses.proofs.Finding.{upto_more}
use Rattle.ground_clauses.proofs.Parts.{any_append, or_none}
use Rattle.ground_clauses.proofs.Reaches.{at_place}
use Rattle.ground_clauses.specs.Bits.{has_bit}
use Rattle.ground_clauses.specs.Cases.{Reach, bits, class_a, class_b, count_a, count_b, plain_class, point, reaches, reaches_a, reaches_b, upto_from}
use Rattle.ground_clauses.specs.declared.case.Case.{Case}
use Rattle.spec_model.specs.Truths.{op_at}
use Rattle.spec_model.specs.declared.clause.Var.{Var}
use Rattle.spec_model.specs.declared.plan.LockKind.{LockKind}
use Rattle.spec_model.specs.declared.plan.Pair.{Pair}
use Rattle.spec_model.specs.declared.spec.Spec.{Spec}

abbrev pub class_of : Reach → Option ℕ
class_of (point c) = Some c
class_of (bits mask) = None

abbrev pub same_known : Option ℕ → Option ℕ → Bool
same_known (Some c) (Some d) = eqb c d
same_known (Some c) None = false
same_known None y = false

class_at : (params : List Var) (cs : List ℕ) (mask i : ℕ) → plain_class params cs i ≡ class_of (get_or (reaches params cs mask) i (bits 0))
class_at [] cs mask i = refl
class_at (p ∷ params) cs mask zero = by_kind p.interval
  where
    by_kind : (b : Bool) → cond b None (Some (get_or cs 0 0)) ≡ class_of (get_or (cond b (bits mask ∷ reaches params cs mask) (point (get_or cs 0 0) ∷ reaches params (drop 1 cs) mask)) 0 (bits 0))
    by_kind true = refl
    by_kind false = refl
class_at (p ∷ params) cs mask (suc i) = by_kind p.interval (λ ds. class_at params ds mask i)
  where
    by_kind : (b : Bool) → ((ds : List ℕ) → plain_class params ds i ≡ class_of (get_or (reaches params ds mask) i (bits 0)))
        → plain_class params (cond b cs (drop 1 cs)) i ≡ class_of (get_or (cond b (bits mask ∷ reaches params cs mask) (point (get_or cs 0 0) ∷ reaches params (drop 1 cs) mask)) (suc i) (bits 0))
    by_kind true h = h cs
    by_kind false h = h (drop 1 cs)

same_by_class : (x y : Reach) → same_class x y ≡ same_known (class_of x) (class_of y)
same_by_class (point c) (point d) = refl
same_by_class (point c) (bits d) = refl
same_by_class (bits c) y = refl

pub classes_meet : (spec : Spec) (k : Case) (p : Pair) → pair_meets spec k p ≡ same_known (class_a spec k p.a) (class_b spec k p.b)
classes_meet spec k p =
    same_by_class (get_or (reaches_a spec k) p.a (bits 0)) (get_or (reaches_b spec k) p.b (bits 0))
    ∙ ap (λ x. same_known x (class_of (get_or (reaches_b spec k) p.b (bits 0)))) (sym (class_at (op_at spec k.a).params (take (count_a spec k) k.classes) k.bits_a p.a))
    ∙ ap (λ y. same_known (class_a spec k p.a) y) (sym (class_at (op_at spec k.b).params (take (count_b spec k) (drop (count_a spec k) k.classes)) k.bits_b p.b))

-- ---- shared classes

pub shares_step : (k : Case) (i : ℕ) → shares_below k (i + 1) ≡ (shares_below k i || (has_bit k.bits_a i && has_bit k.bits_b i))
shares_step k i =
    ap (λ n. shares_below k n) (let z : i + 1 ≡ suc i = omega arith in z)
    ∙ ap (list_any (λ c. has_bit k.bits_a c && has_bit k.bits_b c)) (upto_more 0 i ∙ ap (λ n. upto_from 0 i ++ n ∷ []) (let z : 0 + i ≡ i = omega arith in z))
    ∙ any_append (λ c. has_bit k.bits_a c && has_bit k.bits_b c) (upto_from 0 i) (i ∷ [])
    ∙ ap (λ b. shares_below k i || b) (or_none (has_bit k.bits_a i && has_bit k.bits_b i))

any_upto : (p : ℕ → Bool) (j n i : ℕ) → j ≤ i → i < j + n → p i ≡ true → list_any p (upto_from j n) ≡ true
any_upto p j zero i le lt h = absurd (omega arith)
any_upto p j (suc n) i le lt h = elim (cases_eq i j) [
  | inl is ↦ or_left (p j) (list_any p (upto_from (suc j) n)) (ap p (sym is) ∙ h)
  | inr other ↦ or_right (p j) (list_any p (upto_from (suc j) n)) (any_upto p (suc j) n i (omega arith) (omega arith) h)
]

pub shared_at : (k : Case) (n i : ℕ) → i < n → has_bit k.bits_a i ≡ true → has_bit k.bits_b i ≡ true → shares_below k n ≡ true
shared_at k n i lt in_a in_b = any_upto (λ c. has_bit k.bits_a c && has_bit k.bits_b c) 0 n i (omega arith) (omega arith) (and_from (has_bit k.bits_a i) (has_bit k.bits_b i) in_a in_b)

-- ---- the lowest

pub lowest_step : (test : LockKind → Bool) (xs : List LockKind) (i : ℕ) (d : LockKind) → i < length xs → lowest_from i test (drop i xs) ≡ cond (test (get_or xs i d)) (Some i) (lowest_from (i + 1) test (drop (i + 1) xs))
lowest_step test xs i d lt =
    at_place (λ ys. lowest_from i test ys ≡ cond (test (get_or xs i d)) (Some i) (lowest_from (i + 1) test (drop (i + 1) xs))) xs i d lt
    (ap (λ n. cond (test (get_or xs i d)) (Some i) (lowest_from n test (drop (i + 1) xs))) (let z : suc i ≡ i + 1 = omega arith in z))

and_false : (b : Bool) → (b && false) ≡ false
and_false true = refl
and_false false = refl

and_true : (b : Bool) → (b && true) ≡ b
and_true true = refl
and_true false = refl

lowest_same : (n : ℕ) (f g : LockKind → Bool) (xs : List LockKind) → ((x : LockKind) → f x ≡ g x) → lowest_from n f xs ≡ lowest_from n g xs
lowest_same n f g [] h = refl
lowest_same n f g (x ∷ xs) h = ap (λ b. cond b (Some n) (lowest_from (suc n) f xs)) (h x) ∙ ap (λ o. cond (g x) (Some n) o) (lowest_same (suc n) f g xs h)

lowest_never : (n : ℕ) (xs : List LockKind) → lowest_from n (λ x. false) xs ≡ None
lowest_never n [] = refl
lowest_never n (x ∷ xs) = lowest_never (suc n) xs

-- no partition separates where no class is shared, and else its lock decides
pub none_share : (spec : Spec) (k : Case) (xs : List LockKind) → shares k ≡ false → lowest (part_fits spec k) xs ≡ None
none_share spec k xs h = lowest_same 0 (part_fits spec k) (λ x. false) xs (λ x. ap (λ b. lock_fits spec k x && b) h ∙ and_false (lock_fits spec k x)) ∙ lowest_never 0 xs

pub some_share : (spec : Spec) (k : Case) (xs : List LockKind) → shares k ≡ true → lowest (part_fits spec k) xs ≡ lowest (lock_fits spec k) xs
some_share spec k xs h = lowest_same 0 (part_fits spec k) (lock_fits spec k) xs (λ x. ap (λ b. lock_fits spec k x && b) h ∙ and_true (lock_fits spec k x))
