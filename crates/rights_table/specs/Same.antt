-- Rights that are tested as the same are, and each is tested as itself: so they can be keys of a map.
use Rattle.std.proofs.Common.{◌≡◌, ℕ, Bool, true, false, List, refl, ap, ◌∙◌, eqb-true}
use Rattle.std.specs.Prelude.{◌==◌, ◌&&◌}
use Rattle.std.specs.Cmp.{unsigned_Decides}
use Rattle.std.specs.Str.{bytes_eq as same_numbers}
use Rattle.std.proofs.lemmas.Bool.{and_parts}
use Rattle.std.proofs.lemmas.Slice.Eq.{bytes_eq-Decides}
use Rattle.spec_model.specs.declared.right.Right.{Right}
use Rattle.spec_model.specs.declared.right.Right.TheVariants as right
use Rattle.run_model.specs.Rights.{same_right}
use Rattle.run_model.proofs.Escrow.{same_cell_is}

lock_with : (lock other : ℕ) (key others : List ℕ) → lock ≡ other → key ≡ others → right.Lock lock key ≡ right.Lock other others
lock_with lock other key others e f = ap (λ n. right.Lock n key) e ∙ ap (right.Lock other) f

part_with : (part other : ℕ) (key others : List ℕ) → part ≡ other → key ≡ others → right.Part part key ≡ right.Part other others
part_with part other key others e f = ap (λ n. right.Part n key) e ∙ ap (right.Part other) f

entry_with : (clause other : ℕ) (args others : List ℕ) (i j : ℕ) → clause ≡ other → args ≡ others → i ≡ j → right.Entry clause args i ≡ right.Entry other others j
entry_with clause other args others i j e f g = ap (λ n. right.Entry n args i) e ∙ ap (λ xs. right.Entry other xs i) f ∙ ap (right.Entry other others) g

pub same_is : (a b : Right) → same_right a b ≡ true → a ≡ b
same_is (right.Low x) (right.Low y) h = ap (λ c. right.Low c) (same_cell_is x y h)
same_is (right.Low x) (right.High y) h = absurd cc
same_is (right.Low x) (right.Lock m other) h = absurd cc
same_is (right.Low x) (right.Entry d others j) h = absurd cc
same_is (right.Low x) (right.Part q other) h = absurd cc
same_is (right.High x) (right.Low y) h = absurd cc
same_is (right.High x) (right.High y) h = ap (λ c. right.High c) (same_cell_is x y h)
same_is (right.High x) (right.Lock m other) h = absurd cc
same_is (right.High x) (right.Entry d others j) h = absurd cc
same_is (right.High x) (right.Part q other) h = absurd cc
same_is (right.Lock l key) (right.Low y) h = absurd cc
same_is (right.Lock l key) (right.High y) h = absurd cc
same_is (right.Lock l key) (right.Lock m other) h = let parts = and_parts _ _ h in lock_with l m key other (eqb-true l m parts.0) ((bytes_eq-Decides key other).0 parts.1)
same_is (right.Lock l key) (right.Entry d others j) h = absurd cc
same_is (right.Lock l key) (right.Part q other) h = absurd cc
same_is (right.Entry c args i) (right.Low y) h = absurd cc
same_is (right.Entry c args i) (right.High y) h = absurd cc
same_is (right.Entry c args i) (right.Lock m other) h = absurd cc
same_is (right.Entry c args i) (right.Entry d others j) h =
    let parts = and_parts _ _ h in
    let first = and_parts _ _ parts.0 in
    entry_with c d args others i j (eqb-true c d first.0) ((bytes_eq-Decides args others).0 first.1) (eqb-true i j parts.1)
same_is (right.Entry c args i) (right.Part q other) h = absurd cc
same_is (right.Part p key) (right.Low y) h = absurd cc
same_is (right.Part p key) (right.High y) h = absurd cc
same_is (right.Part p key) (right.Lock m other) h = absurd cc
same_is (right.Part p key) (right.Entry d others j) h = absurd cc
same_is (right.Part p key) (right.Part q other) h = let parts = and_parts _ _ h in part_with p q key other (eqb-true p q parts.0) ((bytes_eq-Decides key other).0 parts.1)

both : (a b : Bool) → a ≡ true → b ≡ true → (a && b) ≡ true
both true b p q = q
both false b p q = absurd cc

number_same : (n : ℕ) → (n == n) ≡ true
number_same n = (unsigned_Decides n n).1 refl

numbers_same : (xs : List ℕ) → same_numbers xs xs ≡ true
numbers_same xs = (bytes_eq-Decides xs xs).1 refl

pub same_refl : (a : Right) → same_right a a ≡ true
same_refl (right.Low x) = both _ _ (number_same x.num) (numbers_same x.args)
same_refl (right.High x) = both _ _ (number_same x.num) (numbers_same x.args)
same_refl (right.Lock l key) = both _ _ (number_same l) (numbers_same key)
same_refl (right.Entry c args i) = both _ _ (both _ _ (number_same c) (numbers_same args)) (number_same i)
same_refl (right.Part p key) = both _ _ (number_same p) (numbers_same key)
