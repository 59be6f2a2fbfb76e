-- Lists whose elements are replaced in place, one by one.
use Rattle.std.proofs.Common.{◌≡◌, ℕ, zero, suc, ◌+◌, ◌<◌, List, [], ◌∷◌, ◌++◌, length, get_or, map, take, drop, sym, ap, ◌∙◌, arith}
use Rattle.std.specs.Prelude.{slice_set}

-- with the next one replaced
pub mapped_next : {X : Type 0} (f : X → X) (xs : List X) (k : ℕ) (x : X) → k < length xs → x ≡ get_or (map f (take k xs) ++ drop k xs) k x
    → slice_set (map f (take k xs) ++ drop k xs) k (f x) ≡ map f (take (k + 1) xs) ++ drop (k + 1) xs
mapped_next f [] k x lt is = absurd (omega (arith, lt))
mapped_next f (y ∷ xs) zero x lt is = ap (λ z. f z ∷ xs) is
mapped_next {X} f (y ∷ xs) (suc k) x lt is =
    ap (λ (zs : List X). f y ∷ zs) (mapped_next f xs k x (omega (arith, lt)) is)
    ∙ sym (ap (λ n. map f (take n (y ∷ xs)) ++ drop n (y ∷ xs)) (let one : suc k + 1 ≡ suc (k + 1) = omega arith in one))
