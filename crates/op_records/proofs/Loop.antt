-- Reading values one after the other, as a loop does.
use Rattle.std.proofs.Common.{◌≡◌, ℕ, zero, suc, ◌-◌, ◌+◌, ◌≤◌, ◌<◌, List, [], ◌∷◌, ◌++◌, length, get_or, take, Option, Some, None, refl, sym, ap, ◌∙◌, append_assoc, arith}
use Rattle.std.proofs.lemmas.List.{append-nil}
use Rattle.op_records.specs.Reading.{Reader, ◌>>=◌, many_at}

-- what was read before, and what is still read
abbrev pub with_front : {A : Type 0} → List A → Option (List A × List ℕ) → Option (List A × List ℕ)
with_front front read = read >>= λ x. Some (front ++ x.0, x.1)

regroup : {A : Type 0} (front : List A) (x : A) (read : Option (List A × List ℕ)) → with_front front (read >>= λ xs. Some (x ∷ xs.0, xs.1)) ≡ with_front (front ++ x ∷ []) read
regroup front x None = refl
regroup {A} front x (Some xs) = ap (λ (all : List A). Some (all, xs.1)) (simp append_assoc)

pub goes_on : {A : Type 0} (at : Reader A) (front : List A) (count i : ℕ) (bytes : List ℕ) (x : A) (after : List ℕ) (total : Option (List A × List ℕ)) → i < count → at bytes ≡ Some (x, after)
    → with_front front (many_at at (count - i) bytes) ≡ total → with_front (front ++ x ∷ []) (many_at at (count - (i + 1)) after) ≡ total
goes_on at front count i bytes x after total lt read so_far =
    let more : count - i ≡ suc (count - (i + 1)) = omega arith in
    let one : with_front front (many_at at (count - i) bytes) ≡ with_front (front ++ x ∷ []) (many_at at (count - (i + 1)) after) = rw (more, read) (regroup front x (many_at at (count - (i + 1)) after)) in
    sym one ∙ so_far

pub ends : {A : Type 0} (at : Reader A) (front : List A) (count i : ℕ) (bytes : List ℕ) (total : Option (List A × List ℕ)) → i < count → at bytes ≡ None
    → with_front front (many_at at (count - i) bytes) ≡ total → total ≡ None
ends at front count i bytes total lt read so_far =
    let more : count - i ≡ suc (count - (i + 1)) = omega arith in
    let one : with_front front (many_at at (count - i) bytes) ≡ None = rw (more, read) refl in
    sym so_far ∙ one

pub is_done : {A : Type 0} (at : Reader A) (front : List A) (count i : ℕ) (bytes : List ℕ) (total : Option (List A × List ℕ)) → count ≤ i → with_front front (many_at at (count - i) bytes) ≡ total → total ≡ Some (front, bytes)
is_done {A} at front count i bytes total le so_far =
    let none : count - i ≡ 0 = omega arith in
    let one : with_front front (many_at at (count - i) bytes) ≡ Some (front, bytes) = rw none (ap (λ (all : List A). Some (all, bytes)) (append-nil front)) in
    sym so_far ∙ one

-- the values up to one and it
pub take_step : {A : Type 0} (xs : List A) (k : ℕ) (x : A) → k < length xs → x ≡ get_or xs k x → take k xs ++ x ∷ [] ≡ take (k + 1) xs
take_step [] k x lt is = absurd (omega (arith, lt))
take_step (y ∷ xs) zero x lt is = ap (λ z. z ∷ []) is
take_step {A} (y ∷ xs) (suc k) x lt is = ap (λ (zs : List A). y ∷ zs) (take_step xs k x (omega (arith, lt)) is) ∙ ap (λ n. take n (y ∷ xs)) (let one : suc (k + 1) ≡ suc k + 1 = omega arith in one)
