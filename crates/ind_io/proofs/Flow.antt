-- Bytes that are taken or written one piece after the other.
use Rattle.std.proofs.Common.{◌≡◌, ℕ, ◌+◌, List, ◌++◌, take, drop, sym, ap, subst, ◌∙◌, append_assoc}
use Rattle.std.specs.Prelude.{Some, None}
use Rattle.std.specs.declared.option.Option.{Option}
use Rattle.std.specs.Io.KnownBytes.{Appends, Consumes}
use Rattle.std.proofs.Math.Seq.{take-add}

-- pieces that were written one after the other
pub Appends-then : (a b c : Option (List ℕ)) (xs ys : List ℕ) → Appends a b xs → Appends b c ys → Appends a c (xs ++ ys)
Appends-then None b c xs ys h k = tt
Appends-then (Some was) None c xs ys h k = absurd h
Appends-then (Some was) (Some bs) None xs ys h k = absurd k
Appends-then (Some was) (Some bs) (Some cs) xs ys h k = k ∙ ap (λ (t : List ℕ). t ++ ys) h ∙ append_assoc was xs ys

-- a piece from the middle goes behind the front
pub Appends-front : (a b c : Option (List ℕ)) (n k : ℕ) (bytes rest : List ℕ) → rest ≡ drop n bytes → Appends a b (take n bytes) → Appends b c (take k rest) → Appends a c (take (n + k) bytes)
Appends-front a b c n k bytes rest is h t =
    let u : Appends b c (take k (drop n bytes)) = subst (λ (r : List ℕ). Appends b c (take k r)) is t in
    rw (take-add n k bytes) (Appends-then a b c (take n bytes) (take k (drop n bytes)) h u)

-- pieces that were taken one after the other
pub Consumes-then : (a b c : Option (List ℕ)) (xs ys : List ℕ) → Consumes a b xs → Consumes b c ys → Consumes a c (xs ++ ys)
Consumes-then None b c xs ys h k = tt
Consumes-then (Some was) None c xs ys h k = absurd h
Consumes-then (Some was) (Some bs) None xs ys h k = absurd k
Consumes-then (Some was) (Some bs) (Some cs) xs ys h k = h ∙ ap (λ (t : List ℕ). xs ++ t) k ∙ sym (append_assoc xs ys cs)
