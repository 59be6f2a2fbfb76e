-- Keys, one place after the other.
use Rattle.std.proofs.Common.{◌≡◌, ℕ, suc, ◌+◌, ◌-◌, ◌<◌, Bool, false, cond, List, ◌∷◌, ◌++◌, sym, ap, append_assoc, ◌∙◌, arith}
use Rattle.std.specs.Prelude.{Some}
use Rattle.std.specs.List.{flat_map}
use Rattle.certificate_check.specs.Separation.{lowest_from}
use Rattle.ground_clauses.specs.Cases.{upto_from}

pub upto_next : (b n : ℕ) → b < n → upto_from b (n - b) ≡ b ∷ upto_from (b + 1) (n - (b + 1))
upto_next b n lt = ap (upto_from b) (let z : n - b ≡ suc (n - (b + 1)) = omega arith in z) ∙ ap (λ k. b ∷ upto_from k (n - (b + 1))) (let z : suc b ≡ b + 1 = omega arith in z)

pub partner_next : (test : ℕ → Bool) (j n : ℕ) → j < n → test j ≡ false → lowest_from j test (upto_from j (n - j)) ≡ lowest_from (j + 1) test (upto_from (j + 1) (n - (j + 1)))
partner_next test j n lt h =
    ap (lowest_from j test) (upto_next j n lt)
    ∙ ap (λ b. cond b (Some j) (lowest_from (suc j) test (upto_from (j + 1) (n - (j + 1))))) h
    ∙ ap (λ i. lowest_from i test (upto_from (j + 1) (n - (j + 1)))) (let z : suc j ≡ j + 1 = omega arith in z)

pub key_next : {X : Type 0} (f : ℕ → List X) (key more : List X) (i n : ℕ) → i < n → more ≡ key ++ f i
    → more ++ flat_map f (upto_from (i + 1) (n - (i + 1))) ≡ key ++ flat_map f (upto_from i (n - i))
key_next f key more i n lt is =
    ap (λ ks. ks ++ flat_map f (upto_from (i + 1) (n - (i + 1)))) is
    ∙ append_assoc key (f i) (flat_map f (upto_from (i + 1) (n - (i + 1))))
    ∙ ap (λ is. key ++ flat_map f is) (sym (upto_next i n lt))
