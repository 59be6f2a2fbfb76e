-- How a line about a replica begins.
use Rattle.std.proofs.Common.{◌≡◌, ◌∙◌, ℕ, ◌+◌, ◌<◌, List, [], ◌∷◌, ◌++◌, append_assoc, sym}
use Rattle.std.specs.Prelude.{codes, decimal}
use Rattle.std.proofs.lemmas.Fmt.{decimal_digit}

pub one_digit : (out : List ℕ) (me : ℕ) → me < 10 → out ++ 114 ∷ (48 + me) ∷ 32 ∷ [] ≡ out ++ codes "r" ++ decimal me ++ codes " "
one_digit out me lt =
    let digit : List ℕ = (48 + me) ∷ [] in
    rw (decimal_digit me lt) (sym (append_assoc (out ++ codes "r") digit (codes " ") ∙ append_assoc out (codes "r") (digit ++ codes " ")))
