-- What stands first.
use Rattle.std.proofs.Common.{◌≡◌, ℕ, ◌≤◌, List, ◌∷◌, ◌++◌, length, get_or, take, drop, sym, ◌∙◌, ap, arith, take-append-drop}
use Rattle.std.proofs.lemmas.List.{drop_more}
use Rattle.rights_journal.specs.Image.{magic, HasHeader}

pub header_from : (bytes front : List ℕ) → 10 ≤ length bytes → front ≡ take 9 bytes → front ≡ 1 ∷ magic → HasHeader bytes
header_from bytes front long taken is =
    let behind : drop 9 bytes ≡ get_or bytes 9 0 ∷ drop 10 bytes = drop_more bytes 9 0 (omega (arith, long)) in (
      get_or bytes 9 0,
      drop 10 bytes,
      sym (take-append-drop 9 bytes) ∙ ap (λ (l : List ℕ). l ++ drop 9 bytes) (sym taken ∙ is) ∙ ap (λ (l : List ℕ). (1 ∷ magic) ++ l) behind,
    )
