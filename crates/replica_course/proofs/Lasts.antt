-- The last element of a list.
use Rattle.std.proofs.Common.{◌≡◌, ℕ, ◌-◌, List, [], ◌∷◌, ◌++◌, length, ap, ◌∙◌, arith}
use Rattle.std.specs.Prelude.{slice_set}
use Rattle.std.proofs.lemmas.List.{length_push}
use Rattle.std.proofs.Math.Seq.{set-append_seam}

-- another one in its place
pub last_set : {X : Type 0} (list front : List X) (last item : X) (n : ℕ) → n ≡ length list → list ≡ front ++ last ∷ [] → slice_set list (n - 1) item ≡ front ++ item ∷ []
last_set list front last item n long is =
    let at : n - 1 ≡ length front = omega (arith, long, ap length is, length_push front last) in
    ap (λ l. slice_set l (n - 1) item) is ∙ ap (λ k. slice_set (front ++ last ∷ []) k item) at ∙ set-append_seam front last [] item
