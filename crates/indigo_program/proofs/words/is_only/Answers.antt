use Rattle.std.proofs.Common.{◌≡◌, ◌<◌, ◌≤◌, ℕ, List, [], ◌∷◌, length, get_or, sym, ap, ◌∙◌, arith, Bool, true}
use Rattle.std.specs.Prelude.{map, IsTrue, string_bytes}
use Rattle.std.proofs.lemmas.Bool.Decides.{Decides-eqb}
use Rattle.std.proofs.lemmas.Slice.Eq.{slice_eq-Decides}
use Rattle.indigo_program.proofs.words.is_only.Goals as goal

one_word : {X : Type 0} (f : X → List ℕ) (words : List X) (w : X) → 1 ≤ length words → length words < 2 → w ≡ get_or words 0 w → map f words ≡ f w ∷ []
one_word f [] w some one is = absurd (omega arith)
one_word f (v ∷ []) w some one is = ap (λ x. f x ∷ []) (sym is)
one_word f (v ∷ u ∷ us) w some one is = absurd (omega arith)

first_is : (a b : List ℕ) → a ∷ [] ≡ b ∷ [] → a ≡ b
first_is a b e = cc

means : (r : Bool) (a b : List ℕ) (words : List (List ℕ)) → (r ≡ true → a ≡ b) × (a ≡ b → r ≡ true) → words ≡ a ∷ [] → (IsTrue r → words ≡ b ∷ []) × (words ≡ b ∷ [] → IsTrue r)
means r a b words d is = (λ yes. is ∙ ap (λ x. x ∷ []) (d.0 yes), λ e. d.1 (first_is a b (sym is ∙ e)))

pub returns-in-len1 : goal.returns-in-len1
returns-in-len1 c =
    let d = slice_eq-Decides Decides-eqb _ _ _ c.eq.ensures in
    let only = one_word string_bytes c.args.words.now c.word-item.result (omega (arith, c.in-len1.len_at_least)) c.in-len1.len_below c.word-item.is in
    means c.eq.result c.as_str.result.now _ _ d (only ∙ ap (λ x. x ∷ []) (sym c.as_str.ensures.value))
