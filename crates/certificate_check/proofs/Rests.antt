-- What is left of a clause, once two literals are.
use Rattle.std.proofs.Common.{◌≡◌, ℕ, ◌+◌, ◌<◌, false, not, cond, List, [], ◌∷◌, ◌++◌, length, get_or, take, drop, refl, sym, ap, ◌∙◌}
use Rattle.std.specs.List.{list_any}
use Rattle.std.proofs.lemmas.List.{drop_more, take-append-drop}
use Rattle.std.proofs.lemmas.List.Elements.{filter-append}
use Rattle.certificate_check.specs.Turns.{rest_of}
use Rattle.certificate_check.specs.declared.steps.Rest.TheVariants.{Nothing, Many}
use Rattle.ground_clauses.specs.Derivations.{same_num, undecided}
use Rattle.ground_clauses.specs.declared.clauses.Lit.{Lit}

many_behind : (xs ys : List Lit) (x : Lit) → (rest_of xs ≡ Nothing → ⊥) → rest_of (xs ++ x ∷ ys) ≡ Many
many_behind [] ys x some = absurd (some refl)
many_behind (y ∷ []) ys x some = refl
many_behind (y ∷ (z ∷ more)) ys x some = refl

-- one more literal behind those that are left
pub many_left : (falses c : List Lit) (i : ℕ) (d : Lit) → i < length c → (rest_of (undecided falses (take i c)) ≡ Nothing → ⊥) → list_any (same_num (get_or c i d)) falses ≡ false
    → rest_of (undecided falses c) ≡ Many
many_left falses c i d lt some stays =
    ap (λ ys. rest_of (undecided falses ys)) (sym (take-append-drop i c) ∙ ap (λ ys. take i c ++ ys) (drop_more c i d lt))
    ∙ ap rest_of (filter-append (λ x. not (list_any (same_num x) falses)) (take i c) (get_or c i d ∷ drop (i + 1) c))
    ∙ ap (λ b. rest_of (undecided falses (take i c) ++ cond (not b) (get_or c i d ∷ undecided falses (drop (i + 1) c)) (undecided falses (drop (i + 1) c)))) stays
    ∙ many_behind (undecided falses (take i c)) (undecided falses (drop (i + 1) c)) (get_or c i d) some
