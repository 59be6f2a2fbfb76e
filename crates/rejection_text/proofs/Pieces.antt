-- Texts of lists, one piece after the other.
use Rattle.std.proofs.Common.{◌≡◌, ℕ, suc, ◌+◌, ◌-◌, ◌<◌, ◌≤◌, List, [], ◌∷◌, ◌++◌, length, get_or, drop, refl, ap, arith, ◌∙◌}
use Rattle.std.specs.Prelude.{decimal}
use Rattle.std.specs.List.{flat_map}
use Rattle.ground_clauses.proofs.Reaches.{at_place, past_end}
use Rattle.ground_clauses.specs.Cases.{upto_from}
use Rattle.rejection_text.specs.Texts.{behind, comma, numbers_from, numbers_text, param_text, params_from, params_text}
use Rattle.spec_model.specs.Truths.{no_pred}
use Rattle.spec_model.specs.declared.clause.Var.{Var}
use Rattle.spec_model.specs.declared.spec.Pred.{Pred}

pub flat_next : {X : Type 0} (f : X → List ℕ) (xs : List X) (i : ℕ) (d : X) → i < length xs → flat_map f (drop i xs) ≡ f (get_or xs i d) ++ flat_map f (drop (i + 1) xs)
flat_next f xs i d lt = at_place (λ ys. flat_map f ys ≡ f (get_or xs i d) ++ flat_map f (drop (i + 1) xs)) xs i d lt refl

pub next_number : (ns : List ℕ) (i d : ℕ) → i < length ns → numbers_from i (drop i ns) ≡ comma i ++ decimal (get_or ns i d) ++ numbers_from (i + 1) (drop (i + 1) ns)
next_number ns i d lt =
    at_place (λ xs. numbers_from i xs ≡ comma i ++ decimal (get_or ns i d) ++ numbers_from (i + 1) (drop (i + 1) ns)) ns i d lt
    (ap (λ n. comma i ++ decimal (get_or ns i d) ++ numbers_from n (drop (i + 1) ns)) (let z : suc i ≡ i + 1 = omega arith in z))

pub some_numbers : (ns : List ℕ) → 0 < length ns → numbers_text ns ≡ numbers_from 0 ns
some_numbers [] lt = absurd (omega arith)
some_numbers (n ∷ ns) lt = refl

pub next_bit : (f : ℕ → List ℕ) (c count : ℕ) → c < count → flat_map f (upto_from c (count - c)) ≡ f c ++ flat_map f (upto_from (c + 1) (count - (c + 1)))
next_bit f c count lt =
    ap (λ n. flat_map f (upto_from c n)) (let z : count - c ≡ suc (count - (c + 1)) = omega arith in z)
    ∙ ap (λ k. f c ++ flat_map f (upto_from k (count - (c + 1)))) (let z : suc c ≡ c + 1 = omega arith in z)

pub last_bit : (f : ℕ → List ℕ) (c count : ℕ) → count ≤ c → flat_map f (upto_from c (count - c)) ≡ []
last_bit f c count le = ap (λ n. flat_map f (upto_from c n)) (let z : count - c ≡ 0 = omega arith in z)

pub next_param : (count : ℕ → ℕ) (mask : ℕ) (params : List Var) (i : ℕ) (d : Var) (cs : List ℕ) → i < length params
    → params_from count mask i (drop i params) cs ≡ comma i ++ param_text count mask (get_or params i d) cs ++ params_from count mask (i + 1) (drop (i + 1) params) (behind (get_or params i d) cs)
next_param count mask params i d cs lt =
    at_place (λ ps. params_from count mask i ps cs ≡ comma i ++ param_text count mask (get_or params i d) cs ++ params_from count mask (i + 1) (drop (i + 1) params) (behind (get_or params i d) cs)) params i d lt
    (ap (λ n. comma i ++ param_text count mask (get_or params i d) cs ++ params_from count mask n (drop (i + 1) params) (behind (get_or params i d) cs)) (let z : suc i ≡ i + 1 = omega arith in z))

pub some_params : (count : ℕ → ℕ) (mask : ℕ) (params : List Var) (cs : List ℕ) → 0 < length params → params_text count mask params cs ≡ params_from count mask 0 params cs
some_params count mask [] cs lt = absurd (omega arith)
some_params count mask (p ∷ params) cs lt = refl

pub no_name : (preds : List Pred) (i : ℕ) → length preds ≤ i → (get_or preds i no_pred).name ≡ []
no_name preds i le = ap (λ (p : Pred). p.name) (past_end preds i no_pred le)
