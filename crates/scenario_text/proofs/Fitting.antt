-- Arguments that fit.
use Rattle.std.proofs.Common.{◌≡◌, ℕ, zero, suc, ◌+◌, ◌<◌, true, false, List, [], ◌∷◌, ◌++◌, length, get_or, drop, refl, sym, ap, ◌∙◌, arith, append_assoc, add-one}
use Rattle.std.specs.Prelude.{Some, slice_get}
use Rattle.std.proofs.lemmas.List.{drop_more}
use Rattle.ind_base.specs.declared.span.Span.{Span}
use Rattle.scenario_text.specs.Saying.{say_arg, say_args}
use Rattle.spec_model.specs.declared.spec.Sort.{Sort}
use Rattle.spec_model.specs.declared.clause.Var.{Var}
use Rattle.scenario_lines.specs.declared.argument.NamedArg.{NamedArg}
use Rattle.scenario_text.specs.Requests.{args_fit, args_within}

pub args_fit-short : (ps : List Var) (xs : List NamedArg) → ((length ps ≡ 0) → ⊥) → length xs ≡ 0 → false ≡ args_fit ps xs
args_fit-short [] xs some none = absurd (some refl)
args_fit-short (p ∷ ps) [] some none = refl
args_fit-short (p ∷ ps) (x ∷ xs) some none = absurd (omega arith)

pub args_within-short : (sorts : List Sort) (ps : List Var) (xs : List NamedArg) → length xs ≡ 0 → true ≡ args_within sorts ps xs
args_within-short sorts [] xs none = refl
args_within-short sorts (p ∷ ps) [] none = refl
args_within-short sorts (p ∷ ps) (x ∷ xs) none = absurd (omega arith)

split_get : (xs : List Span) (i : ℕ) (s : Span) → slice_get xs i ≡ Some s → drop i xs ≡ s ∷ drop (suc i) xs
split_get [] i s e = absurd cc
split_get (x ∷ xs) zero s e =
    let same : x ≡ s = cc in
    rw same refl
split_get (x ∷ xs) (suc i) s e = split_get xs i s e

-- one more argument was said
pub said_more : (params : List Var) (spans : List Span) (i : ℕ) (p : Var) (s : Span) (found new : List NamedArg) (total : List NamedArg) → i < length params → p ≡ get_or params i p → slice_get spans i ≡ Some s
    → new ≡ found ++ say_arg p s ∷ [] → found ++ say_args (drop i params) (drop i spans) ≡ total → new ++ say_args (drop (i + 1) params) (drop (i + 1) spans) ≡ total
said_more params spans i p s found new total lt at get pushed so_far =
    let front : drop i params ≡ p ∷ drop (i + 1) params = drop_more params i p lt ∙ ap (λ (q : Var). q ∷ drop (i + 1) params) (sym at) in
    let back : drop i spans ≡ s ∷ drop (i + 1) spans = split_get spans i s get ∙ ap (λ (k : ℕ). s ∷ drop k spans) (sym (add-one i)) in
    rw pushed (append_assoc found (say_arg p s ∷ []) (say_args (drop (i + 1) params) (drop (i + 1) spans))) ∙ (rw (front, back) at so_far)
