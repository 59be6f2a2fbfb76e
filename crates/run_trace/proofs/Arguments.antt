-- Arguments, written one after the other.
use Rattle.std.proofs.Common.{◌≡◌, ℕ, zero, suc, ◌+◌, ◌<◌, List, [], ◌∷◌, ◌++◌, length, get_or, drop, refl, sym, ap, ◌∙◌, append_assoc}
use Rattle.std.specs.Prelude.{slice_get, Some, None}
use Rattle.std.proofs.lemmas.List.{drop_more, append-nil}
use Rattle.std.proofs.lemmas.Option.{slice_get_within, get_or_from_slice_get}
use Rattle.ind_base.specs.declared.span.Span.{Span}
use Rattle.spec_model.specs.declared.clause.Var.{Var}
use Rattle.run_model.specs.Trace.{comma, arg_text, args_text}

none_left : (args : List Span) (at : ℕ) → slice_get args at ≡ None → drop at args ≡ []
none_left [] zero is = refl
none_left [] (suc at) is = refl
none_left (a ∷ args) zero is = absurd cc
none_left (a ∷ args) (suc at) is = none_left args at is

no_text : (k : ℕ) (params : List Var) → args_text k params [] ≡ []
no_text k [] = refl
no_text k (p ∷ params) = refl

-- behind the last argument there is no more text
pub args_ended : (at k : ℕ) (params : List Var) (args : List Span) (out total : List ℕ) → slice_get args at ≡ None → out ++ args_text k params (drop at args) ≡ total → out ≡ total
args_ended at k params args out total none so_far =
    sym (append-nil out) ∙ ap (λ (t : List ℕ). out ++ t) (sym (ap (args_text k params) (none_left args at none) ∙ no_text k params)) ∙ so_far

-- one more argument is out
pub args_more : (at : ℕ) (params : List Var) (args : List Span) (p : Var) (a : Span) (out first then total : List ℕ) → at < length params → p ≡ get_or params at p → slice_get args at ≡ Some a
    → first ≡ out ++ comma at → then ≡ first ++ arg_text p a → out ++ args_text at (drop at params) (drop at args) ≡ total → then ++ args_text (at + 1) (drop (at + 1) params) (drop (at + 1) args) ≡ total
args_more at params args p a out first then total lt is-p is-a is-first is-then so_far =
    let rest = args_text (at + 1) (drop (at + 1) params) (drop (at + 1) args) in
    let split-p : drop at params ≡ p ∷ drop (at + 1) params = drop_more params at p lt ∙ ap (λ (q : Var). q ∷ drop (at + 1) params) (sym is-p) in
    let split-a : drop at args ≡ a ∷ drop (at + 1) args = drop_more args at a (slice_get_within args at a is-a) ∙ ap (λ (b : Span). b ∷ drop (at + 1) args) (get_or_from_slice_get args at a a is-a) in
    let one : args_text at (drop at params) (drop at args) ≡ (comma at ++ arg_text p a) ++ rest = rw (split-p, split-a) refl in
    let out_now : then ≡ (out ++ comma at) ++ arg_text p a = is-then ∙ ap (λ (t : List ℕ). t ++ arg_text p a) is-first in
    ap (λ (t : List ℕ). t ++ rest) out_now ∙ regroup out (comma at) (arg_text p a) rest ∙ ap (λ (t : List ℕ). out ++ t) (sym one) ∙ so_far
  where
    regroup : (w x y z : List ℕ) → ((w ++ x) ++ y) ++ z ≡ w ++ ((x ++ y) ++ z)
    regroup w x y z = simp append_assoc refl
