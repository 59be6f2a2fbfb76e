-- The tuple at a place is looked for declaration by declaration.
use Rattle.std.proofs.Common.{◌≡◌, ℕ, ◌+◌, ◌-◌, ◌<◌, ◌≤◌, List, ◌∷◌, length, get_or, drop, sym, ap, ◌∙◌, arith, Some}
use Rattle.std.specs.List.{slice_get, sum_by}
use Rattle.std.specs.Option.{option_map}
use Rattle.std.proofs.lemmas.List.{drop_more}
use Rattle.std.proofs.lemmas.List.Sums.{sum_by-cons}
use Rattle.std.proofs.lemmas.Option.{slice_get-map}
use Rattle.spec_model.specs.declared.spec.Spec.{Spec}
use Rattle.spec_model.specs.Universe.{tuples, sizes_of}
use Rattle.effect_model.specs.Tuples.{count_over, tuple_at}
use Rattle.effect_model.specs.Listed.{tuples_of}
use Rattle.effect_model.proofs.Tuples.{get-left, get-right, get-tuples}
use Rattle.effect_model.proofs.Declarations.{tuple, block, length-block}

-- the place is looked for behind the first i declarations
pub record IsFinding {D : Type 0} (spec : Spec) (sorts : D → List ℕ) (ds : List D) (place i left : ℕ) : Type 0 where
  pub same : slice_get (tuples_of spec sorts i (drop i ds)) left ≡ slice_get (tuples_of spec sorts 0 ds) place
  pub within : left < sum_by (count_over spec sorts) (drop i ds)

-- it stands in the next one
pub found_here : {D : Type 0} (spec : Spec) (sorts : D → List ℕ) (ds : List D) (place i left : ℕ) (d : D) → i < length ds → d ≡ get_or ds i d → IsFinding spec sorts ds place i left → left < count_over spec sorts d
    → slice_get (tuples_of spec sorts 0 ds) place ≡ Some (tuple i (tuple_at (sizes_of spec (sorts d)) left))
found_here spec sorts ds place i left d lt is f few =
    let split : drop i ds ≡ d ∷ drop (i + 1) ds = drop_more ds i d lt ∙ ap (λ e. e ∷ drop (i + 1) ds) (sym is) in
    sym f.same ∙ ap (λ es. slice_get (tuples_of spec sorts i es) left) split
    ∙ get-left (block spec sorts i d) (tuples_of spec sorts (i + 1) (drop (i + 1) ds)) left (omega (arith, length-block spec sorts i d))
    ∙ slice_get-map (tuple i) (tuples (sizes_of spec (sorts d))) left
    ∙ ap (option_map (tuple i)) (get-tuples (sizes_of spec (sorts d)) left few)

-- it stands behind the next one
pub found_behind : {D : Type 0} (spec : Spec) (sorts : D → List ℕ) (ds : List D) (place i left : ℕ) (d : D) → i < length ds → d ≡ get_or ds i d → IsFinding spec sorts ds place i left → count_over spec sorts d ≤ left
    → IsFinding spec sorts ds place (i + 1) (left - count_over spec sorts d)
found_behind spec sorts ds place i left d lt is f many =
    let split : drop i ds ≡ d ∷ drop (i + 1) ds = drop_more ds i d lt ∙ ap (λ e. e ∷ drop (i + 1) ds) (sym is) in
    let rest = left - count_over spec sorts d in
    let sums : sum_by (count_over spec sorts) (drop i ds) ≡ count_over spec sorts d + sum_by (count_over spec sorts) (drop (i + 1) ds) = ap (sum_by (count_over spec sorts)) split ∙ sum_by-cons (count_over spec sorts) d (drop (i + 1) ds) in
    record {
      same = sym (get-right (block spec sorts i d) (tuples_of spec sorts (i + 1) (drop (i + 1) ds)) left rest (omega (arith, length-block spec sorts i d)))
          ∙ sym (ap (λ es. slice_get (tuples_of spec sorts i es) left) split) ∙ f.same;
      within = omega (arith, f.within, sums);
    }
