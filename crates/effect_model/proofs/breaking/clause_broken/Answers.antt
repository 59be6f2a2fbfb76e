use Rattle.std.proofs.Common.{◌≡◌, ◌∙◌, ◌≤◌, map, ap, sym, subst, List, ℕ}
use Rattle.std.specs.List.{AllByRecursion, find}
use Rattle.std.proofs.lemmas.List.{map-id}
use Rattle.spec_model.specs.declared.clause.Var.{Var}
use Rattle.spec_model.specs.Truths.{Within, var_sorts}
use Rattle.spec_model.specs.Universe.{tuples, sizes_of}
use Rattle.spec_model.specs.Breaks.{breaks_at}
use Rattle.effect_model.specs.Pruning.{tuples_behind}
use Rattle.effect_model.proofs.Sizes.{within_sorts}
use Rattle.effect_model.proofs.Standing.{clause_stands}
use Rattle.effect_model.proofs.Stays.{sizes_some}
use Rattle.effect_model.proofs.breaking.clause_broken.Goals as goal

pub find_broken-requires-clause-stands : goal.find_broken-requires-clause-stands
find_broken-requires-clause-stands g c =
    let spec = c.args.laid.now.spec.now in
    let clause = c.args.clause.now in
    let sizes : c.as_slice-2.result.now ≡ sizes_of spec (var_sorts clause) = c.as_slice-2.ensures.value ∙ c.var_sizes-sizes.ensures ∙ ap (λ (vs : List Var). sizes_of spec (map (λ v. v.sort) vs)) c.as_slice.ensures.value in
    λ xs w. rw c.new.ensures (clause_stands spec clause xs c.requires.fits (within_sorts spec (var_sorts clause) xs (subst (λ (ss : List ℕ). Within (λ s. s) ss xs) sizes w)))

pub find_broken-requires-clause-some : goal.find_broken-requires-clause-some
find_broken-requires-clause-some g c =
    let spec = c.args.laid.now.spec.now in
    let clause = c.args.clause.now in
    let sizes : c.as_slice-2.result.now ≡ sizes_of spec (var_sorts clause) = c.as_slice-2.ensures.value ∙ c.var_sizes-sizes.ensures ∙ ap (λ (vs : List Var). sizes_of spec (map (λ v. v.sort) vs)) c.as_slice.ensures.value in
    subst (AllByRecursion (λ (size : ℕ). 1 ≤ size)) (sym sizes) (sizes_some spec clause.vars c.requires.sorts c.requires.fits.sorts_known)

pub returns : goal.returns
returns g c =
    let spec = c.args.laid.now.spec.now in
    let clause = c.args.clause.now in
    let breaks = breaks_at spec c.args.laid.now.inst.now (g.T.Truth.truths c.args.laid.now.state.now) clause in
    let sizes : c.as_slice-2.result.now ≡ sizes_of spec (var_sorts clause) = c.as_slice-2.ensures.value ∙ c.var_sizes-sizes.ensures ∙ ap (λ (vs : List Var). sizes_of spec (map (λ v. v.sort) vs)) c.as_slice.ensures.value in
    c.find_broken.ensures ∙ ap (λ (front : List ℕ). find breaks (tuples_behind front c.as_slice-2.result.now)) c.new.ensures
    ∙ ap (find breaks) (map-id (tuples c.as_slice-2.result.now)) ∙ ap (λ (ss : List ℕ). find breaks (tuples ss)) sizes
