use Rattle.std.proofs.Common.{◌≡◌, ◌++◌, ◌∙◌, map, ap, subst, List, ℕ, [], OnOk}
use Rattle.std.specs.List.{flat_map}
use Rattle.spec_model.specs.declared.clause.Clause.{Clause}
use Rattle.spec_model.specs.declared.clause.Var.{Var}
use Rattle.spec_model.specs.declared.right.Need.{Need}
use Rattle.spec_model.specs.Truths.{Within, var_sorts}
use Rattle.spec_model.specs.Universe.{tuples, sizes_of}
use Rattle.effect_model.specs.Masking.{wanted_needs}
use Rattle.effect_model.proofs.Sizes.{within_sorts}
use Rattle.effect_model.proofs.Standing.{clause_stands}
use Rattle.effect_model.proofs.masking.add_clause.Goals as goal

pub walk-requires-clause-fits : goal.walk-requires-clause-fits
walk-requires-clause-fits g c =
    let masking = c.args.masking.now in
    let spec = masking.laid.now.spec.now in
    let clause = masking.clause.now in
    let sizes : c.as_slice-2.result.now ≡ sizes_of spec (var_sorts clause) = c.as_slice-2.ensures.value ∙ c.var_sizes-sizes.ensures ∙ ap (λ (vs : List Var). sizes_of spec (map (λ v. v.sort) vs)) c.as_slice.ensures.value in
    λ xs w. record {
      ready = c.requires.laid;
      stands = rw c.new.ensures (clause_stands spec clause xs c.requires.fits (within_sorts spec (var_sorts clause) xs (subst (λ (ss : List ℕ). Within (λ s. s) ss xs) sizes w)));
      short = c.requires.fits.few_literals;
    }

pub returns : goal.returns
returns g c =
    let masking = c.args.masking.now in
    let spec = masking.laid.now.spec.now in
    let clause = masking.clause.now in
    let sizes : c.as_slice-2.result.now ≡ sizes_of spec (var_sorts clause) = c.as_slice-2.ensures.value ∙ c.var_sizes-sizes.ensures ∙ ap (λ (vs : List Var). sizes_of spec (map (λ v. v.sort) vs)) c.as_slice.ensures.value in
    let listed : Clause → List ℕ → List ℕ → List Need = λ k front ss. flat_map (λ (behind : List ℕ). wanted_needs masking.wanted spec masking.laid.now.inst.now (g.T.Truth.truths masking.laid.now.state.now) masking.at k (front ++ behind)) (tuples ss) in
    subst (λ (ns : List Need). OnOk c.walk.result (c.walk.new.out ≡ c.args.out.now ++ ns))
    (ap (λ (front : List ℕ). listed clause front c.as_slice-2.result.now) c.new.ensures ∙ ap (listed clause []) sizes ∙ ap (λ (k : Clause). listed k [] (sizes_of spec (var_sorts k))) c.requires.clause_is)
    c.walk.ensures
