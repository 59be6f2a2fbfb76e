use Rattle.std.proofs.Common.{◌≡◌, false, refl, subst}
use Rattle.std.specs.List.{AllByRecursion}
use Rattle.spec_model.specs.declared.clause.Clause.{Clause}
use Rattle.replica_tests.proofs.Walked.{bare_fits}
use Rattle.replica_tests.proofs.shop.bare.Goals as goal

pub returns-clause-fits : goal.returns-clause-fits
returns-clause-fits c =
    let none = subst (AllByRecursion (λ (k : Clause). k.mask ≡ false)) c.as_slice.ensures.value (c.if-not-none_is_marked.ensures refl) in
    bare_fits _ c.requires.well_formed none c.new.ensures c.new-2.ensures c.new-3.ensures refl
