use Rattle.std.proofs.Common.{◌≡◌, false, take}
use Rattle.std.specs.List.{AllByRecursion}
use Rattle.spec_model.specs.declared.clause.Clause.{Clause}
use Rattle.replica_tests.proofs.shop.none_is_marked.Given as goal

abbrev pub invariant-loop-clause : goal.invariant-loop-clause
invariant-loop-clause l = AllByRecursion (λ (c : Clause). c.mask ≡ false) (take l.clause-index l.clauses)
