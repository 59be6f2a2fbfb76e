use Rattle.std.specs.List.{AllByRecursion}
use Rattle.ground_clauses.specs.Topics.{IsRight}
use Rattle.spec_model.specs.declared.spec.Spec.{Spec}
use Rattle.ground_clauses.proofs.memory.make_places.Given as goal

abbrev pub invariant-loop : goal.invariant-loop
invariant-loop l = (spec : Spec) → AllByRecursion (IsRight spec) l.fn.items → AllByRecursion (IsRight spec) l.items
