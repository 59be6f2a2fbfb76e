use Rattle.std.proofs.Common.{sym, subst}
use Rattle.std.specs.List.{AllByRecursion}
use Rattle.ground_clauses.specs.Topics.{IsRight}
use Rattle.ground_clauses.proofs.Remembering.{set_right}
use Rattle.ground_clauses.proofs.memory.put.Goals as goal

pub returns-in_ok-remembered : goal.returns-in_ok-remembered
returns-in_ok-remembered c = λ spec are right.
    subst (AllByRecursion (IsRight spec)) (sym c.set.ensures)
    (set_right spec c.make_places.new.items c.free_place-place.result c.in_ok-remembered.remembered (c.make_places.ensures spec right) (c.in_ok-remembered.ensures spec are))
