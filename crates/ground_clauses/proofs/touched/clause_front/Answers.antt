use Rattle.ground_clauses.proofs.Fronts.{front_found}
use Rattle.ground_clauses.proofs.touched.clause_front.Goals as goal

pub returns-then-not-equalities_true : goal.returns-then-not-equalities_true
returns-then-not-equalities_true c =
    front_found c.args.spec.now c.args.case.now c.args.place _ _ _ _ _ c.clause_at-clause.ensures c.parts_of-parts.ensures.target c.parts_of-parts.ensures.first c.equalities_true.ensures c.if-not-equalities_true.true c.touches.ensures
