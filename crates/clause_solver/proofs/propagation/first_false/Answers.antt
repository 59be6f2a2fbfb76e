use Rattle.std.proofs.Common.{sym, ◌∙◌, arith}
use Rattle.std.proofs.lemmas.Bool.{false≢true}
use Rattle.clause_solver.proofs.Searching.{none_at_all, none_more}
use Rattle.clause_solver.specs.Search.{IsConflict}
use Rattle.clause_solver.proofs.propagation.first_false.Goals as goal

pub loop-row-preserved : goal.loop-row-preserved
loop-row-preserved c =
    none_more (IsConflict c.args.rows.now c.args.trail.now.values) c.loop-row.row c.loop-row.invariant
    (λ is. false≢true (sym c.if-is_conflict.false ∙ c.is_conflict.ensures.1 is))

pub returns-clause-none : goal.returns-clause-none
returns-clause-none c = none_at_all c.args.rows.now c.args.trail.now.values (λ r lt. c.loop-row.invariant r (omega (arith, lt)))
