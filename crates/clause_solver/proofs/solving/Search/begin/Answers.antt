use Rattle.std.proofs.Common.{sym, ap, ◌∙◌}
use Rattle.clause_solver.specs.Learned.{rows_of}
use Rattle.ground_clauses.specs.Derivations.{steps_right}
use Rattle.clause_solver.proofs.solving.Search.begin.Goals as goal

pub returns : goal.returns
returns c = record {
  size = c.in_ok-new.ensures.size;
  rows = c.over.ensures ∙ ap (rows_of c.args.cnf.now.clauses) (sym c.new-2.ensures);
  right = ap (steps_right c.args.cnf.now.clauses) c.new-2.ensures;
  trail = c.in_ok-new.ensures.trail c.over.result;
}
