use Rattle.std.proofs.Common.{◌∙◌}
use Rattle.clause_solver.proofs.Found.{least_found, none_weaker}
use Rattle.clause_solver.proofs.solving.Search.descend.Goals as goal

pub returns-clause-model : goal.returns-clause-model
returns-clause-model c =
    λ cnf speaks is. none_weaker c.in_ok-found.found c.in_ok-found.ensures.known c.in_ok-found.ensures.none
    (λ known none. least_found cnf (record c.args.self.now { rows = c.note_all.new.self; trail = c.descend.new.trail })
    (record {
      size = c.in_ok-found.ensures.moves.grows.size ∙ c.in_ok-row.ensures.moves.grows.size ∙ is.size;
      rows = c.in_ok-note_all.ensures ∙ is.rows;
      right = is.right;
      trail = c.in_ok-found.ensures.moves.trail;
    }) speaks known none)
