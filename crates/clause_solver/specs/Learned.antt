-- The rows of clauses and of what was learned from them.
use Rattle.std.specs.Prelude.{◌≡◌, true, List, [], ◌∷◌, ◌++◌, length}
use Rattle.ground_clauses.specs.Derivations.{steps_right}
use Rattle.ground_clauses.specs.declared.clauses.Cnf.{Cnf}
use Rattle.ground_clauses.specs.declared.clauses.Lit.{Lit}
use Rattle.ground_clauses.specs.declared.clauses.Step.{Step}
use Rattle.clause_solver.specs.Trails.{IsTrail}
use Rattle.clause_solver.specs.declared.solving.Search.{Search}

-- the clauses, then those of the steps
abbrev pub rows_of : List (List Lit) → List Step → List (List Lit)
rows_of clauses [] = clauses
rows_of clauses (s ∷ steps) = rows_of (clauses ++ s.lits ∷ []) steps

-- every row stands in the query or was learned by a step that is right
pub record IsSearch (cnf : Cnf) (s : Search) : Type 0 where
  pub size : length s.trail.values ≡ cnf.vars
  pub rows : s.rows ≡ rows_of cnf.clauses s.steps
  pub right : steps_right cnf.clauses s.steps ≡ true
  pub trail : IsTrail s.rows s.trail
