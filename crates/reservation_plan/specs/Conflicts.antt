-- Which cases are conflicting.
use Rattle.std.specs.Prelude.{ℕ, Bool, List, filter}
use Rattle.std.specs.List.{list_any, list_all}
use Rattle.ground_clauses.specs.Cases.{bit_lists, clause_cnf, opposes, pair_cases}
use Rattle.ground_clauses.specs.Derivations.{lit_true}
use Rattle.ground_clauses.specs.declared.case.Case.{Case}
use Rattle.ground_clauses.specs.declared.case.Target.{Target}
use Rattle.ground_clauses.specs.declared.case.Target.TheVariants.{Clause as of_clause, Locked as of_pred}
use Rattle.ground_clauses.specs.declared.clauses.Cnf.{Cnf}
use Rattle.ground_clauses.specs.declared.clauses.Lit.{Lit}
use Rattle.clause_solver.specs.Models.{truth_in}
use Rattle.spec_model.specs.declared.spec.Spec.{Spec}

-- these truths make a literal of each clause true
abbrev pub is_solution : List (List Lit) → List Bool → Bool
is_solution clauses m = list_all (list_any (lit_true (truth_in m))) clauses

-- some truths of the variables, of all that there are, make each clause true
abbrev pub has_model : Cnf → Bool
has_model cnf = list_any (is_solution cnf.clauses) (bit_lists cnf.vars)

abbrev pub conflicts_at : Spec → Case → Target → Bool
conflicts_at spec k (of_clause t) = has_model (clause_cnf spec k t)
conflicts_at spec k (of_pred p) = opposes spec k p

-- the query of a case has a model, or the case opposes on a locked predicate
abbrev pub is_conflicting : Spec → Case → Bool
is_conflicting spec k = conflicts_at spec k k.target

-- the conflicting cases of two operations
abbrev pub conflicts : Spec → ℕ → ℕ → List Case
conflicts spec a b = filter (is_conflicting spec) (pair_cases spec a b)
