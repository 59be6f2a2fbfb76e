-- Models of clauses, and the least of them.
use Rattle.std.specs.Prelude.{◌≡◌, ℕ, ◌<◌, Bool, true, false, List, length, get_or}
use Rattle.ground_clauses.specs.Derivations.{Solves, refutes}
use Rattle.ground_clauses.specs.declared.clauses.Cnf.{Cnf}
use Rattle.clause_solver.specs.declared.answer.Answer.{Answer}
use Rattle.clause_solver.specs.declared.answer.Answer.TheVariants.{Model, Refuted}

-- the truth of a variable
abbrev pub truth_in : List Bool → ℕ → Bool
truth_in m v = get_or m v false

-- a truth for each variable, which makes each clause true
pub record IsModel (cnf : Cnf) (m : List Bool) : Type 0 where
  pub size : length m ≡ cnf.vars
  pub solves : Solves (truth_in m) cnf.clauses

-- in lexicographic order, false before true: where they agree on all variables before one, the first is true there only if the second is
abbrev pub IsAtMost : List Bool → List Bool → Type 0
IsAtMost m w = (v : ℕ) → ((u : ℕ) → u < v → truth_in m u ≡ truth_in w u) → truth_in m v ≡ true → truth_in w v ≡ true

-- a model that no model comes before
pub record IsLeastModel (cnf : Cnf) (m : List Bool) : Type 0 where
  pub model : IsModel cnf m
  pub least : (w : List Bool) → IsModel cnf w → IsAtMost m w

-- the least model, or a right derivation that ends in a step without literals
abbrev pub IsAnswer : Cnf → Answer → Type 0
IsAnswer cnf (Model m) = IsLeastModel cnf m
IsAnswer cnf (Refuted d) = refutes cnf.clauses d.steps ≡ true
