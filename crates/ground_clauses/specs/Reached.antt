-- Whether an operation has lines for a predicate of a target.
use Rattle.std.specs.Prelude.{ℕ, Bool, false, ◌||◌, eqb, List}
use Rattle.std.specs.List.{list_any}
use Rattle.ground_clauses.specs.declared.case.Target.{Target}
use Rattle.ground_clauses.specs.declared.case.Target.TheVariants.{Clause as of_clause, Locked as of_pred}
use Rattle.spec_model.specs.Truths.{clause_in}
use Rattle.spec_model.specs.declared.clause.Literal.{Literal}
use Rattle.spec_model.specs.declared.clause.Literal.TheVariants.{Atom, Equal}
use Rattle.spec_model.specs.declared.operation.Line.{Line}
use Rattle.spec_model.specs.declared.operation.Line.TheVariants.{Add, Clear, Set, Sub}
use Rattle.spec_model.specs.declared.spec.Spec.{Spec}

-- a line that sets or clears this predicate
abbrev pub is_line_of : ℕ → Line → Bool
is_line_of p (Set q terms) = eqb p q
is_line_of p (Clear q terms) = eqb p q
is_line_of p (Add n params amount) = false
is_line_of p (Sub n params amount) = false

-- an atom whose predicate some line sets or clears
abbrev pub is_named : List Line → Literal → Bool
is_named lines (Atom p vars) = list_any (is_line_of p) lines
is_named lines (Equal l r) = false

abbrev pub can_touch : Spec → List Line → Target → Bool
can_touch spec lines (of_clause t) = list_any (is_named lines) (clause_in spec t).premise || list_any (is_named lines) (clause_in spec t).conclusion
can_touch spec lines (of_pred p) = list_any (is_line_of p) lines
