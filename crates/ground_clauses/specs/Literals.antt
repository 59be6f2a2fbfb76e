-- Clauses by their premise and conclusion.
use Rattle.std.specs.Prelude.{ℕ, Bool, false, List, Option, is_some, map}
use Rattle.ground_clauses.specs.Cases.{case_sets}
use Rattle.ground_clauses.specs.Query.{forms, literal_form}
use Rattle.ground_clauses.specs.declared.state_lit.Form.{Form}
use Rattle.ground_clauses.specs.declared.queries.Asked.{Asked}
use Rattle.spec_model.specs.Truths.{values}
use Rattle.spec_model.specs.declared.clause.Clause.{Clause}
use Rattle.spec_model.specs.declared.clause.Literal.{Literal}
use Rattle.spec_model.specs.declared.clause.Literal.TheVariants.{Atom, Equal}
use Rattle.spec_model.specs.declared.state.Moment.{Moment}

-- an atom that is set, at these classes
abbrev pub is_set : (ℕ → List ℕ → Option Bool) → List ℕ → Literal → Bool
is_set sets cs (Atom p vars) = is_some (sets p (values cs vars))
is_set sets cs (Equal l r) = false

-- what literals that need this truth are, in a state
abbrev pub signed_forms : Asked → Moment → List ℕ → Bool → List Literal → List Form
signed_forms q m cs sign ls = map (literal_form q.spec.now (case_sets q.spec.now q.case.now) m cs sign) ls

-- what a clause's literals are, in a state
abbrev pub clause_forms : Asked → Moment → List ℕ → Clause → List Form
clause_forms q m cs c = forms q.spec.now (case_sets q.spec.now q.case.now) m cs c
