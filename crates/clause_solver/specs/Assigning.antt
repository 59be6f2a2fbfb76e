-- Values of some of the variables.
use Rattle.std.specs.Prelude.{ℕ, Bool, true, false, not, List, [], ◌∷◌, filter, get_or, slice_set}
use Rattle.ground_clauses.specs.declared.clauses.Lit.{Lit}
use Rattle.clause_solver.specs.declared.assignment.Left.{Left}
use Rattle.clause_solver.specs.declared.assignment.Left.TheVariants.{Nothing, One, Many}
use Rattle.clause_solver.specs.declared.assignment.Value.{Value}
use Rattle.clause_solver.specs.declared.assignment.Value.TheVariants.{Open, No, Yes}

abbrev pub value_of : Bool → Value
value_of true = Yes
value_of false = No

abbrev pub is_yes : Value → Bool
is_yes Open = false
is_yes No = false
is_yes Yes = true

-- a value that is this truth
abbrev pub is_truth : Value → Bool → Bool
is_truth Open b = false
is_truth No b = not b
is_truth Yes b = b

-- what is known of a variable
abbrev pub value_at : List Value → ℕ → Value
value_at values v = get_or values v Open

abbrev pub lit_false : List Value → Lit → Bool
lit_false values x = is_truth (value_at values x.var) (not x.yes)

-- the literals of a clause that aren't false
abbrev pub left : List Value → List Lit → List Lit
left values c = filter (λ x. not (lit_false values x)) c

-- nothing, one literal, or more
abbrev pub kind_of : List Lit → Left
kind_of [] = Nothing
kind_of (x ∷ []) = One x
kind_of (x ∷ (y ∷ more)) = Many

-- the values once a literal is made true
abbrev pub with_lit : List Value → Lit → List Value
with_lit values x = slice_set values x.var (value_of x.yes)
