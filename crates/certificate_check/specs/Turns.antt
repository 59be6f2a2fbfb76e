-- The hints of a step, one turn for each.
use Rattle.std.specs.Prelude.{Bool, false, ◌||◌, if◌then◌else◌, List, [], ◌∷◌, ◌++◌, Some, None, Option}
use Rattle.std.specs.List.{list_any}
use Rattle.certificate_check.specs.declared.steps.Rest.{Rest}
use Rattle.certificate_check.specs.declared.steps.Rest.TheVariants.{Nothing, One, Many}
use Rattle.certificate_check.specs.declared.steps.Turn.{Turn}
use Rattle.certificate_check.specs.declared.steps.Turn.TheVariants.{Ends, Goes}
use Rattle.ground_clauses.specs.Derivations.{opposite_num, same_num, undecided}
use Rattle.ground_clauses.specs.declared.clauses.Lit.{Lit}
use Rattle.ground_clauses.specs.declared.clauses.Step.{Step}

-- what is left of a clause: nothing, one literal, or more
abbrev pub rest_of : List Lit → Rest
rest_of [] = Nothing
rest_of (x ∷ []) = One x
rest_of (x ∷ (y ∷ more)) = Many

abbrev pub turn_at : Bool → List Lit → Rest → Turn
turn_at last falses Nothing = Ends last
turn_at last falses Many = Ends false
turn_at last falses (One x) = if last || list_any (same_num (opposite_num x)) falses then Ends false else Goes (opposite_num x)

-- what a hint does: it ends the step, or makes one more literal false
abbrev pub turn_of : Bool → List Lit → Option (List Lit) → Turn
turn_of last falses None = Ends false
turn_of last falses (Some c) = turn_at last falses (rest_of (undecided falses c))

abbrev pub after : (List Lit → Bool) → List Lit → Turn → Bool
after go falses (Ends yes') = yes'
after go falses (Goes x) = go (falses ++ x ∷ [])

-- the clauses of these steps
abbrev pub steps_lits : List Step → List (List Lit)
steps_lits [] = []
steps_lits (s ∷ steps) = s.lits ∷ steps_lits steps
