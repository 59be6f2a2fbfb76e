-- Models of clauses, and derivations from them.
use Rattle.std.specs.Prelude.{◌≡◌, ℕ, ◌<◌, Bool, true, false, ◌&&◌, ◌||◌, not, eqb, List, [], ◌∷◌, ◌++◌, filter, slice_get, Some, None, Option}
use Rattle.std.specs.List.{list_any, AllByRecursion}
use mathlib.Core.Bool.{beq}
use Rattle.ground_clauses.specs.declared.clauses.Lit.{Lit}
use Rattle.ground_clauses.specs.declared.clauses.Step.{Step}

-- each clause speaks of the first variables alone
abbrev pub SpeaksOf : ℕ → List (List Lit) → Type 0
SpeaksOf vars clauses = AllByRecursion (λ c. AllByRecursion (λ (x : Lit). x.var < vars) c) clauses

abbrev pub lit_true : (ℕ → Bool) → Lit → Bool
lit_true v x = beq (v x.var) x.yes

-- these values make each clause true
abbrev pub Solves : (ℕ → Bool) → List (List Lit) → Type 0
Solves v clauses = AllByRecursion (λ c. list_any (lit_true v) c ≡ true) clauses

abbrev pub HasNoModel : List (List Lit) → Type 0
HasNoModel clauses = (v : ℕ → Bool) → Solves v clauses → ⊥

abbrev pub same_num : Lit → Lit → Bool
same_num x y = eqb x.var y.var && beq x.yes y.yes

abbrev pub opposite_num : Lit → Lit
opposite_num x = record { var = x.var; yes = not x.yes }

-- the literals of a clause that aren't among the false ones
abbrev pub undecided : List Lit → List Lit → List Lit
undecided falses c = filter (λ x. not (list_any (same_num x) falses)) c

abbrev pub is_nil : {X : Type 0} → List X → Bool
is_nil [] = true
is_nil (x ∷ xs) = false

-- the last hint names a clause all of whose literals are false
abbrev pub ends_false : List Lit → Option (List Lit) → Bool
ends_false falses None = false
ends_false falses (Some c) = is_nil (undecided falses c)

-- exactly one literal is left, and it isn't true yet: it is made true
abbrev pub makes_true : (List Lit → Bool) → List Lit → List Lit → Bool
makes_true rest falses (x ∷ []) = not (list_any (same_num (opposite_num x)) falses) && rest (falses ++ opposite_num x ∷ [])
makes_true rest falses [] = false
makes_true rest falses (x ∷ (y ∷ more)) = false

abbrev pub hint_goes : (List Lit → Bool) → List Lit → Option (List Lit) → Bool
hint_goes rest falses None = false
hint_goes rest falses (Some c) = makes_true rest falses (undecided falses c)

-- the hints in order, with these literals false
abbrev pub propagates : List (List Lit) → List ℕ → List Lit → Bool
propagates clauses [] falses = false
propagates clauses (h ∷ []) falses = ends_false falses (slice_get clauses h)
propagates clauses (h ∷ (k ∷ hints)) falses = hint_goes (propagates clauses (k ∷ hints)) falses (slice_get clauses h)

-- some variable stands twice, in one sign or in both
abbrev pub repeats : List Lit → Bool
repeats [] = false
repeats (x ∷ xs) = list_any (λ y. eqb x.var y.var) xs || repeats xs

-- a step that follows from these clauses by its hints
abbrev pub is_right : List (List Lit) → Step → Bool
is_right clauses s = not (repeats s.lits) && propagates clauses s.hints s.lits

-- each step is right, from the clauses and the steps before it
abbrev pub steps_right : List (List Lit) → List Step → Bool
steps_right clauses [] = true
steps_right clauses (s ∷ steps) = is_right clauses s && steps_right (clauses ++ s.lits ∷ []) steps

-- there is a last step, and it has no literals
abbrev pub ends_empty : List Step → Bool
ends_empty [] = false
ends_empty (s ∷ []) = is_nil s.lits
ends_empty (s ∷ (t ∷ steps)) = ends_empty (t ∷ steps)

-- all steps are right, and the last has no literals
abbrev pub refutes : List (List Lit) → List Step → Bool
refutes clauses steps = steps_right clauses steps && ends_empty steps
