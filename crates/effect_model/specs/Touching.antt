-- Whether effect lines touch anything at tuples that begin with some elements.
use Rattle.std.specs.Prelude.{ℕ, ◌≤◌, Bool, true, false, ◌&&◌, ◌==◌, List, [], ◌∷◌, length}
use Rattle.std.specs.List.{AllByRecursion}
use Rattle.spec_model.specs.declared.instance.Inst.{Inst}
use Rattle.spec_model.specs.declared.operation.Line.{Line}
use Rattle.spec_model.specs.declared.operation.Line.TheVariants.{Set, Clear, Add, Sub}
use Rattle.spec_model.specs.declared.operation.Term.{Term}
use Rattle.spec_model.specs.Truths.{term_has, inst_has}
use Rattle.spec_model.specs.Changes.{elements_at}

-- the first terms have these elements
abbrev pub terms_begin : (ℕ → ℕ → Bool) → List Term → List ℕ → Bool
terms_begin has terms [] = true
terms_begin has [] (x ∷ front) = false
terms_begin has (t ∷ terms) (x ∷ front) = term_has has t x && terms_begin has terms front

-- the line sets the predicate where the first elements are these
abbrev pub line_may_set : Inst → ℕ → List ℕ → Line → Bool
line_may_set inst p front (Set q terms) = p == q && terms_begin (inst_has inst) terms front
line_may_set inst p front (Clear q terms) = p == q && terms_begin (inst_has inst) terms front
line_may_set inst p front (Add n params amount) = false
line_may_set inst p front (Sub n params amount) = false

abbrev pub begins_with : List ℕ → List ℕ → Bool
begins_with xs [] = true
begins_with [] (y ∷ front) = false
begins_with (x ∷ xs) (y ∷ front) = x == y && begins_with xs front

-- the line changes the number where the first elements are these
abbrev pub line_may_change : Inst → ℕ → List ℕ → Line → Bool
line_may_change inst n front (Set q terms) = false
line_may_change inst n front (Clear q terms) = false
line_may_change inst n front (Add m params amount) = m == n && begins_with (elements_at inst.args params) front
line_may_change inst n front (Sub m params amount) = m == n && begins_with (elements_at inst.args params) front

-- a change by at most 10 ^ 9
abbrev pub IsSmall : Line → Type 0
IsSmall (Set q terms) = Unit {0}
IsSmall (Clear q terms) = Unit {0}
IsSmall (Add n params amount) = amount ≤ 1000000000
IsSmall (Sub n params amount) = amount ≤ 1000000000

-- at most 16 lines, each with a small change
abbrev pub AreSmall : List Line → Type 0
AreSmall lines = (length lines ≤ 16) × AllByRecursion IsSmall lines
