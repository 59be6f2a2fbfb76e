-- What a hypothesis is in the first three states, by the numbers of its variables.
use Rattle.std.specs.Prelude.{◌≡◌, ℕ, ◌<◌, Bool, true, false, ◌&&◌, ◌||◌, not, if◌then◌else◌, eqb, List, [], ◌∷◌, ◌++◌, length, map}
use Rattle.std.specs.List.{list_any, flat_map, AllByRecursion}
use mathlib.Core.Bool.{beq}
use Rattle.ground_clauses.specs.Asking.{form_clauses}
use Rattle.ground_clauses.specs.Literals.{signed_forms}
use Rattle.ground_clauses.specs.Query.{dedup, form_lits, index_of, is_certain, numbered, same_variable}
use Rattle.ground_clauses.specs.declared.clauses.Lit.{Lit}
use Rattle.ground_clauses.specs.declared.instances.Instance.{Instance}
use Rattle.ground_clauses.specs.declared.queries.Asked.{Asked}
use Rattle.ground_clauses.specs.declared.state_lit.Form.{Form}
use Rattle.ground_clauses.specs.declared.state_lit.StateLit.{StateLit}
use Rattle.ground_clauses.specs.declared.state_lit.Variable.{Variable}
use Rattle.ground_clauses.specs.declared.three_states.OneState.{OneState}
use Rattle.ground_clauses.specs.declared.three_states.ThreeStates.{ThreeStates as Three}
use Rattle.spec_model.specs.declared.clause.Literal.{Literal}
use Rattle.spec_model.specs.declared.state.Moment.TheVariants.{First, Second, Start}

abbrev pub number_lit : ℕ → Bool → Lit
number_lit n b = record { var = n; yes = b }

abbrev pub same_number : Lit → Lit → Bool
same_number x y = eqb x.var y.var && beq x.yes y.yes

abbrev pub denied_number : Lit → Lit
denied_number x = number_lit x.var (not x.yes)

abbrev pub both_numbers : List Lit → Bool
both_numbers [] = false
both_numbers (x ∷ xs) = list_any (same_number (denied_number x)) xs || both_numbers xs

-- a literal of a variable that is among these
abbrev pub IsOwn : List Variable → StateLit → Type 0
IsOwn vs l = index_of (same_variable l.var) vs < length vs

-- these forms were added
pub record Grows (vs : List Variable) (old new : OneState) (fs : List Form) : Type 0 where
  pub certain : new.certain ≡ (old.certain || list_any is_certain fs)
  pub lits : new.lits ≡ old.lits ++ map (numbered vs) (flat_map form_lits fs)
  pub own : new.own ≡ true → (old.own ≡ true) × AllByRecursion (IsOwn vs) (flat_map form_lits fs)

pub record IsCertain (old new : OneState) (truth : Bool) : Type 0 where
  pub certain : new.certain ≡ (old.certain || truth)
  pub own : new.own ≡ old.own
  pub lits : new.lits ≡ old.lits

pub record AllCertain (old new : Three) (truth : Bool) : Type 0 where
  pub start : IsCertain old.start new.start truth
  pub first : IsCertain old.first new.first truth
  pub second : IsCertain old.second new.second truth

-- these literals of a clause were added in each state
pub record GrowsBy (q : Asked) (old new : Three) (cs : List ℕ) (sign : Bool) (ls : List Literal) : Type 0 where
  pub start : Grows q.variables.now old.start new.start (signed_forms q Start cs sign ls)
  pub first : Grows q.variables.now old.first new.first (signed_forms q First cs sign ls)
  pub second : Grows q.variables.now old.second new.second (signed_forms q Second cs sign ls)

-- the clause that was read; none, where it is certain or a variable stands in both signs
abbrev pub read_clauses : OneState → List (List Lit)
read_clauses s = if s.certain || both_numbers s.lits then [] else dedup same_number s.lits ∷ []

-- the forms of a hypothesis were read
pub record HasForms (q : Asked) (t : Three) (i : Instance) : Type 0 where
  pub start : read_clauses t.start ≡ form_clauses q Start i
  pub first : read_clauses t.first ≡ form_clauses q First i
  pub second : read_clauses t.second ≡ form_clauses q Second i
