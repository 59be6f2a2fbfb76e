-- Literals that are kept by their variables, those of each sign apart.
use Rattle.std.specs.Prelude.{◌≡◌, ℕ, Bool, true, eqb, if◌then◌else◌, List}
use Rattle.std.specs.List.{list_any}
use Rattle.ground_clauses.specs.Derivations.{same_num}
use Rattle.ground_clauses.specs.declared.clauses.Lit.{Lit}

-- where there are sets, those of these literals are in them
pub record AreKept (lits : List Lit) (in_sets : Bool) (yes no : List ℕ) : Type 0 where
  pub each : in_sets ≡ true → (x : Lit) → list_any (same_num x) lits ≡ list_any (eqb x.var) (if x.yes then yes else no)
