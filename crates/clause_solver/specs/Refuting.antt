-- A clause that is learned from a conflict, while the trail is gone back over.
use Rattle.std.specs.Prelude.{◌≡◌, ℕ, ◌<◌, Bool, true, false, ◌⊎◌, List, get_or, length, reverse, take}
use Rattle.std.specs.List.{list_any, AllByRecursion}
use Rattle.ground_clauses.specs.Derivations.{propagates, repeats, same_num}
use Rattle.ground_clauses.specs.declared.clauses.Lit.{Lit}
use Rattle.clause_solver.specs.Assigning.{lit_false, value_at}
use Rattle.clause_solver.specs.Trails.{blank, values_after}
use Rattle.clause_solver.specs.declared.assignment.Trail.{Trail}
use Rattle.clause_solver.specs.declared.assignment.Value.{Value}
use Rattle.clause_solver.specs.declared.assignment.Value.TheVariants.{Open}
use Rattle.clause_solver.specs.declared.learning.Analysis.{Analysis}

abbrev pub among : List Lit → Lit → Bool
among xs x = list_any (same_num x) xs

-- the values before the entry at this place
abbrev pub values_before : Trail → ℕ → List Value
values_before t at = values_after (blank (length t.values)) (take at t.entries)

-- the variables of a clause are marked, and none is unmarked
pub record IsMarked (old new : List Bool) (c : List Lit) : Type 0 where
  pub size : length new ≡ length old
  pub kept : (v : ℕ) → get_or old v false ≡ true → get_or new v false ≡ true
  pub more : (x : Lit) → among c x ≡ true → x.var < length new → get_or new x.var false ≡ true

-- literals that are false or kept, with all that are kept, and all that are false and marked
pub record Covers (values : List Value) (marks : List Bool) (kept falses : List Lit) : Type 0 where
  pub marked : (x : Lit) → lit_false values x ≡ true → get_or marks x.var false ≡ true → among falses x ≡ true
  pub all : (x : Lit) → among kept x ≡ true → among falses x ≡ true
  pub only : (x : Lit) → among falses x ≡ true → (lit_false values x ≡ true) ⊎ (among kept x ≡ true)

-- from such literals the hints lead to a clause that is false
pub record IsRefuting (rows : List (List Lit)) (values : List Value) (a : Analysis) : Type 0 where
  pub size : length a.marks ≡ length values
  pub free : AllByRecursion (λ (x : Lit). value_at values x.var ≡ Open) a.lits
  pub apart : repeats a.lits ≡ false
  pub some : 0 < length a.hints
  pub leads : (falses : List Lit) → Covers values a.marks a.lits falses → propagates rows (reverse a.hints) falses ≡ true
