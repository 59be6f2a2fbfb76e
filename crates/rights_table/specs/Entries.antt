-- Rights that were touched, with their holdings.
use Rattle.std.specs.Prelude.{ℕ, Bool, true, List, [], ◌∷◌, ◌&&◌, Option}
use Rattle.indexmap.specs.IndexMap.{IndexMap, get}
use Rattle.spec_model.specs.declared.right.Right.{Right}
use Rattle.run_model.specs.Rights.{same_right}
use Rattle.rights_table.specs.declared.holding.Holding.{Holding}
use Rattle.rights_table.specs.Holdings.{is_of}

-- the holding of a right, if it has an entry
abbrev pub entry_of : {S : Type 0} → IndexMap Right Holding S → Right → Option Holding
entry_of m r = get same_right m r

-- each holding is of its right's kind
abbrev pub are_of_kind : ℕ → List (Right × Holding) → Bool
are_of_kind all [] = true
are_of_kind all (e ∷ es) = is_of all e.0 e.1 && are_of_kind all es
