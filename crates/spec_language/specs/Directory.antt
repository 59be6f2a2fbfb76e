-- The variables of a clause by their names.
use Rattle.std.specs.Prelude.{◌≡◌, ℕ, List, [], ◌∷◌, Option, Some, None, if◌then◌else◌}
use Rattle.std.specs.Str.{bytes_eq}
use Rattle.std.specs.BTreeMap.{BTreeMap, get}
use Rattle.std.specs.Cmp.Lexicographic.{slice_cmp}
use Rattle.std.specs.Ordering.{nat_cmp}
use Rattle.std.proofs.Common.{Bor, Ordering}
use Rattle.spec_model.specs.declared.clause.Var.{Var}
use Rattle.spec_language.specs.declared.directory.Known.{Known}

-- the first variable with this name
abbrev pub found : List Var → List ℕ → Option Known
found [] w = None
found (v ∷ vs) w = if bytes_eq v.name w then Some (record { sort = v.sort; interval = v.interval }) else found vs w

abbrev pub by_bytes : Bor (List ℕ) → Bor (List ℕ) → Ordering
by_bytes x y = slice_cmp nat_cmp x.now y.now

-- each name leads to the first variable that has it
abbrev pub IsDirectory : BTreeMap (Bor (List ℕ)) Known → List Var → Type 0
IsDirectory m vars = (q : Bor (List ℕ)) → get by_bytes m q ≡ found vars q.now
