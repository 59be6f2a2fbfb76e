-- What effect lines do to the counts of a table.
use Rattle.std.specs.Prelude.{◌≡◌, true, false, ℕ, ◌+◌, Bool, ◌&&◌, List, if◌then◌else◌, is_some, sum_by}
use Rattle.std.specs.List.{list_any}
use Rattle.spec_model.specs.declared.plan.Setup.{Setup}
use Rattle.spec_model.specs.declared.spec.Spec.{Spec}
use Rattle.spec_model.specs.declared.instance.Inst.{Inst}
use Rattle.spec_model.specs.declared.instance.Cell.{Cell}
use Rattle.spec_model.specs.declared.operation.Line.{Line}
use Rattle.spec_model.specs.declared.operation.Line.TheVariants as lines_of
use Rattle.spec_model.specs.declared.right.Right.{Right}
use Rattle.spec_model.specs.declared.right.Right.TheVariants as right
use Rattle.spec_model.specs.Universe.{lower_bound, upper_bound}
use Rattle.spec_model.specs.Changes.{line_adds, line_subtracts, effect_lines, same_cell, cell_named}
use Rattle.run_model.specs.Rights.{same_right}
use Rattle.rights_table.specs.declared.table.Table.{Table}
use Rattle.rights_table.specs.Tables.{count_in, mode_in, point_in, IsEntered}

-- how many of a right a line adds, before what others take away: to lower what it raises, to raise what it lowers
abbrev pub line_gains : Spec → Inst → Right → Line → ℕ
line_gains spec inst (right.Low cell) line = if is_some (lower_bound spec cell) then line_adds inst cell line else 0
line_gains spec inst (right.High cell) line = if is_some (upper_bound spec cell) then line_subtracts inst cell line else 0
line_gains spec inst _ line = 0

-- how many it takes away
abbrev pub line_loses : Spec → Inst → Right → Line → ℕ
line_loses spec inst (right.Low cell) line = if is_some (lower_bound spec cell) then line_subtracts inst cell line else 0
line_loses spec inst (right.High cell) line = if is_some (upper_bound spec cell) then line_adds inst cell line else 0
line_loses spec inst _ line = 0

-- what all lines add, and take away
abbrev pub all_gain : Spec → Inst → Right → ℕ
all_gain spec inst r = sum_by (line_gains spec inst r) (effect_lines spec inst)

abbrev pub all_lose : Spec → Inst → Right → ℕ
all_lose spec inst r = sum_by (line_loses spec inst r) (effect_lines spec inst)

-- so many of this right, of no other
abbrev pub of_right : Right → ℕ → Right → ℕ
of_right r n q = if same_right r q then n else 0

-- of each right so many are more, and so many fewer; all else stays
pub record MovesBy (setup : Setup) (more less : Right → ℕ) (old new : Table) : Type 0 where
  pub me : new.me ≡ old.me
  pub replicas : new.replicas ≡ old.replicas
  pub counts : (q : Right) → count_in setup new q + less q ≡ count_in setup old q + more q
  pub modes : (q : Right) → mode_in new q ≡ mode_in old q
  pub points : (q : Right) (x : ℕ) → point_in setup new q x ≡ point_in setup old q x
  pub kept : (q : Right) → IsEntered old q → IsEntered new q

-- the line is about the cell
abbrev pub line_names : Inst → Cell → Line → Bool
line_names inst cell (lines_of.Add num params amount) = same_cell (cell_named inst num params) cell
line_names inst cell (lines_of.Sub num params amount) = same_cell (cell_named inst num params) cell
line_names inst cell _ = false

-- the line changes how many of a right are held
abbrev pub line_moves : Spec → Inst → Right → Line → Bool
line_moves spec inst (right.Low cell) line = is_some (lower_bound spec cell) && line_names inst cell line
line_moves spec inst (right.High cell) line = is_some (upper_bound spec cell) && line_names inst cell line
line_moves spec inst _ line = false

-- what the lines change has an entry
abbrev pub AreCellsEntered : Spec → Inst → List Line → Table → Type 0
AreCellsEntered spec inst lines t = (q : Right) → list_any (line_moves spec inst q) lines ≡ true → IsEntered t q
