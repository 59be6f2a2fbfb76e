-- What the lines of an instance do at the tuples of one declaration.
use Rattle.std.specs.Prelude.{ℕ, ◌-◌, Bool, nat_lt, if◌then◌else◌, List, [], ◌∷◌, ◌++◌, sum_by}
use Rattle.spec_model.specs.declared.instance.Cell.{Cell}
use Rattle.spec_model.specs.declared.instance.Inst.{Inst}
use Rattle.spec_model.specs.declared.operation.Line.{Line}
use Rattle.spec_model.specs.declared.right.Amount.TheVariants as amount
use Rattle.spec_model.specs.declared.right.Need.{Need}
use Rattle.spec_model.specs.declared.right.Right.{Right}
use Rattle.spec_model.specs.declared.right.Right.TheVariants as right
use Rattle.spec_model.specs.Truths.{lines_set, inst_has}
use Rattle.spec_model.specs.Changes.{line_adds, line_subtracts}
use Rattle.effect_model.specs.declared.change.AtomChange.{AtomChange}
use Rattle.effect_model.specs.declared.change.CellChange.{CellChange}
use Rattle.effect_model.specs.Effects.{with_truth, with_net}

-- the change of one atom of a predicate
abbrev pub atoms_set_by : Inst → List Line → ℕ → List ℕ → List AtomChange
atoms_set_by inst lines p xs = with_truth (record { pred = p; args = xs }) (lines_set (inst_has inst) lines p xs)

-- the change of one cell of a number
abbrev pub cells_changed_by : Inst → List Line → ℕ → List ℕ → List CellChange
cells_changed_by inst lines n xs =
    with_net (record { num = n; args = xs }) (sum_by (line_adds inst (record { num = n; args = xs })) lines) (sum_by (line_subtracts inst (record { num = n; args = xs })) lines)

-- so many of the right are needed, where that isn't 0
abbrev pub count_need : Right → ℕ → List Need
count_need r n = if nat_lt 0 n then record { right = r; amount = amount.Count n } ∷ [] else []

-- so many, where there is a bound
abbrev pub where_bounded : Bool → ℕ → ℕ
where_bounded bounded n = if bounded then n else 0

-- the needs of one cell of a number: what it falls, where it has a lower bound, then what it rises, where it has an upper bound
abbrev pub cell_needs : Inst → List Line → Bool → Bool → Cell → List Need
cell_needs inst lines low high cell =
    count_need (right.Low cell) (where_bounded low (sum_by (line_subtracts inst cell) lines - sum_by (line_adds inst cell) lines))
    ++ count_need (right.High cell) (where_bounded high (sum_by (line_adds inst cell) lines - sum_by (line_subtracts inst cell) lines))
