-- Atoms and cells of the universe, and their places.
use Rattle.std.specs.Prelude.{ℕ, ◌+◌, ◌<◌, List, length, take, sum_by}
use Rattle.spec_model.specs.declared.spec.Num.{Num}
use Rattle.spec_model.specs.declared.spec.Pred.{Pred}
use Rattle.spec_model.specs.declared.spec.Spec.{Spec}
use Rattle.spec_model.specs.declared.instance.Atom.{Atom}
use Rattle.spec_model.specs.declared.instance.Cell.{Cell}
use Rattle.spec_model.specs.Truths.{Within, size_of, pred_at, num_at}
use Rattle.spec_model.specs.Universe.{sizes_of}
use Rattle.effect_model.specs.Tuples.{count_over, rank}

-- a declared predicate at elements of its sorts
pub record AtomFits (spec : Spec) (atom : Atom) : Type 0 where
  pub known : atom.pred < length spec.preds
  pub within : Within (size_of spec) (pred_at spec atom.pred).sorts atom.args

-- a declared number at elements of its sorts
pub record CellFits (spec : Spec) (cell : Cell) : Type 0 where
  pub known : cell.num < length spec.nums
  pub within : Within (size_of spec) (num_at spec cell.num).sorts cell.args

-- every atom of the universe may be asked for
abbrev pub KnowsAll : (Atom → Type 0) → Spec → Type 0
KnowsAll knows spec = (atom : Atom) → AtomFits spec atom → knows atom

-- the place of an atom: behind the atoms of all predicates before its own, by its arguments
abbrev pub atom_index : Spec → ℕ → List ℕ → ℕ
atom_index spec p xs = sum_by (count_over spec (λ (q : Pred). q.sorts)) (take p spec.preds) + rank (sizes_of spec (pred_at spec p).sorts) xs

-- the place of a cell: behind the cells of all numbers before its own, by its arguments
abbrev pub cell_index : Spec → Cell → ℕ
cell_index spec cell = sum_by (count_over spec (λ (n : Num). n.sorts)) (take cell.num spec.nums) + rank (sizes_of spec (num_at spec cell.num).sorts) cell.args
