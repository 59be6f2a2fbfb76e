-- The blocks of a specification, and the places that they give.
use Rattle.std.proofs.Common.{◌≡◌, ℕ, zero, suc, ◌+◌, List, [], ◌∷◌, take, ap, ◌∙◌, arith, Some}
use Rattle.std.specs.List.{slice_get, sum_by}
use Rattle.std.proofs.lemmas.List.Sums.{sum_by-cons}
use Rattle.std.proofs.lemmas.Option.{slice_get-get_or}
use Rattle.spec_model.specs.declared.instance.Atom.{Atom}
use Rattle.spec_model.specs.declared.instance.Cell.{Cell}
use Rattle.spec_model.specs.declared.spec.Spec.{Spec}
use Rattle.spec_model.specs.Fits.{IsWellFormed}
use Rattle.spec_model.specs.Truths.{pred_at, num_at, no_pred, no_num}
use Rattle.spec_model.specs.Universe.{atoms, cells, sizes_of}
use Rattle.effect_model.specs.declared.block.Block.{Block}
use Rattle.effect_model.specs.Blocks.{blocks_from, pred_blocks, num_blocks, BlockFits, IsBlockPlace}
use Rattle.effect_model.specs.Places.{AtomFits, CellFits, atom_index, cell_index}
use Rattle.effect_model.specs.Tuples.{count_over}
use Rattle.effect_model.proofs.Declarations.{tuple, part_small, stands_there}
use Rattle.effect_model.proofs.Listing.{pred_sorts, num_sorts, get-atoms, get-cells}
use Rattle.effect_model.proofs.Sizes.{below_sizes}

abbrev block : {D : Type 0} → Spec → (D → List ℕ) → ℕ → D → Block
block spec sorts start d = record { start = start; sizes = sizes_of spec (sorts d) }

get-blocks_from : {D : Type 0} (spec : Spec) (sorts : D → List ℕ) (k : ℕ) (ds : List D) (i start : ℕ) (d : D) → slice_get ds i ≡ Some d → start ≡ k + sum_by (count_over spec sorts) (take i ds)
    → slice_get (blocks_from spec sorts k ds) i ≡ Some (block spec sorts start d)
get-blocks_from spec sorts k [] i start d at is = absurd cc
get-blocks_from {D = D} spec sorts k (e ∷ ds) zero start d at is =
    let same : e ≡ d = cc in
    let first : k ≡ start = omega arith in
    ap (λ (x : D). Some (block spec sorts k x)) same ∙ ap (λ (n : ℕ). Some (block spec sorts n d)) first
get-blocks_from spec sorts k (e ∷ ds) (suc i) start d at is =
    get-blocks_from spec sorts (k + count_over spec sorts e) ds i start d at (omega (arith, sum_by-cons (count_over spec sorts) e (take i ds)))

-- ---- atoms

atom_block_is : (spec : Spec) (atom : Atom) → AtomFits spec atom → slice_get (pred_blocks spec) atom.pred ≡ Some (block spec pred_sorts (sum_by (count_over spec pred_sorts) (take atom.pred spec.preds)) (pred_at spec atom.pred))
atom_block_is spec atom f = get-blocks_from spec pred_sorts 0 spec.preds atom.pred _ (pred_at spec atom.pred) (slice_get-get_or spec.preds atom.pred no_pred f.known) (omega arith)

pub atom_block : (spec : Spec) (atom : Atom) → IsWellFormed spec → AtomFits spec atom → BlockFits (pred_blocks spec) atom.pred atom.args
atom_block spec atom w f =
    let pred = pred_at spec atom.pred in
    let found : slice_get spec.preds atom.pred ≡ Some pred = slice_get-get_or spec.preds atom.pred no_pred f.known in
    let part = part_small (count_over spec pred_sorts) spec.preds atom.pred pred found in
    record {
      one = block spec pred_sorts (sum_by (count_over spec pred_sorts) (take atom.pred spec.preds)) pred;
      one_is = atom_block_is spec atom f;
      within = below_sizes spec pred.sorts atom.args f.within;
      small = omega (arith, part, w.small_universe);
    }

pub atom_placed : (spec : Spec) (atom : Atom) (place : ℕ) → IsWellFormed spec → AtomFits spec atom → IsBlockPlace (pred_blocks spec) atom.pred atom.args place → place ≡ atom_index spec atom.pred atom.args
atom_placed spec atom place w f p = p (block spec pred_sorts (sum_by (count_over spec pred_sorts) (take atom.pred spec.preds)) (pred_at spec atom.pred)) (atom_block_is spec atom f)

pub atom_there : (spec : Spec) (atom : Atom) (place : ℕ) → AtomFits spec atom → place ≡ atom_index spec atom.pred atom.args → slice_get (atoms spec) place ≡ Some atom
atom_there spec atom place f is =
    ap (slice_get (atoms spec)) is
    ∙ get-atoms spec (atom_index spec atom.pred atom.args) (tuple atom.pred atom.args)
    (stands_there spec pred_sorts 0 spec.preds atom.pred atom.pred (pred_at spec atom.pred) atom.args (slice_get-get_or spec.preds atom.pred no_pred f.known) f.within (omega arith))

-- ---- cells

cell_block_is : (spec : Spec) (cell : Cell) → CellFits spec cell → slice_get (num_blocks spec) cell.num ≡ Some (block spec num_sorts (sum_by (count_over spec num_sorts) (take cell.num spec.nums)) (num_at spec cell.num))
cell_block_is spec cell f = get-blocks_from spec num_sorts 0 spec.nums cell.num _ (num_at spec cell.num) (slice_get-get_or spec.nums cell.num no_num f.known) (omega arith)

pub cell_block : (spec : Spec) (cell : Cell) → IsWellFormed spec → CellFits spec cell → BlockFits (num_blocks spec) cell.num cell.args
cell_block spec cell w f =
    let num = num_at spec cell.num in
    let found : slice_get spec.nums cell.num ≡ Some num = slice_get-get_or spec.nums cell.num no_num f.known in
    let part = part_small (count_over spec num_sorts) spec.nums cell.num num found in
    record {
      one = block spec num_sorts (sum_by (count_over spec num_sorts) (take cell.num spec.nums)) num;
      one_is = cell_block_is spec cell f;
      within = below_sizes spec num.sorts cell.args f.within;
      small = omega (arith, part, w.small_universe);
    }

pub cell_placed : (spec : Spec) (cell : Cell) (place : ℕ) → IsWellFormed spec → CellFits spec cell → IsBlockPlace (num_blocks spec) cell.num cell.args place → place ≡ cell_index spec cell
cell_placed spec cell place w f p = p (block spec num_sorts (sum_by (count_over spec num_sorts) (take cell.num spec.nums)) (num_at spec cell.num)) (cell_block_is spec cell f)

pub cell_there : (spec : Spec) (cell : Cell) (place : ℕ) → CellFits spec cell → place ≡ cell_index spec cell → slice_get (cells spec) place ≡ Some cell
cell_there spec cell place f is =
    ap (slice_get (cells spec)) is
    ∙ get-cells spec (cell_index spec cell) (tuple cell.num cell.args)
    (stands_there spec num_sorts 0 spec.nums cell.num cell.num (num_at spec cell.num) cell.args (slice_get-get_or spec.nums cell.num no_num f.known) f.within (omega arith))
