-- Sums of the changes of a few lines are small.
use Rattle.std.proofs.Common.{ℕ, zero, suc, ◌*◌, ◌≤◌, Bool, true, false, if◌then◌else◌, List, [], ◌∷◌, length, arith}
use Rattle.std.specs.List.{AllByRecursion, sum_by, slice_get}
use Rattle.std.proofs.lemmas.List.Sums.{sum_by-cons}
use Rattle.spec_model.specs.declared.instance.Inst.{Inst}
use Rattle.spec_model.specs.declared.instance.Cell.{Cell}
use Rattle.spec_model.specs.declared.operation.Line.{Line}
use Rattle.spec_model.specs.declared.operation.Line.TheVariants.{Set, Clear, Add, Sub}
use Rattle.spec_model.specs.declared.clause.Var.{Var}
use Rattle.spec_model.specs.declared.operation.Op.{Op}
use Rattle.spec_model.specs.declared.spec.Spec.{Spec}
use Rattle.std.specs.Option.{option_map_or}
use Rattle.spec_model.specs.Fits.{LineFits, OpFits}
use Rattle.effect_model.specs.Amounts.{ChangesAreSmall}
use Rattle.spec_model.specs.Changes.{effect_lines, line_adds, line_subtracts, same_cell, cell_named}
use Rattle.effect_model.specs.Touching.{IsSmall, AreSmall}

at_most : (b : Bool) (amount limit : ℕ) → amount ≤ limit → (if b then amount else 0) ≤ limit
at_most true amount limit le = le
at_most false amount limit le = omega arith

add_small : (inst : Inst) (cell : Cell) (line : Line) → IsSmall line → line_adds inst cell line ≤ 1000000000
add_small inst cell (Set q terms) s = omega arith
add_small inst cell (Clear q terms) s = omega arith
add_small inst cell (Add n params amount) s = at_most (same_cell (cell_named inst n params) cell) amount 1000000000 s
add_small inst cell (Sub n params amount) s = omega arith

subtract_small : (inst : Inst) (cell : Cell) (line : Line) → IsSmall line → line_subtracts inst cell line ≤ 1000000000
subtract_small inst cell (Set q terms) s = omega arith
subtract_small inst cell (Clear q terms) s = omega arith
subtract_small inst cell (Add n params amount) s = omega arith
subtract_small inst cell (Sub n params amount) s = at_most (same_cell (cell_named inst n params) cell) amount 1000000000 s

sum_small : (f : Line → ℕ) → ((line : Line) → IsSmall line → f line ≤ 1000000000) → (lines : List Line) → AllByRecursion IsSmall lines → sum_by f lines ≤ length lines * 1000000000
sum_small f small [] all = omega arith
sum_small f small (l ∷ lines) all = omega (arith, sum_by-cons f l lines, small l all.0, sum_small f small lines all.1)

pub adds_small : (inst : Inst) (cell : Cell) (lines : List Line) → AreSmall lines → sum_by (line_adds inst cell) lines ≤ 16000000000
adds_small inst cell lines s = omega (arith, s.0, sum_small (line_adds inst cell) (add_small inst cell) lines s.1)

pub subtracts_small : (inst : Inst) (cell : Cell) (lines : List Line) → AreSmall lines → sum_by (line_subtracts inst cell) lines ≤ 16000000000
subtracts_small inst cell lines s = omega (arith, s.0, sum_small (line_subtracts inst cell) (subtract_small inst cell) lines s.1)

-- the lines of a well-formed specification's operations
line_fits_small : (spec : Spec) (params : List Var) (line : Line) → LineFits spec params line → IsSmall line
line_fits_small spec params (Set q terms) f = tt
line_fits_small spec params (Clear q terms) f = tt
line_fits_small spec params (Add n places amount) f = f.small
line_fits_small spec params (Sub n places amount) f = f.small

all_small : (spec : Spec) (params : List Var) (lines : List Line) → AllByRecursion (LineFits spec params) lines → AllByRecursion IsSmall lines
all_small spec params [] f = tt
all_small spec params (l ∷ lines) f = (line_fits_small spec params l f.0, all_small spec params lines f.1)

pub ops_small : (spec : Spec) (ops : List Op) (i : ℕ) → AllByRecursion (OpFits spec) ops → AreSmall (option_map_or (λ op. op.lines) (slice_get ops i) [])
ops_small spec [] i f = (omega arith, tt)
ops_small spec (o ∷ ops) zero f = (f.0.few_lines, all_small spec o.params o.lines f.0.lines_fit)
ops_small spec (o ∷ ops) (suc i) f = ops_small spec ops i f.1

pub changes_small : ChangesAreSmall
changes_small spec inst cell w =
    let lines = ops_small spec spec.ops inst.op w.ops in
    (adds_small inst cell (effect_lines spec inst) lines, subtracts_small inst cell (effect_lines spec inst) lines)
