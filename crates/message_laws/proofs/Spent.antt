-- What an instance spends of an escrow right is small.
use Rattle.std.proofs.Common.{ℕ, zero, suc, ◌*◌, ◌-◌, ◌<◌, ◌≤◌, ◌^◌, Bool, true, false, if◌then◌else◌, List, [], ◌∷◌, length, arith}
use Rattle.std.specs.Prelude.{slice_get}
use Rattle.std.specs.List.{AllByRecursion, sum_by}
use Rattle.std.specs.Option.{option_map_or}
use Rattle.std.proofs.lemmas.List.Sums.{sum_by-cons}
use Rattle.spec_model.specs.declared.clause.Var.{Var}
use Rattle.spec_model.specs.declared.instance.Cell.{Cell}
use Rattle.spec_model.specs.declared.instance.Inst.{Inst}
use Rattle.spec_model.specs.declared.operation.Line.{Line}
use Rattle.spec_model.specs.declared.operation.Line.TheVariants.{Set, Clear, Add, Sub}
use Rattle.spec_model.specs.declared.operation.Op.{Op}
use Rattle.spec_model.specs.declared.spec.Spec.{Spec}
use Rattle.spec_model.specs.Changes.{added, subtracted, cell_named, effect_lines, line_adds, line_subtracts, same_cell}
use Rattle.spec_model.specs.Fits.{IsWellFormed, LineFits, OpFits}

-- a change by at most 10 ^ 9
abbrev pub IsSmall : Line → Type 0
IsSmall (Set q terms) = Unit {0}
IsSmall (Clear q terms) = Unit {0}
IsSmall (Add n params amount) = amount ≤ 1000000000
IsSmall (Sub n params amount) = amount ≤ 1000000000

-- at most 16 lines, each with a small change
abbrev pub AreSmall : List Line → Type 0
AreSmall lines = (length lines ≤ 16) × AllByRecursion IsSmall lines

at_most : (b : Bool) (amount limit : ℕ) → amount ≤ limit → (if b then amount else 0) ≤ limit
at_most true amount limit le = le
at_most false amount limit le = omega arith

-- what one line adds, and what it subtracts
add_small : (inst : Inst) (cell : Cell) (line : Line) → IsSmall line → line_adds inst cell line ≤ 1000000000
add_small inst cell (Set q terms) s = omega arith
add_small inst cell (Clear q terms) s = omega arith
add_small inst cell (Add n params amount) s = at_most (same_cell (cell_named inst n params) cell) amount 1000000000 s
add_small inst cell (Sub n params amount) s = omega arith

subtract_small : (inst : Inst) (cell : Cell) (line : Line) → IsSmall line → line_subtracts inst cell line ≤ 1000000000
subtract_small inst cell (Set q terms) s = omega arith
subtract_small inst cell (Clear q terms) s = omega arith
subtract_small inst cell (Add n params amount) s = omega arith
subtract_small inst cell (Sub n params amount) s = at_most (same_cell (cell_named inst n params) cell) amount 1000000000 s

-- what all lines do
sum_small : (f : Line → ℕ) → ((line : Line) → IsSmall line → f line ≤ 1000000000) → (lines : List Line) → AllByRecursion IsSmall lines → sum_by f lines ≤ length lines * 1000000000
sum_small f small [] all = omega arith
sum_small f small (l ∷ lines) all = omega (arith, sum_by-cons f l lines, small l all.0, sum_small f small lines all.1)

-- the lines of a well-formed specification's operations
line_fits_small : (spec : Spec) (params : List Var) (line : Line) → LineFits spec params line → IsSmall line
line_fits_small spec params (Set q terms) f = tt
line_fits_small spec params (Clear q terms) f = tt
line_fits_small spec params (Add n places amount) f = f.small
line_fits_small spec params (Sub n places amount) f = f.small

all_small : (spec : Spec) (params : List Var) (lines : List Line) → AllByRecursion (LineFits spec params) lines → AllByRecursion IsSmall lines
all_small spec params [] f = tt
all_small spec params (l ∷ lines) f = (line_fits_small spec params l f.0, all_small spec params lines f.1)

ops_small : (spec : Spec) (ops : List Op) (i : ℕ) → AllByRecursion (OpFits spec) ops → AreSmall (option_map_or (λ op. op.lines) (slice_get ops i) [])
ops_small spec [] i f = (omega arith, tt)
ops_small spec (o ∷ ops) zero f = (f.0.few_lines, all_small spec o.params o.lines f.0.lines_fit)
ops_small spec (o ∷ ops) (suc i) f = ops_small spec ops i f.1

-- what is added to a cell, and what is subtracted from it
pub added_small : (spec : Spec) (inst : Inst) (cell : Cell) → IsWellFormed spec → added spec inst cell ≤ 16000000000
added_small spec inst cell w =
    let lines = ops_small spec spec.ops inst.op w.ops in
    omega (arith, lines.0, sum_small (line_adds inst cell) (add_small inst cell) (effect_lines spec inst) lines.1)

pub subtracted_small : (spec : Spec) (inst : Inst) (cell : Cell) → IsWellFormed spec → subtracted spec inst cell ≤ 16000000000
subtracted_small spec inst cell w =
    let lines = ops_small spec spec.ops inst.op w.ops in
    omega (arith, lines.0, sum_small (line_subtracts inst cell) (subtract_small inst cell) (effect_lines spec inst) lines.1)

-- so is a difference of the two: a number of 64 bits counts it
pub difference_small : (a b : ℕ) → a ≤ 16000000000 → a - b < 2 ^ 64
difference_small a b le = omega (arith, le)
