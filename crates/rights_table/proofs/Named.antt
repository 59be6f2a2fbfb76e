-- What an act that may be done spends is held.
use Rattle.std.proofs.Common.{◌≡◌, ◌⊎◌, inl, inr, ℕ, zero, suc, ◌-◌, ◌<◌, ◌≤◌, Bool, true, false, cond, List, [], ◌∷◌, length, get_or, refl, sym, ap, subst, arith}
use Rattle.std.specs.Prelude.{Contains, slice_get, is_some, sum_by}
use Rattle.std.specs.List.{AllByRecursion, AllZip}
use Rattle.std.specs.Option.{option_map_or}
use Rattle.std.proofs.lemmas.Bool.{cases_Bool, cond-false}
use Rattle.std.proofs.lemmas.List.Sums.{sum_by-cons}
use Rattle.ind_base.specs.declared.span.Span.{Span}
use Rattle.spec_model.specs.declared.spec.Spec.{Spec}
use Rattle.spec_model.specs.declared.plan.Setup.{Setup}
use Rattle.spec_model.specs.declared.clause.Var.{Var}
use Rattle.spec_model.specs.declared.instance.Cell.{Cell}
use Rattle.spec_model.specs.declared.instance.Inst.{Inst}
use Rattle.spec_model.specs.declared.operation.Line.{Line}
use Rattle.spec_model.specs.declared.operation.Line.TheVariants as line
use Rattle.spec_model.specs.declared.operation.Op.{Op}
use Rattle.spec_model.specs.declared.right.Right.{Right}
use Rattle.spec_model.specs.declared.right.Right.TheVariants as right
use Rattle.spec_model.specs.declared.log.LogItem.{LogItem}
use Rattle.spec_model.specs.Truths.{Within, num_at, size_of, no_op, op_at}
use Rattle.spec_model.specs.Universe.{cells, lower_bound, upper_bound}
use Rattle.spec_model.specs.Changes.{added, cell_named, effect_lines, elements_at, line_adds, line_subtracts, same_cell, subtracted}
use Rattle.spec_model.specs.Needs.{spends}
use Rattle.spec_model.specs.Fits.{ArgFits, ChangeFits, InstFits, IsWellFormed, LineFits, OpFits, PlainFits}
use Rattle.effect_model.proofs.Whole.{cells_all}
use Rattle.run_model.specs.Allowed.{MayAct}
use Rattle.run_model.specs.Fitting.{SetupFits}
use Rattle.run_model.specs.Logs.{Logs}
use Rattle.run_model.specs.Rights.{held_count}
use Rattle.run_model.specs.States.{truths_in}
use Rattle.run_model.proofs.Escrow.{same_cell_is, spends_held}

-- ---- the cell of a line

-- the element of a plain argument is one of its parameter's sort
element_within : (spec : Spec) (params : List Var) (args : List Span) (place s : ℕ) → AllZip (ArgFits spec) params args → PlainFits params place s → option_map_or (λ (a : Span). a.lo) (slice_get args place) 0 < size_of spec s
element_within spec [] args place s all fits = let lt = fits.within in absurd (omega arith)
element_within spec (p ∷ params) [] place s all fits = absurd all
element_within spec (p ∷ params) (a ∷ args) zero s all fits =
    let sort : p.sort ≡ s = fits.sort_is in
    let size : size_of spec p.sort ≡ size_of spec s = ap (size_of spec) sort in
    omega (arith, all.0.ordered, all.0.fits, size)
element_within spec (p ∷ params) (a ∷ args) (suc place) s all fits =
    element_within spec params args place s all.1 (record { within = omega (arith, fits.within); sort_is = fits.sort_is; plain = fits.plain })

elements_within : (spec : Spec) (params : List Var) (args : List Span) (places sorts : List ℕ) → AllZip (ArgFits spec) params args → AllZip (PlainFits params) places sorts → Within (size_of spec) sorts (elements_at args places)
elements_within spec params args [] [] all fits = tt
elements_within spec params args [] (s ∷ sorts) all fits = absurd fits
elements_within spec params args (i ∷ places) [] all fits = absurd fits
elements_within spec params args (i ∷ places) (s ∷ sorts) all fits = (element_within spec params args i s all fits.0, elements_within spec params args places sorts all fits.1)

-- the cell of a change is in the universe
named_fits : (spec : Spec) (params : List Var) (inst : Inst) (n : ℕ) (places : List ℕ) (amount : ℕ) → AllZip (ArgFits spec) params inst.args → ChangeFits spec params n places amount → Contains (cells spec) (cell_named inst n places)
named_fits spec params inst n places amount all fits =
    (cells_all spec (cell_named inst n places)).those_that_fit.1 (record { known = fits.known; within = elements_within spec params inst.args places (num_at spec n).sorts all fits.places_fit })

-- ---- all lines

-- nothing is added to the cell and nothing subtracted
abbrev IsStill : Inst → Cell → List Line → Type 0
IsStill inst cell lines = (sum_by (line_adds inst cell) lines ≡ 0) × (sum_by (line_subtracts inst cell) lines ≡ 0)

-- a cell that lines change is in the universe
changed_fits : (spec : Spec) (params : List Var) (inst : Inst) (cell : Cell) (lines : List Line) → AllZip (ArgFits spec) params inst.args → AllByRecursion (LineFits spec params) lines → Contains (cells spec) cell ⊎ IsStill inst cell lines
changed_fits spec params inst cell [] args fits = inr (refl, refl)
changed_fits spec params inst cell (l ∷ lines) args fits = elim (changed_fits spec params inst cell lines args fits.1) [
  | inl there ↦ inl there
  | inr still ↦ one l fits.0 still
]
  where
    rest : (l : Line) → line_adds inst cell l ≡ 0 → line_subtracts inst cell l ≡ 0 → IsStill inst cell lines → Contains (cells spec) cell ⊎ IsStill inst cell (l ∷ lines)
    rest l adds subtracts still =
        inr ((let all = sum_by-cons (line_adds inst cell) l lines in let none = still.0 in omega (arith, all, adds, none)), (let all = sum_by-cons (line_subtracts inst cell) l lines in let none = still.1 in omega (arith, all, subtracts, none)))

    here : (n : ℕ) (places : List ℕ) (amount : ℕ) → ChangeFits spec params n places amount → same_cell (cell_named inst n places) cell ≡ true → Contains (cells spec) cell
    here n places amount change same = subst (Contains (cells spec)) (same_cell_is (cell_named inst n places) cell same) (named_fits spec params inst n places amount args change)

    one : (l : Line) → LineFits spec params l → IsStill inst cell lines → Contains (cells spec) cell ⊎ IsStill inst cell (l ∷ lines)
    one (line.Set p terms) fit still = rest (line.Set p terms) refl refl still
    one (line.Clear p terms) fit still = rest (line.Clear p terms) refl refl still
    one (line.Add n places amount) fit still = elim (cases_Bool (same_cell (cell_named inst n places) cell)) [
      | inl same ↦ inl (here n places amount fit same)
      | inr other ↦ rest (line.Add n places amount) (cond-false (same_cell (cell_named inst n places) cell) amount 0 other) refl still
    ]
    one (line.Sub n places amount) fit still = elim (cases_Bool (same_cell (cell_named inst n places) cell)) [
      | inl same ↦ inl (here n places amount fit same)
      | inr other ↦ rest (line.Sub n places amount) refl (cond-false (same_cell (cell_named inst n places) cell) amount 0 other) still
    ]

-- the lines of a declared operation
lines_at : (spec : Spec) (ops : List Op) (i : ℕ) → i < length ops → AllByRecursion (OpFits spec) ops → (option_map_or (λ (op : Op). op.lines) (slice_get ops i) [] ≡ (get_or ops i no_op).lines) × OpFits spec (get_or ops i no_op)
lines_at spec [] i lt fits = absurd (omega (arith, lt))
lines_at spec (op ∷ ops) zero lt fits = (refl, fits.0)
lines_at spec (op ∷ ops) (suc i) lt fits = lines_at spec ops i (omega (arith, lt)) fits.1

-- a cell that an instance changes is in the universe
acts_fit : (spec : Spec) (inst : Inst) (cell : Cell) → IsWellFormed spec → InstFits spec inst → Contains (cells spec) cell ⊎ IsStill inst cell (effect_lines spec inst)
acts_fit spec inst cell well fits =
    let at = lines_at spec spec.ops inst.op fits.known well.ops in
    subst (λ (ls : List Line). Contains (cells spec) cell ⊎ IsStill inst cell ls) (sym at.0) (changed_fits spec (op_at spec inst.op).params inst cell (op_at spec inst.op).lines fits.args_fit at.1.lines_fit)

-- ---- what is spent

no_more : (b : Bool) (n k : ℕ) → n ≡ 0 → cond b (n - k) 0 ≡ 0
no_more true n k none = omega (arith, none)
no_more false n k none = refl

-- what an act that may be done spends is held
pub act_held : (setup : Setup) (logs : Logs) (me : ℕ) (own : List LogItem) (deps : List ℕ) (inst : Inst) → SetupFits setup → InstFits setup.spec inst → MayAct setup logs me own deps inst → (r : Right) → spends setup.spec inst r ≤ held_count setup logs me own r
act_held setup logs me own deps inst setup_fits fits may (right.Low cell) = elim (acts_fit setup.spec inst cell setup_fits.spec fits) [
  | inl there ↦ spends_held setup logs me own (truths_in setup.spec logs deps) inst (right.Low cell) there may.met
  | inr still ↦ let none = no_more (is_some (lower_bound setup.spec cell)) (subtracted setup.spec inst cell) (added setup.spec inst cell) still.1 in omega (arith, none)
]
act_held setup logs me own deps inst setup_fits fits may (right.High cell) = elim (acts_fit setup.spec inst cell setup_fits.spec fits) [
  | inl there ↦ spends_held setup logs me own (truths_in setup.spec logs deps) inst (right.High cell) there may.met
  | inr still ↦ let none = no_more (is_some (upper_bound setup.spec cell)) (added setup.spec inst cell) (subtracted setup.spec inst cell) still.0 in omega (arith, none)
]
act_held setup logs me own deps inst setup_fits fits may (right.Lock l key) = omega arith
act_held setup logs me own deps inst setup_fits fits may (right.Entry c args i) = omega arith
act_held setup logs me own deps inst setup_fits fits may (right.Part p key) = omega arith
