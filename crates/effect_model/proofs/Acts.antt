-- The lines of an instance's operation, declared or not.
use Rattle.std.proofs.Common.{◌≡◌, ℕ, zero, suc, ◌-◌, List, [], ◌∷◌, get_or, refl, sym, ap, subst, ◌∙◌, None}
use Rattle.std.specs.List.{slice_get, sum_by}
use Rattle.spec_model.specs.declared.spec.Spec.{Spec}
use Rattle.spec_model.specs.declared.instance.Cell.{Cell}
use Rattle.spec_model.specs.declared.instance.Inst.{Inst}
use Rattle.spec_model.specs.declared.operation.Line.{Line}
use Rattle.spec_model.specs.declared.operation.Op.{Op}
use Rattle.spec_model.specs.Fits.{IsWellFormed}
use Rattle.spec_model.specs.Truths.{no_op, op_at}
use Rattle.spec_model.specs.Changes.{effect_lines, line_adds, line_subtracts, net_fall, net_rise}
use Rattle.effect_model.specs.Touching.{AreSmall}
use Rattle.effect_model.proofs.Sums.{ops_small}
use Rattle.effect_model.proofs.Turning.{lines_are}

-- what isn't there is read as what stands for it
pub none_there : {X : Type 0} (xs : List X) (i : ℕ) (d : X) → slice_get xs i ≡ None → get_or xs i d ≡ d
none_there [] i d none = refl
none_there (x ∷ xs) zero d none = absurd cc
none_there (x ∷ xs) (suc i) d none = none_there xs i d none

-- an operation that isn't declared has no lines
pub no_lines : (ops : List Op) (i : ℕ) → slice_get ops i ≡ None → [] ≡ (get_or ops i no_op).lines
no_lines ops i none = sym (ap (λ (op : Op). op.lines) (none_there ops i no_op none))

-- the lines are those that the effect is made of
effect_is : (spec : Spec) (inst : Inst) (lines : List Line) → lines ≡ (op_at spec inst.op).lines → lines ≡ effect_lines spec inst
effect_is spec inst lines is = is ∙ lines_are spec.ops inst.op

pub lines_small : (spec : Spec) (inst : Inst) (lines : List Line) → IsWellFormed spec → lines ≡ (op_at spec inst.op).lines → AreSmall lines
lines_small spec inst lines well is = subst AreSmall (sym (effect_is spec inst lines is)) (ops_small spec spec.ops inst.op well.ops)

-- what they add less what they subtract is the rise, and the other way round the fall
pub rise_is : (spec : Spec) (inst : Inst) (cell : Cell) (lines : List Line) (plus minus : ℕ) → lines ≡ (op_at spec inst.op).lines → plus ≡ sum_by (line_adds inst cell) lines → minus ≡ sum_by (line_subtracts inst cell) lines
    → plus - minus ≡ net_rise spec inst cell
rise_is spec inst cell lines plus minus is more fewer =
    ap (λ n. n - minus) more ∙ ap (λ n. sum_by (line_adds inst cell) lines - n) fewer ∙ ap (λ (ls : List Line). sum_by (line_adds inst cell) ls - sum_by (line_subtracts inst cell) ls) (effect_is spec inst lines is)

pub fall_is : (spec : Spec) (inst : Inst) (cell : Cell) (lines : List Line) (plus minus : ℕ) → lines ≡ (op_at spec inst.op).lines → plus ≡ sum_by (line_adds inst cell) lines → minus ≡ sum_by (line_subtracts inst cell) lines
    → minus - plus ≡ net_fall spec inst cell
fall_is spec inst cell lines plus minus is more fewer =
    ap (λ n. minus - n) more ∙ ap (λ n. n - sum_by (line_adds inst cell) lines) fewer ∙ ap (λ (ls : List Line). sum_by (line_subtracts inst cell) ls - sum_by (line_adds inst cell) ls) (effect_is spec inst lines is)
