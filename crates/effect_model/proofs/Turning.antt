-- The effect on all that is declared, one declaration after another.
use Rattle.std.proofs.Common.{◌≡◌, ℕ, zero, suc, ◌+◌, ◌<◌, ◌≤◌, List, [], ◌∷◌, ◌++◌, map, length, get_or, drop, refl, sym, ap, ◌∙◌, append_assoc, ◌-◌, is_some, Option, Some, None}
use Rattle.std.specs.List.{flat_map, slice_get, sum_by}
use Rattle.std.specs.Option.{option_map_or}
use Rattle.std.proofs.lemmas.List.{drop_more, drop_all, append-nil}
use Rattle.std.proofs.lemmas.List.Concat.{flat_map-append}
use Rattle.std.proofs.lemmas.List.Folds.{flat_map-map}
use Rattle.spec_model.specs.declared.spec.Spec.{Spec}
use Rattle.spec_model.specs.declared.spec.Pred.{Pred}
use Rattle.spec_model.specs.declared.spec.Num.{Num}
use Rattle.spec_model.specs.declared.instance.Atom.{Atom}
use Rattle.spec_model.specs.declared.instance.Cell.{Cell}
use Rattle.spec_model.specs.declared.instance.Inst.{Inst}
use Rattle.spec_model.specs.declared.operation.Op.{Op}
use Rattle.spec_model.specs.declared.operation.Line.{Line}
use Rattle.spec_model.specs.declared.right.Right.TheVariants as right
use Rattle.spec_model.specs.Truths.{op_at, no_op}
use Rattle.spec_model.specs.Changes.{effect_lines, line_adds, line_subtracts, added, subtracted}
use Rattle.spec_model.specs.Universe.{tuples, sizes_of, atoms_from, cells_from}
use Rattle.effect_model.specs.declared.change.AtomChange.{AtomChange}
use Rattle.effect_model.specs.Effects.{atom_change, cell_change, with_net}
use Rattle.effect_model.specs.Turns.{atoms_set_by, cells_changed_by, count_need, where_bounded, cell_needs}
use Rattle.effect_model.proofs.Needed.{cell_escrow}

-- the changes of the atoms of one predicate come before those of the predicates behind it
pub atoms_turn : (spec : Spec) (inst : Inst) (preds : List Pred) (k : ℕ) (d : Pred) → k < length preds
    → flat_map (atom_change spec inst) (atoms_from spec k (drop k preds))
    ≡ flat_map (atoms_set_by inst (op_at spec inst.op).lines k) (tuples (sizes_of spec (get_or preds k d).sorts)) ++ flat_map (atom_change spec inst) (atoms_from spec (k + 1) (drop (k + 1) preds))
atoms_turn spec inst preds k d lt =
    let p = get_or preds k d in
    let atom : List ℕ → Atom = λ xs. record { pred = k; args = xs } in
    ap (λ (ps : List Pred). flat_map (atom_change spec inst) (atoms_from spec k ps)) (drop_more preds k d lt)
    ∙ flat_map-append (atom_change spec inst) (map atom (tuples (sizes_of spec p.sorts))) (atoms_from spec (k + 1) (drop (k + 1) preds))
    ∙ ap (λ (cs : List AtomChange). cs ++ flat_map (atom_change spec inst) (atoms_from spec (k + 1) (drop (k + 1) preds))) (flat_map-map (atom_change spec inst) atom (tuples (sizes_of spec p.sorts)))

-- the lines of an instance's operation
pub lines_are : (ops : List Op) (i : ℕ) → (get_or ops i no_op).lines ≡ option_map_or (λ op. op.lines) (slice_get ops i) []
lines_are [] i = refl
lines_are (o ∷ ops) zero = refl
lines_are (o ∷ ops) (suc i) = lines_are ops i

same_changes : (spec : Spec) (inst : Inst) (k : ℕ) (xs : List ℕ) → cell_change spec inst (record { num = k; args = xs }) ≡ cells_changed_by inst (op_at spec inst.op).lines k xs
same_changes spec inst k xs =
    let cell : Cell = record { num = k; args = xs } in
    ap (λ (ls : List Line). with_net cell (sum_by (line_adds inst cell) ls) (sum_by (line_subtracts inst cell) ls)) (sym (lines_are spec.ops inst.op))

each_same : {X Y : Type 0} (f g : X → List Y) → ((x : X) → f x ≡ g x) → (xs : List X) → flat_map f xs ≡ flat_map g xs
each_same f g same [] = refl
each_same f g same (x ∷ xs) = rw (same x, each_same f g same xs) refl

-- what is listed of the cells of one number comes before what is listed of the numbers behind it
pub cells_turn : {X : Type 0} (f : Cell → List X) (spec : Spec) (nums : List Num) (k : ℕ) (d : Num) → k < length nums
    → flat_map f (cells_from spec k (drop k nums)) ≡ flat_map (λ xs. f (record { num = k; args = xs })) (tuples (sizes_of spec (get_or nums k d).sorts)) ++ flat_map f (cells_from spec (k + 1) (drop (k + 1) nums))
cells_turn f spec nums k d lt =
    let n = get_or nums k d in
    let cell : List ℕ → Cell = λ xs. record { num = k; args = xs } in
    ap (λ (ns : List Num). flat_map f (cells_from spec k ns)) (drop_more nums k d lt)
    ∙ flat_map-append f (map cell (tuples (sizes_of spec n.sorts))) (cells_from spec (k + 1) (drop (k + 1) nums))
    ∙ ap (λ cs. cs ++ flat_map f (cells_from spec (k + 1) (drop (k + 1) nums))) (flat_map-map f cell (tuples (sizes_of spec n.sorts)))

-- one more turn: what was appended is what came first
pub turned : {X : Type 0} (before part rest whole all now : List X) → before ++ whole ≡ all → whole ≡ part ++ rest → now ≡ before ++ part → now ++ rest ≡ all
turned before part rest whole all now so_far split step =
    ap (λ xs. xs ++ rest) step ∙ append_assoc before part rest ∙ ap (λ xs. before ++ xs) (sym split) ∙ so_far

pub atoms_done : (spec : Spec) (inst : Inst) (lines : List Line) (preds : List Pred) (sizes : List ℕ) (k : ℕ) (p : Pred) (before now all : List AtomChange) → lines ≡ (op_at spec inst.op).lines → k < length preds → p ≡ get_or preds k p → sizes ≡ sizes_of spec p.sorts
    → now ≡ before ++ flat_map (atoms_set_by inst lines k) (tuples sizes)
    → before ++ flat_map (atom_change spec inst) (atoms_from spec k (drop k preds)) ≡ all → now ++ flat_map (atom_change spec inst) (atoms_from spec (k + 1) (drop (k + 1) preds)) ≡ all
atoms_done spec inst lines preds sizes k p before now all lines_is lt p_is sizes_is step so_far =
    let same : tuples sizes ≡ tuples (sizes_of spec (get_or preds k p).sorts) = ap tuples (sizes_is ∙ ap (λ (q : Pred). sizes_of spec q.sorts) p_is) in
    turned before _ _ _ all now so_far (atoms_turn spec inst preds k p lt)
    (step ∙ ap (λ (ts : List (List ℕ)). before ++ flat_map (atoms_set_by inst lines k) ts) same ∙ ap (λ (ls : List Line). before ++ flat_map (atoms_set_by inst ls k) (tuples (sizes_of spec (get_or preds k p).sorts))) lines_is)

pub cells_done : {X : Type 0} (f : Cell → List X) (g : List ℕ → List X) (spec : Spec) (nums : List Num) (sizes : List ℕ) (k : ℕ) (n : Num) (before now all : List X) → ((xs : List ℕ) → f (record { num = k; args = xs }) ≡ g xs) → k < length nums → n ≡ get_or nums k n → sizes ≡ sizes_of spec n.sorts
    → now ≡ before ++ flat_map g (tuples sizes)
    → before ++ flat_map f (cells_from spec k (drop k nums)) ≡ all → now ++ flat_map f (cells_from spec (k + 1) (drop (k + 1) nums)) ≡ all
cells_done f g spec nums sizes k n before now all each lt n_is sizes_is step so_far =
    let same : tuples sizes ≡ tuples (sizes_of spec (get_or nums k n).sorts) = ap tuples (sizes_is ∙ ap (λ (q : Num). sizes_of spec q.sorts) n_is) in
    turned before _ _ _ all now so_far (cells_turn f spec nums k n lt)
    (step ∙ ap (λ (ts : List (List ℕ)). before ++ flat_map g ts) same ∙ ap (λ xs. before ++ xs) (sym (each_same (λ xs. f (record { num = k; args = xs })) g each (tuples (sizes_of spec (get_or nums k n).sorts)))))

-- what lines list of a cell is what the instance changes of it
pub changes_are : (spec : Spec) (inst : Inst) (lines : List Line) (k : ℕ) → lines ≡ (op_at spec inst.op).lines → (xs : List ℕ) → cell_change spec inst (record { num = k; args = xs }) ≡ cells_changed_by inst lines k xs
changes_are spec inst lines k is xs = same_changes spec inst k xs ∙ ap (λ (ls : List Line). cells_changed_by inst ls k xs) (sym is)

-- and what it needs
pub needs_are : (spec : Spec) (inst : Inst) (lines : List Line) (k : ℕ) (n : Num) → lines ≡ (op_at spec inst.op).lines → slice_get spec.nums k ≡ Some n → (xs : List ℕ)
    → cell_escrow spec inst (record { num = k; args = xs }) ≡ cell_needs inst lines (is_some n.min) (is_some n.max) (record { num = k; args = xs })
needs_are spec inst lines k n is num_is xs =
    let cell : Cell = record { num = k; args = xs } in
    let lines_is : effect_lines spec inst ≡ lines = sym (lines_are spec.ops inst.op) ∙ sym is in
    let plus = added spec inst cell in
    let minus = subtracted spec inst cell in
    let bounds = λ (num : Option Num). count_need (right.Low cell) (where_bounded (is_some (option_map_or (λ (m : Num). m.min) num None)) (minus - plus)) ++ count_need (right.High cell) (where_bounded (is_some (option_map_or (λ (m : Num). m.max) num None)) (plus - minus)) in
    ap bounds num_is ∙ ap (λ (ls : List Line). cell_needs inst ls (is_some n.min) (is_some n.max) cell) lines_is

-- no number is left
pub cells_end : {X : Type 0} (f : Cell → List X) (spec : Spec) (nums : List Num) (k : ℕ) (out all : List X) → length nums ≤ k → out ++ flat_map f (cells_from spec k (drop k nums)) ≡ all → out ≡ all
cells_end f spec nums k out all le so_far =
    sym (append-nil out) ∙ ap (λ (ns : List Num). out ++ flat_map f (cells_from spec k ns)) (sym (drop_all k nums le)) ∙ so_far
