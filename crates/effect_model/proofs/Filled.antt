-- First truths and values, declaration by declaration.
use Rattle.std.proofs.Common.{◌≡◌, ℕ, ◌+◌, ◌<◌, Bool, false, ℤ, pos, List, [], ◌∷◌, ◌++◌, map, replicate, drop, length, get_or, refl, sym, ap, ◌∙◌, subst, arith, Option, Some}
use Rattle.std.specs.List.{slice_get}
use Rattle.std.specs.Option.{option_map, option_map_or}
use Rattle.std.proofs.lemmas.Int.{to_z-of_z, ints}
use mir.Syntax.{w64}
use mir.Val.{to_z, of_z, SFits}
use Rattle.std.proofs.lemmas.List.{drop_more, map-append, get_or_default}
use Rattle.std.proofs.lemmas.Option.{slice_get-map, get_or_from_slice_get, slice_get-get_or}
use Rattle.spec_model.specs.declared.instance.Atom.{Atom}
use Rattle.spec_model.specs.declared.instance.Cell.{Cell}
use Rattle.spec_model.specs.declared.spec.Num.{Num}
use Rattle.spec_model.specs.declared.spec.Pred.{Pred}
use Rattle.spec_model.specs.declared.spec.Spec.{Spec}
use Rattle.spec_model.specs.Fits.{NumFits}
use Rattle.spec_model.specs.Truths.{no_pred}
use Rattle.spec_model.specs.Universe.{atoms, atoms_from, cells, cells_from, first_value, sizes_of, tuples, tuple_count}
use Rattle.effect_model.specs.Contents.{IsFirst}
use Rattle.effect_model.specs.Firsts.{atom_first}
use Rattle.effect_model.specs.Places.{atom_index, cell_index}
use Rattle.effect_model.proofs.Blocked.{atom_there, cell_there}
use Rattle.effect_model.proofs.Tuples.{length-tuples}
use Rattle.effect_model.proofs.Turning.{turned}

-- what is one value at each tuple
all_one : {X Y Z : Type 0} (make : X → Y) (f : Y → Z) (v : Z) → ((x : X) → f (make x) ≡ v) → (xs : List X) → map f (map make xs) ≡ replicate (length xs) v
all_one make f v each [] = refl
all_one make f v each (x ∷ xs) = rw (each x, all_one make f v each xs) refl

pub truths_filled : (spec : Spec) (k : ℕ) (p : Pred) (count : ℕ) (before now : List Bool) → k < length spec.preds → p ≡ get_or spec.preds k p → count ≡ tuple_count (sizes_of spec p.sorts) → now ≡ before ++ replicate count p.first
    → before ++ map (atom_first spec) (atoms_from spec k (drop k spec.preds)) ≡ map (atom_first spec) (atoms spec) → now ++ map (atom_first spec) (atoms_from spec (k + 1) (drop (k + 1) spec.preds)) ≡ map (atom_first spec) (atoms spec)
truths_filled spec k p count before now lt is count_is step so_far =
    let first : (xs : List ℕ) → atom_first spec (record { pred = k; args = xs }) ≡ p.first = λ xs. ap (λ (q : Pred). q.first) (get_or_default spec.preds k no_pred p lt ∙ sym is) in
    let rest = map (atom_first spec) (atoms_from spec (k + 1) (drop (k + 1) spec.preds)) in
    let ts = tuples (sizes_of spec p.sorts) in
    let block : List Atom = map (λ (xs : List ℕ). record { pred = k; args = xs }) ts in
    let split : map (atom_first spec) (atoms_from spec k (drop k spec.preds)) ≡ replicate count p.first ++ rest =
    ap (λ (ps : List Pred). map (atom_first spec) (atoms_from spec k ps)) (drop_more spec.preds k p lt ∙ ap (λ (q : Pred). q ∷ drop (k + 1) spec.preds) (sym is))
    ∙ map-append (atom_first spec) block (atoms_from spec (k + 1) (drop (k + 1) spec.preds))
    ∙ ap (λ (bs : List Bool). bs ++ rest) (all_one (λ (xs : List ℕ). let a : Atom = record { pred = k; args = xs } in a) (atom_first spec) p.first first ts ∙ ap (λ (n : ℕ). replicate n p.first) (length-tuples (sizes_of spec p.sorts) ∙ sym count_is)) in
    turned before (replicate count p.first) rest _ _ now so_far split step

pub values_filled : (spec : Spec) (k : ℕ) (n : Num) (count : ℕ) (before now : List ℤ) → k < length spec.nums → n ≡ get_or spec.nums k n → count ≡ tuple_count (sizes_of spec n.sorts) → now ≡ before ++ replicate count n.init
    → before ++ map (first_value spec) (cells_from spec k (drop k spec.nums)) ≡ map (first_value spec) (cells spec) → now ++ map (first_value spec) (cells_from spec (k + 1) (drop (k + 1) spec.nums)) ≡ map (first_value spec) (cells spec)
values_filled spec k n count before now lt is count_is step so_far =
    let found : slice_get spec.nums k ≡ Some n = slice_get-get_or spec.nums k n lt ∙ ap Some (sym is) in
    let first : (xs : List ℕ) → first_value spec (record { num = k; args = xs }) ≡ n.init = λ xs. ap (λ (o : Option Num). option_map_or (λ (m : Num). m.init) o (pos 0)) found in
    let rest = map (first_value spec) (cells_from spec (k + 1) (drop (k + 1) spec.nums)) in
    let ts = tuples (sizes_of spec n.sorts) in
    let block : List Cell = map (λ (xs : List ℕ). record { num = k; args = xs }) ts in
    let split : map (first_value spec) (cells_from spec k (drop k spec.nums)) ≡ replicate count n.init ++ rest =
    ap (λ (ns : List Num). map (first_value spec) (cells_from spec k ns)) (drop_more spec.nums k n lt ∙ ap (λ (m : Num). m ∷ drop (k + 1) spec.nums) (sym is))
    ∙ map-append (first_value spec) block (cells_from spec (k + 1) (drop (k + 1) spec.nums))
    ∙ ap (λ (vs : List ℤ). vs ++ rest) (all_one (λ (xs : List ℕ). let c : Cell = record { num = k; args = xs } in c) (first_value spec) n.init first ts ∙ ap (λ (m : ℕ). replicate m n.init) (length-tuples (sizes_of spec n.sorts) ∙ sym count_is)) in
    turned before (replicate count n.init) rest _ _ now so_far split step

get-mapped : {X Y : Type 0} (f : X → Y) (xs : List X) (i : ℕ) (x : X) (d : Y) → slice_get xs i ≡ Some x → get_or (map f xs) i d ≡ f x
get-mapped f xs i x d at = get_or_from_slice_get (map f xs) i (f x) d (slice_get-map f xs i ∙ ap (option_map f) at)

-- the lists of first truths and values make the first state
pub first_state : (spec s : Spec) (truths : List Bool) (values : List ℤ) → s ≡ spec → truths ≡ map (atom_first spec) (atoms spec) → values ≡ map (first_value spec) (cells spec) → IsFirst spec (record { spec = s; truths = truths; values = values })
first_state spec s truths values is t v = record {
  of_spec = is;
  truths = λ atom f.
      ap (λ (z : Spec). get_or truths (atom_index z atom.pred atom.args) false) is ∙ ap (λ (bs : List Bool). get_or bs (atom_index spec atom.pred atom.args) false) t
      ∙ get-mapped (atom_first spec) (atoms spec) (atom_index spec atom.pred atom.args) atom false (atom_there spec atom _ f refl);
  values = λ cell f.
      ap (λ (z : Spec). get_or values (cell_index z cell) (pos 0)) is ∙ ap (λ (ns : List ℤ). get_or ns (cell_index spec cell) (pos 0)) v
      ∙ get-mapped (first_value spec) (cells spec) (cell_index spec cell) cell (pos 0) (cell_there spec cell _ f refl);
}

-- a first value is one of 64 bits
pub init_fits : (spec : Spec) (n : Num) → NumFits spec n → to_z w64 (of_z w64 n.init) ≡ n.init
init_fits spec n f = to_z-of_z w64 n.init (subst (SFits w64) (sym f.init_is) (omega (arith, ints, f.init_small)))
