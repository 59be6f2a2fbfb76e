-- Atoms and cells are the tuples of what is declared, by other names.
use Rattle.std.proofs.Common.{◌≡◌, ℕ, ◌+◌, List, [], ◌∷◌, ◌++◌, map, length, refl, sym, ap, ◌∙◌, Some}
use Rattle.std.specs.List.{slice_get, sum_by}
use Rattle.std.specs.Option.{option_map}
use Rattle.std.proofs.lemmas.List.{length-map, map-append}
use Rattle.std.proofs.lemmas.Option.{slice_get-map}
use Rattle.spec_model.specs.declared.spec.Spec.{Spec}
use Rattle.spec_model.specs.declared.spec.Pred.{Pred}
use Rattle.spec_model.specs.declared.spec.Num.{Num}
use Rattle.spec_model.specs.declared.instance.Atom.{Atom}
use Rattle.spec_model.specs.declared.instance.Cell.{Cell}
use Rattle.spec_model.specs.Universe.{tuples, sizes_of, atoms, atoms_from, cells, cells_from}
use Rattle.effect_model.specs.declared.layout.Tuple.{Tuple}
use Rattle.effect_model.specs.Tuples.{count_over}
use Rattle.effect_model.specs.Listed.{tuples_of}
use Rattle.effect_model.proofs.Declarations.{tuple, length-all}

abbrev pub atom_of : Tuple → Atom
atom_of t = record { pred = t.of; args = t.args }

abbrev pub cell_of : Tuple → Cell
cell_of t = record { num = t.of; args = t.args }

abbrev pub pred_sorts : Pred → List ℕ
pred_sorts p = p.sorts

abbrev pub num_sorts : Num → List ℕ
num_sorts n = n.sorts

map_twice : {X Y Z : Type 0} (f : X → Y) (g : Y → Z) (xs : List X) → map (λ x. g (f x)) xs ≡ map g (map f xs)
map_twice f g [] = refl
map_twice f g (x ∷ xs) = ap (λ zs. g (f x) ∷ zs) (map_twice f g xs)

pub atoms_are : (spec : Spec) (k : ℕ) (preds : List Pred) → atoms_from spec k preds ≡ map atom_of (tuples_of spec pred_sorts k preds)
atoms_are spec k [] = refl
atoms_are spec k (p ∷ preds) =
    let block = map (tuple k) (tuples (sizes_of spec p.sorts)) in
    ap (λ (as' : List Atom). as' ++ atoms_from spec (k + 1) preds) (map_twice (tuple k) atom_of (tuples (sizes_of spec p.sorts)))
    ∙ ap (λ (as' : List Atom). map atom_of block ++ as') (atoms_are spec (k + 1) preds)
    ∙ sym (map-append atom_of block (tuples_of spec pred_sorts (k + 1) preds))

pub cells_are : (spec : Spec) (k : ℕ) (nums : List Num) → cells_from spec k nums ≡ map cell_of (tuples_of spec num_sorts k nums)
cells_are spec k [] = refl
cells_are spec k (n ∷ nums) =
    let block = map (tuple k) (tuples (sizes_of spec n.sorts)) in
    ap (λ (cs : List Cell). cs ++ cells_from spec (k + 1) nums) (map_twice (tuple k) cell_of (tuples (sizes_of spec n.sorts)))
    ∙ ap (λ (cs : List Cell). map cell_of block ++ cs) (cells_are spec (k + 1) nums)
    ∙ sym (map-append cell_of block (tuples_of spec num_sorts (k + 1) nums))

pub length-atoms : (spec : Spec) → length (atoms spec) ≡ sum_by (count_over spec pred_sorts) spec.preds
length-atoms spec = ap length (atoms_are spec 0 spec.preds) ∙ length-map (tuples_of spec pred_sorts 0 spec.preds) atom_of ∙ length-all spec pred_sorts 0 spec.preds

pub length-cells : (spec : Spec) → length (cells spec) ≡ sum_by (count_over spec num_sorts) spec.nums
length-cells spec = ap length (cells_are spec 0 spec.nums) ∙ length-map (tuples_of spec num_sorts 0 spec.nums) cell_of ∙ length-all spec num_sorts 0 spec.nums

-- an atom or cell at a place, by the tuple there
pub get-atoms : (spec : Spec) (place : ℕ) (t : Tuple) → slice_get (tuples_of spec pred_sorts 0 spec.preds) place ≡ Some t → slice_get (atoms spec) place ≡ Some (atom_of t)
get-atoms spec place t at =
    ap (λ (as' : List Atom). slice_get as' place) (atoms_are spec 0 spec.preds) ∙ slice_get-map atom_of (tuples_of spec pred_sorts 0 spec.preds) place ∙ ap (option_map atom_of) at

pub get-cells : (spec : Spec) (place : ℕ) (t : Tuple) → slice_get (tuples_of spec num_sorts 0 spec.nums) place ≡ Some t → slice_get (cells spec) place ≡ Some (cell_of t)
get-cells spec place t at =
    ap (λ (cs : List Cell). slice_get cs place) (cells_are spec 0 spec.nums) ∙ slice_get-map cell_of (tuples_of spec num_sorts 0 spec.nums) place ∙ ap (option_map cell_of) at
