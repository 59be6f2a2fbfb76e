-- The universe is all that fits, each at one place.
use Rattle.std.proofs.Common.{◌≡◌, ℕ, List, [], sym, ap, ◌∙◌, subst, arith, Option, Some, None}
use Rattle.std.specs.List.{slice_get, Contains}
use Rattle.std.specs.Option.{option_map}
use Rattle.std.proofs.lemmas.Option.{slice_get-map, slice_get_within, slice_get-get_or, get_or_from_slice_get}
use Rattle.spec_model.specs.declared.spec.Spec.{Spec}
use Rattle.spec_model.specs.declared.instance.Atom.{Atom}
use Rattle.spec_model.specs.declared.instance.Cell.{Cell}
use Rattle.spec_model.specs.Truths.{Within, size_of, pred_at, num_at, no_pred, no_num}
use Rattle.spec_model.specs.Universe.{atoms, cells}
use Rattle.effect_model.specs.declared.layout.Tuple.{Tuple}
use Rattle.effect_model.specs.Listed.{tuples_of}
use Rattle.effect_model.specs.Places.{AtomFits, CellFits}
use Rattle.effect_model.specs.Laws.{AtomsAreAll, CellsAreAll}
use Rattle.effect_model.proofs.Declarations.{StandsIn, stands_in, place_in, tuple, stands_there}
use Rattle.effect_model.proofs.Listing.{atom_of, cell_of, pred_sorts, num_sorts, atoms_are, cells_are, get-atoms, get-cells}

-- an element of a list, by its place and by membership
pub got : {X : Type 0} (xs : List X) (x : X) → Contains xs x → (i : ℕ) × (slice_get xs i ≡ Some x)
got xs x c = (c.0, slice_get-get_or xs c.0 x c.1 ∙ ap Some c.2)

pub among : {X : Type 0} (xs : List X) (i : ℕ) (x : X) → slice_get xs i ≡ Some x → Contains xs x
among xs i x at = (i, slice_get_within xs i x at, get_or_from_slice_get xs i x x at)

-- one tuple, one place
one_place : {D : Type 0} (spec : Spec) (sorts : D → List ℕ) (ds : List D) (i j : ℕ) (t : Tuple) → StandsIn spec sorts 0 ds i t → StandsIn spec sorts 0 ds j t → i ≡ j
one_place spec sorts ds i j t a b =
    let same : a.i ≡ b.i = omega (arith, a.named, b.named) in
    let one : Some a.one ≡ Some b.one = sym a.one_is ∙ ap (slice_get ds) same ∙ b.one_is in
    let here : place_in spec sorts ds a.i a.one t.args ≡ place_in spec sorts ds b.i a.one t.args = ap (λ n. place_in spec sorts ds n a.one t.args) same in
    let there : place_in spec sorts ds b.i a.one t.args ≡ place_in spec sorts ds b.i b.one t.args = ap (λ d. place_in spec sorts ds b.i d t.args) cc in
    a.place_is ∙ here ∙ there ∙ sym b.place_is

abbrev of_some : {X Y : Type 0} (f : X → Y) (d : Y) → Option X → Y
of_some f d None = d
of_some f d (Some x) = f x

-- the tuple behind an atom or a cell
atom_tuple : (spec : Spec) (i : ℕ) (atom : Atom) → slice_get (atoms spec) i ≡ Some atom → StandsIn spec pred_sorts 0 spec.preds i (tuple atom.pred atom.args)
atom_tuple spec i atom at =
    let mapped : option_map atom_of (slice_get (tuples_of spec pred_sorts 0 spec.preds) i) ≡ Some atom =
    sym (slice_get-map atom_of (tuples_of spec pred_sorts 0 spec.preds) i) ∙ sym (ap (λ (as' : List Atom). slice_get as' i) (atoms_are spec 0 spec.preds)) ∙ at in
    stands_in spec pred_sorts 0 spec.preds i (tuple atom.pred atom.args) (unmapped (slice_get (tuples_of spec pred_sorts 0 spec.preds) i) atom mapped)
  where
    unmapped : (o : Option Tuple) (atom : Atom) → option_map atom_of o ≡ Some atom → o ≡ Some (tuple atom.pred atom.args)
    unmapped None atom e = absurd cc
    unmapped (Some t) atom e = ap (λ (p : Option Atom). Some (of_some (λ (a : Atom). tuple a.pred a.args) (tuple 0 []) p)) e

cell_tuple : (spec : Spec) (i : ℕ) (cell : Cell) → slice_get (cells spec) i ≡ Some cell → StandsIn spec num_sorts 0 spec.nums i (tuple cell.num cell.args)
cell_tuple spec i cell at =
    let mapped : option_map cell_of (slice_get (tuples_of spec num_sorts 0 spec.nums) i) ≡ Some cell =
    sym (slice_get-map cell_of (tuples_of spec num_sorts 0 spec.nums) i) ∙ sym (ap (λ (cs : List Cell). slice_get cs i) (cells_are spec 0 spec.nums)) ∙ at in
    stands_in spec num_sorts 0 spec.nums i (tuple cell.num cell.args) (unmapped (slice_get (tuples_of spec num_sorts 0 spec.nums) i) cell mapped)
  where
    unmapped : (o : Option Tuple) (cell : Cell) → option_map cell_of o ≡ Some cell → o ≡ Some (tuple cell.num cell.args)
    unmapped None cell e = absurd cc
    unmapped (Some t) cell e = ap (λ (p : Option Cell). Some (of_some (λ (a : Cell). tuple a.num a.args) (tuple 0 []) p)) e

pub atoms_all : (spec : Spec) (atom : Atom) → AtomsAreAll spec atom
atoms_all spec atom = record {
  those_that_fit = (λ c. fits (got (atoms spec) atom c), λ f. there f);
  once = λ i j p q. one_place spec pred_sorts spec.preds i j (tuple atom.pred atom.args) (atom_tuple spec i atom p) (atom_tuple spec j atom q);
}
  where
    fits : (i : ℕ) × (slice_get (atoms spec) i ≡ Some atom) → AtomFits spec atom
    fits at =
        let s = atom_tuple spec at.0 atom at.1 in
        let here : slice_get spec.preds atom.pred ≡ Some s.one = ap (slice_get spec.preds) (omega (arith, s.named)) ∙ s.one_is in
        let one : s.one ≡ pred_at spec atom.pred = sym (get_or_from_slice_get spec.preds atom.pred s.one no_pred here) in
        record {
          known = slice_get_within spec.preds atom.pred s.one here;
          within = subst (λ p. Within (size_of spec) (pred_sorts p) atom.args) one s.within;
        }

    there : AtomFits spec atom → Contains (atoms spec) atom
    there f = among (atoms spec) _ atom (get-atoms spec _ (tuple atom.pred atom.args)
        (stands_there spec pred_sorts 0 spec.preds atom.pred atom.pred (pred_at spec atom.pred) atom.args (slice_get-get_or spec.preds atom.pred no_pred f.known) f.within (omega arith)))

pub cells_all : (spec : Spec) (cell : Cell) → CellsAreAll spec cell
cells_all spec cell = record {
  those_that_fit = (λ c. fits (got (cells spec) cell c), λ f. there f);
  once = λ i j p q. one_place spec num_sorts spec.nums i j (tuple cell.num cell.args) (cell_tuple spec i cell p) (cell_tuple spec j cell q);
}
  where
    fits : (i : ℕ) × (slice_get (cells spec) i ≡ Some cell) → CellFits spec cell
    fits at =
        let s = cell_tuple spec at.0 cell at.1 in
        let here : slice_get spec.nums cell.num ≡ Some s.one = ap (slice_get spec.nums) (omega (arith, s.named)) ∙ s.one_is in
        let one : s.one ≡ num_at spec cell.num = sym (get_or_from_slice_get spec.nums cell.num s.one no_num here) in
        record {
          known = slice_get_within spec.nums cell.num s.one here;
          within = subst (λ n. Within (size_of spec) (num_sorts n) cell.args) one s.within;
        }

    there : CellFits spec cell → Contains (cells spec) cell
    there f = among (cells spec) _ cell (get-cells spec _ (tuple cell.num cell.args)
        (stands_there spec num_sorts 0 spec.nums cell.num cell.num (num_at spec cell.num) cell.args (slice_get-get_or spec.nums cell.num no_num f.known) f.within (omega arith)))
