use Rattle.std.proofs.lemmas.Option.{slice_get_within}
use Rattle.spec_model.specs.Universe.{cells}
use Rattle.effect_model.proofs.Listing.{get-cells}
use Rattle.effect_model.proofs.places.cell_place.Goals as goal

pub returns-clause-place : goal.returns-clause-place
returns-clause-place c = get-cells c.args.spec.now c.place_of.result _ (rw c.as_slice.ensures.value at c.place_of.ensures)

pub returns-clause-within : goal.returns-clause-within
returns-clause-within c = slice_get_within (cells c.args.spec.now) c.place_of.result c.args.cell.now (get-cells c.args.spec.now c.place_of.result _ (rw c.as_slice.ensures.value at c.place_of.ensures))
