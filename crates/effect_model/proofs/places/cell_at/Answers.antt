use Rattle.effect_model.proofs.Listing.{length-cells, get-cells}
use Rattle.effect_model.proofs.places.cell_at.Goals as goal

pub tuple_at_place-tuple-requires-clause-within : goal.tuple_at_place-tuple-requires-clause-within
tuple_at_place-tuple-requires-clause-within c = rw c.as_slice.ensures.value (rw (length-cells c.args.spec.now) at c.requires.within)

pub returns : goal.returns
returns c = get-cells c.args.spec.now c.args.place c.tuple_at_place-tuple.result (rw c.as_slice.ensures.value at c.tuple_at_place-tuple.ensures)
