use Rattle.std.proofs.Common.{◌∙◌, sym}
use Rattle.effect_model.proofs.Listing.{length-atoms}
use Rattle.effect_model.proofs.places.atom_count.Goals as goal

pub returns-clause-count : goal.returns-clause-count
returns-clause-count c = (rw c.as_slice.ensures.value at c.count_all.ensures) ∙ sym (length-atoms c.args.spec.now)
