use Rattle.effect_model.proofs.pruning.Seeking.literal_next.Goals as goal

pub returns-in-Atom-clause-untouched : goal.returns-in-Atom-clause-untouched
returns-in-Atom-clause-untouched c = λ x le lt. rw c.in-Atom.is (rw c.as_slice.ensures.value at (c.lines_next.ensures.untouched x le lt))
