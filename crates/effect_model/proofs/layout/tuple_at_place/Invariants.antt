use Rattle.effect_model.proofs.Sought.{IsFinding}
use Rattle.effect_model.proofs.layout.tuple_at_place.Given as goal

abbrev pub invariant-loop-at : goal.invariant-loop-at
invariant-loop-at g l = IsFinding l.spec g.D.Declared.sorts_of l.declared l.fn.place l.at l.left
