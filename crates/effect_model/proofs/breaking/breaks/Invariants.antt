use Rattle.std.proofs.Common.{◌≡◌, drop}
use Rattle.spec_model.specs.Breaks.{broken_from, broken_by}
use Rattle.effect_model.proofs.breaking.breaks.Given as goal

abbrev pub invariant-loop-at : goal.invariant-loop-at
invariant-loop-at g l = broken_from l.spec l.inst (g.T.Truth.truths l.state) l.at (drop l.at l.spec.clauses) ≡ broken_by l.spec (g.T.Truth.truths l.state) l.inst
