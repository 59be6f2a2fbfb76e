use Rattle.std.proofs.Common.{◌≡◌, drop}
use Rattle.spec_model.specs.Truths.{terms_touch}
use Rattle.ground_clauses.specs.Cases.{reaches, reaches_have}
use Rattle.ground_clauses.proofs.reach.terms_touch.Given as goal

abbrev pub invariant-loop-term : goal.invariant-loop-term
invariant-loop-term l = terms_touch (reaches_have (reaches l.op.params l.classes l.bits)) (drop l.term-index l.terms) l.left ≡ terms_touch (reaches_have (reaches l.op.params l.classes l.bits)) l.terms l.args
