use Rattle.std.proofs.Common.{◌≡◌, drop}
use Rattle.spec_model.specs.Truths.{terms_touch, values}
use Rattle.ground_clauses.specs.Cases.{reaches, reaches_have}
use Rattle.ground_clauses.proofs.touched.terms_touch.Given as goal

abbrev pub invariant-loop-term : goal.invariant-loop-term
invariant-loop-term l =
    terms_touch (reaches_have (reaches l.acting.op.now.params l.acting.classes.now l.acting.bits)) (drop l.term-index l.terms) (values l.classes l.left)
    ≡ terms_touch (reaches_have (reaches l.acting.op.now.params l.acting.classes.now l.acting.bits)) l.terms (values l.classes l.vars)
