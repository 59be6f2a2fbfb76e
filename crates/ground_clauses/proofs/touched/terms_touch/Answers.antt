use Rattle.std.proofs.Common.{◌∙◌}
use Rattle.spec_model.specs.declared.operation.Term.TheVariants.{Every}
use Rattle.ground_clauses.specs.Cases.{reaches, reaches_have}
use Rattle.ground_clauses.proofs.Parts.{short_vars}
use Rattle.ground_clauses.proofs.touched.terms_touch.Goals as goal

pub returns-in_default : goal.returns-in_default
returns-in_default c =
    short_vars (reaches_have (reaches c.args.acting.now.op.now.params c.args.acting.now.classes.now c.args.acting.now.bits)) c.args.terms.now c.loop-term.term-index Every c.args.classes.now c.loop-term.left.now c.loop-term-test.true c.in_default.len_below
    ∙ c.loop-term.invariant
