use Rattle.std.proofs.Common.{◌∙◌}
use Rattle.spec_model.specs.declared.operation.Term.TheVariants.{Every}
use Rattle.ground_clauses.specs.Cases.{reaches, reaches_have}
use Rattle.ground_clauses.proofs.Reaches.{short_classes}
use Rattle.ground_clauses.proofs.reach.terms_touch.Goals as goal

pub returns-in_default : goal.returns-in_default
returns-in_default c =
    short_classes (reaches_have (reaches c.args.op.now.params c.args.classes.now c.args.bits)) c.args.terms.now c.loop-term.term-index Every c.loop-term.left.now c.loop-term-test.true c.in_default.len_below
    ∙ c.loop-term.invariant
