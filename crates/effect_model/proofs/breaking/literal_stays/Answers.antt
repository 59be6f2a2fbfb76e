use Rattle.std.proofs.Common.{◌∙◌, sym}
use Rattle.effect_model.specs.Laying.{truths_after}
use Rattle.effect_model.proofs.Stays.{stands_given, true_given}
use Rattle.effect_model.proofs.breaking.literal_stays.Goals as goal

pub literal_true-requires-clause-stands : goal.literal_true-requires-clause-stands
literal_true-requires-clause-stands g c = stands_given c.args.laid.now.spec.now c.args.front.now c.requires.stands.0 c.args.literal.now (sym c.literal_given.ensures ∙ c.if-literal_given.true) c.requires.stands.1

pub returns-then-literal_given : goal.returns-then-literal_given
returns-then-literal_given g c = λ yes behind. true_given (truths_after g.T.Truth.truths c.args.laid.now) c.args.front.now behind c.args.sign c.args.literal.now (sym c.literal_given.ensures ∙ c.if-literal_given.true) (sym c.literal_true.ensures ∙ yes)
