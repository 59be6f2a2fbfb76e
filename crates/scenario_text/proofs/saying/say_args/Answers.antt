use Rattle.std.proofs.Common.{sym, ◌∙◌, ap, ◌++◌, ◌∷◌, []}
use Rattle.scenario_lines.specs.declared.argument.NamedArg.{NamedArg}
use Rattle.scenario_text.proofs.Fitting.{said_more}
use Rattle.scenario_text.proofs.saying.say_args.Goals as goal

pub loop-at-preserved : goal.loop-at-preserved
loop-at-preserved c =
    said_more c.args.params.now c.args.spans c.loop-at.at c.index-params-at.result c.in-Some.span c.loop-at.found _ _ c.loop-at-test.true c.index-params-at.is (sym c.get.ensures ∙ c.in-Some.is)
    (c.in_ok-push-in-Some.ensures.ok ∙ ap (λ (x : NamedArg). c.loop-at.found ++ x ∷ []) c.say_arg.ensures) c.loop-at.invariant
