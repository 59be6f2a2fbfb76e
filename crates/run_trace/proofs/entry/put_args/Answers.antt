use Rattle.std.proofs.Common.{sym, ◌∙◌}
use Rattle.run_trace.proofs.Arguments.{args_ended, args_more}
use Rattle.run_trace.proofs.entry.put_args.Goals as goal

pub returns-in_default : goal.returns-in_default
returns-in_default c = args_ended c.loop-at.at _ _ c.args.args.now _ _ (sym c.get.ensures ∙ c.in_default.is) c.loop-at.invariant

pub loop-at-preserved : goal.loop-at-preserved
loop-at-preserved c =
    args_more c.loop-at.at c.args.params.now c.args.args.now c.index-params-at.result c.in-Some.arg _ _ _ _ c.loop-at-test.true c.index-params-at.is (sym c.get.ensures ∙ c.in-Some.is)
    c.in_ok-put_comma.ensures c.in_ok-put_arg.ensures c.loop-at.invariant
