use Rattle.std.proofs.Common.{sym, ◌∙◌}
use Rattle.std.proofs.lemmas.Bool.{eqb-false}
use Rattle.spec_language.specs.AtStart.{starts_at}
use Rattle.spec_language.proofs.Instances.{more_hold, some_fail, cut_size}
use Rattle.spec_language.proofs.at_start.+start_behind.Goals as goal

pub loop-x-preserved : goal.loop-x-preserved
loop-x-preserved n c =
    more_hold (starts_at c.args.preds.now c.args.clause.now) c.args.front _ c.loop-x.x _ c.push.ensures c.loop-x.invariant (sym c.if-not-start_behind.false ∙ c.start_behind.ensures)

pub returns-then-not-start_behind : goal.returns-then-not-start_behind
returns-then-not-start_behind n c =
    let some = eqb-false _ _ (sym c.is_empty.ensures ∙ c.if-is_empty.false) in
    rw (cut_size c.args.sizes.now _ _ some c.split_at.ensures.front c.split_at.ensures.back)
    (some_fail (starts_at c.args.preds.now c.args.clause.now) c.args.front _ c.loop-x.x _ _ c.push.ensures c.loop-x-test.true (sym c.if-not-start_behind.true ∙ c.start_behind.ensures))
