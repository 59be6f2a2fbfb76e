use Rattle.std.proofs.lemmas.Result.{err_from_is_err_and}
use Rattle.spec_language.specs.Draft.{op_touch}
use Rattle.spec_language.proofs.Fitting.{change_last-ok, change_last-err}
use Rattle.spec_language.proofs.effect.touch_last.Goals as goal

pub returns-in_err-op_touch : goal.returns-in_err-op_touch
returns-in_err-op_touch c =
    let p = err_from_is_err_and c.from_residual.result c.from_residual.ensures.1 in
    rw (p.1, p.2, c.in-Some.ensures) (change_last-err _ (op_touch c.args.preds.now c.args.truth c.args.pred.now c.args.terms.now) c.pop.new.self c.in-Some.last c.in_err-op_touch.ensures)

pub returns : goal.returns
returns c = rw (c.in-Some.ensures, c.in_ok-push.ensures.ok) (change_last-ok (op_touch c.args.preds.now c.args.truth c.args.pred.now c.args.terms.now) c.pop.new.self c.in-Some.last c.op_touch.new.op c.in_ok-op_touch.ensures)
