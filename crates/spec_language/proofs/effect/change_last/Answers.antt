use Rattle.std.proofs.lemmas.Result.{err_from_is_err_and}
use Rattle.spec_language.specs.Draft.{op_change}
use Rattle.spec_language.proofs.Fitting.{change_last-ok, change_last-err}
use Rattle.spec_language.proofs.effect.change_last.Goals as goal

pub returns-in_err-op_change : goal.returns-in_err-op_change
returns-in_err-op_change c =
    let p = err_from_is_err_and c.from_residual.result c.from_residual.ensures.1 in
    rw (p.1, p.2, c.in-Some.ensures) (change_last-err _ (op_change c.args.nums.now c.args.raises c.args.amount c.args.num.now c.args.names.now) c.pop.new.self c.in-Some.last c.in_err-op_change.ensures)

pub returns : goal.returns
returns c = rw (c.in-Some.ensures, c.in_ok-push.ensures.ok) (change_last-ok (op_change c.args.nums.now c.args.raises c.args.amount c.args.num.now c.args.names.now) c.pop.new.self c.in-Some.last c.op_change.new.op c.in_ok-op_change.ensures)
