use Rattle.std.proofs.Common.{sym, arith}
use Rattle.certificate_check.proofs.Repeats.{had_it, had_none, none_seen, once_all, one_more_seen, seen_twice}
use Rattle.certificate_check.proofs.steps.many_repeat.Goals as goal

pub back-init : goal.back-init
back-init c = none_seen c.args.lits.now c.new-seen.result.keys c.new-seen.ensures.empty

pub bounds-lits-at : goal.bounds-lits-at
bounds-lits-at c =
    let within = c.back.invariant.within in
    omega (arith, within, c.back-test.true)

pub returns-then-not-branch : goal.returns-then-not-branch
returns-then-not-branch c =
    sym (seen_twice c.args.lits.now c.back.seen.keys c.back.at _ c.back-test.true c.back.invariant
    (had_it c.in_ok-insert.field-0 _ c.in_ok-insert.ensures.added c.if-not-branch.true))

pub back-preserved : goal.back-preserved
back-preserved c =
    one_more_seen c.args.lits.now c.back.seen.keys c.insert.new.self.keys c.back.at _ c.back-test.true c.back.invariant
    (had_none c.in_ok-insert.field-0 _ c.in_ok-insert.ensures.added c.if-not-branch.false) c.in_ok-insert.ensures.updates.0

pub returns : goal.returns
returns c = sym (once_all c.args.lits.now c.back.seen.keys c.back.at (omega (arith, c.back-test.false)) c.back.invariant)
