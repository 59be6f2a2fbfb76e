use Rattle.std.proofs.Common.{sym, arith}
use Rattle.partition_locks.specs.Held.{lies_in}
use Rattle.partition_locks.proofs.Apart.{around_at, past_all}
use Rattle.partition_locks.proofs.Queries.{first_missing, missing_behind, missing_nothing}
use Rattle.partition_locks.proofs.runs.missing_at.Goals as goal

pub returns-in-None : goal.returns-in-None
returns-in-None c =
    let span = c.args.span.now in
    sym (first_missing (lies_in c.args.runs.now) span (omega arith) (past_all c.args.runs.now span.lo c.args.at c.requires.place c.in-None.ensures.lookup.3 span.lo (omega arith)))

pub returns-then-span-run : goal.returns-then-span-run
returns-then-span-run c =
    let span = c.args.span.now in
    let runs = c.args.runs.now in
    let a = around_at runs span.lo c.args.at c.in-Some.run'.now c.requires.apart c.requires.place c.in-Some.ensures.lookup.3.0 c.in-Some.ensures.lookup.1 in
    sym (first_missing (lies_in runs) span (omega arith) (a.gap span.lo (omega arith) (omega (arith, c.if-span-run.true))))

pub returns-then-run-span : goal.returns-then-run-span
returns-then-run-span c =
    let span = c.args.span.now in
    let runs = c.args.runs.now in
    let a = around_at runs span.lo c.args.at c.in-Some.run'.now c.requires.apart c.requires.place c.in-Some.ensures.lookup.3.0 c.in-Some.ensures.lookup.1 in
    sym (missing_behind (lies_in runs) span c.in-Some.run'.now a (omega (arith, c.if-span-run.false)) (omega (arith, c.if-run-span.true)))

pub returns-else-run-span : goal.returns-else-run-span
returns-else-run-span c =
    let span = c.args.span.now in
    let runs = c.args.runs.now in
    let a = around_at runs span.lo c.args.at c.in-Some.run'.now c.requires.apart c.requires.place c.in-Some.ensures.lookup.3.0 c.in-Some.ensures.lookup.1 in
    sym (missing_nothing (lies_in runs) span c.in-Some.run'.now (omega arith) a (omega (arith, c.if-span-run.false)) (omega (arith, c.if-run-span.false)))
