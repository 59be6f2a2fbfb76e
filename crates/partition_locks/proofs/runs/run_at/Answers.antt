use Rattle.std.proofs.Common.{sym, arith}
use Rattle.partition_locks.specs.Held.{lies_in}
use Rattle.partition_locks.proofs.Apart.{around_at, past_all}
use Rattle.partition_locks.proofs.Queries.{empty_run, no_run, run_found}
use Rattle.partition_locks.proofs.runs.run_at.Goals as goal

pub returns-then-span : goal.returns-then-span
returns-then-span c = sym (empty_run (lies_in c.args.runs.now) c.args.span.now (omega arith))

pub returns-in-None : goal.returns-in-None
returns-in-None c =
    let span = c.args.span.now in
    let runs = c.args.runs.now in
    sym (no_run (lies_in runs) span (omega arith) (λ y low high. past_all runs span.lo c.args.at c.requires.place c.in-None.ensures.lookup.3 y low))

pub returns-then-span-run : goal.returns-then-span-run
returns-then-span-run c =
    let span = c.args.span.now in
    let runs = c.args.runs.now in
    let a = around_at runs span.lo c.args.at c.in-Some.run'.now c.requires.apart c.requires.place c.in-Some.ensures.lookup.3.0 c.in-Some.ensures.lookup.1 in
    sym (no_run (lies_in runs) span (omega arith) (λ y low high. a.gap y low (omega (arith, high, c.if-span-run.true))))

pub returns-else-span-run : goal.returns-else-span-run
returns-else-span-run c =
    let span = c.args.span.now in
    let runs = c.args.runs.now in
    let a = around_at runs span.lo c.args.at c.in-Some.run'.now c.requires.apart c.requires.place c.in-Some.ensures.lookup.3.0 c.in-Some.ensures.lookup.1 in
    sym (run_found (lies_in runs) span c.in-Some.run'.now c.max.result c.min.result (omega arith) a (omega (arith, c.if-span-run.false)) (omega arith) (omega arith))
