use Rattle.std.proofs.Common.{◌+◌, ◌-◌, ◌++◌, true, false, List, take, drop, ap, sym, ◌∙◌, arith}
use Rattle.std.proofs.lemmas.Bool.{lt-ltb, le-ltb}
use Rattle.ind_base.specs.declared.span.Span.{Span}
use Rattle.partition_locks.proofs.Spliced.{set_in, remains_are}
use Rattle.partition_locks.proofs.edits.cut_run.Goals as goal

pub returns-else-span-run-clause-ok : goal.returns-else-span-run-clause-ok
returns-else-span-run-clause-ok c =
    let runs : List Span = c.args.runs.now.items in
    let run : Span = c.args.run in
    let span : Span = c.args.span.now in
    let at = c.args.at in
    set_in runs at (record { lo = run.lo; hi = span.lo - 1 }) c.requires.within
    ∙ ap (λ (xs : List Span). take at runs ++ (xs ++ drop (at + 1) runs)) (sym (remains_are run span true false (lt-ltb run.lo span.lo (omega (arith, c.if-run-span.true))) (le-ltb span.hi run.hi (omega (arith, c.if-span-run.false)))))

pub returns-then-span-run-2-clause-ok : goal.returns-then-span-run-2-clause-ok
returns-then-span-run-2-clause-ok c =
    let runs : List Span = c.args.runs.now.items in
    let run : Span = c.args.run in
    let span : Span = c.args.span.now in
    let at = c.args.at in
    set_in runs at (record { lo = span.hi + 1; hi = run.hi }) c.requires.within
    ∙ ap (λ (xs : List Span). take at runs ++ (xs ++ drop (at + 1) runs)) (sym (remains_are run span false true (le-ltb run.lo span.lo (omega (arith, c.if-run-span.false))) (lt-ltb span.hi run.hi (omega (arith, c.if-span-run-2.true)))))
