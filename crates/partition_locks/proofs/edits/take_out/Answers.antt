use Rattle.std.proofs.Common.{◌<◌, length, List, sym, ap, subst, ◌∙◌, arith}
use Rattle.ind_base.specs.declared.span.Span.{Span}
use Rattle.partition_locks.specs.Held.{AreApart, lies_in}
use Rattle.partition_locks.specs.Edits.{IsPlace}
use Rattle.partition_locks.proofs.Apart.{around_at}
use Rattle.partition_locks.proofs.Cut.{cut_apart, cut_has, run_covers, place_there}
use Rattle.partition_locks.proofs.edits.take_out.Goals as goal

pub index-run-requires : goal.index-run-requires
index-run-requires c =
    let runs : List Span = c.args.runs.now.items in
    let span : Span = c.args.span.now in
    let k = c.place_of-at.result in
    let place : IsPlace runs span.lo k = subst (λ (xs : List Span). IsPlace xs span.lo k) c.as_slice.ensures.value c.place_of-at.ensures in
    let lt : k < length runs = place_there runs span k place c.requires.some c.requires.held in
    omega (arith, lt, ap length c.as_slice.ensures.value, c.as_slice.ensures.len)

pub cut_run-requires-clause-within : goal.cut_run-requires-clause-within
cut_run-requires-clause-within c =
    let runs : List Span = c.args.runs.now.items in
    let span : Span = c.args.span.now in
    let k = c.place_of-at.result in
    let place : IsPlace runs span.lo k = subst (λ (xs : List Span). IsPlace xs span.lo k) c.as_slice.ensures.value c.place_of-at.ensures in
    let lt : k < length runs = place_there runs span k place c.requires.some c.requires.held in
    omega (arith, lt, ap length c.as_slice.ensures.value, c.as_slice.ensures.len)

pub returns-clause-apart : goal.returns-clause-apart
returns-clause-apart c =
    let runs : List Span = c.args.runs.now.items in
    let span : Span = c.args.span.now in
    let run : Span = c.index-run.result.now in
    let k = c.place_of-at.result in
    let place : IsPlace runs span.lo k = subst (λ (xs : List Span). IsPlace xs span.lo k) c.as_slice.ensures.value c.place_of-at.ensures in
    let lt = place_there runs span k place c.requires.some c.requires.held in
    let a = around_at runs span.lo k run c.requires.apart place lt c.index-run.ensures in
    let covers = run_covers (lies_in runs) span run a c.requires.some c.requires.held in
    subst (AreApart 0) (sym c.in_ok-cut_run.ensures.ok) (cut_apart runs span run k c.requires.apart place lt c.index-run.ensures c.requires.some covers)

pub returns-clause-ok : goal.returns-clause-ok
returns-clause-ok c =
    let runs : List Span = c.args.runs.now.items in
    let span : Span = c.args.span.now in
    let run : Span = c.index-run.result.now in
    let k = c.place_of-at.result in
    let place : IsPlace runs span.lo k = subst (λ (xs : List Span). IsPlace xs span.lo k) c.as_slice.ensures.value c.place_of-at.ensures in
    let lt = place_there runs span k place c.requires.some c.requires.held in
    let a = around_at runs span.lo k run c.requires.apart place lt c.index-run.ensures in
    let covers = run_covers (lies_in runs) span run a c.requires.some c.requires.held in
    λ x. ap (λ (xs : List Span). lies_in xs x) c.in_ok-cut_run.ensures.ok ∙ cut_has runs span run k c.requires.apart place lt c.index-run.ensures c.requires.some covers x
