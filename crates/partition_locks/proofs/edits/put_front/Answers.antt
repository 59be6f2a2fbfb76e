use Rattle.std.proofs.Common.{◌≡◌, ◌+◌, true, List, drop, ap, ◌∙◌, sym}
use Rattle.ind_base.specs.declared.span.Span.{Span}
use Rattle.partition_locks.specs.Edits.{begins_at}
use Rattle.partition_locks.proofs.Spliced.{set_front}
use Rattle.partition_locks.proofs.edits.put_front.Goals as goal

pub returns-then-begins_behind-clause-ok : goal.returns-then-begins_behind-clause-ok
returns-then-begins_behind-clause-ok c =
    let runs : List Span = c.args.runs.now.items in
    let span : Span = c.args.span.now in
    let at = c.args.at in
    let there : Span = c.index.result.now in
    let near : begins_at (drop at runs) (span.hi + 1) ≡ true = ap (λ (xs : List Span). begins_at (drop at xs) (span.hi + 1)) (sym c.as_slice.ensures.value) ∙ (sym c.begins_behind.ensures ∙ c.if-begins_behind.true) in
    set_front runs at span there.hi there near (ap (λ (s : Span). s.hi) c.index.ensures)
