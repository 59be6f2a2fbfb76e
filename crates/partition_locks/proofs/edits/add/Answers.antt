use Rattle.std.proofs.Common.{◌-◌, List, sym, ap, subst, ◌∙◌, ℕ}
use Rattle.ind_base.specs.declared.span.Span.{Span}
use Rattle.partition_locks.specs.Held.{AreApart, lies_in}
use Rattle.partition_locks.specs.Edits.{IsPlace}
use Rattle.partition_locks.proofs.Put.{added_apart, added_has}
use Rattle.partition_locks.proofs.edits.add.Goals as goal

pub returns-clause-apart : goal.returns-clause-apart
returns-clause-apart c =
    let runs : List Span = c.args.runs.now.items in
    let span : Span = c.args.span.now in
    let k = c.place_of-at.result in
    let here : IsPlace runs c.saturating_sub.result k = subst (λ (xs : List Span). IsPlace xs c.saturating_sub.result k) c.as_slice.ensures.value c.place_of-at.ensures in
    let place : IsPlace runs (span.lo - 1) k = subst (λ (x : ℕ). IsPlace runs x k) c.saturating_sub.ensures here in
    subst (AreApart 0) (sym c.in_ok-put_at.ensures.ok) (added_apart runs span k c.requires.apart place c.requires.some c.requires.free)

pub returns-clause-ok : goal.returns-clause-ok
returns-clause-ok c =
    let runs : List Span = c.args.runs.now.items in
    let span : Span = c.args.span.now in
    let k = c.place_of-at.result in
    λ x. ap (λ (xs : List Span). lies_in xs x) c.in_ok-put_at.ensures.ok ∙ added_has runs span k c.requires.apart c.requires.some x
