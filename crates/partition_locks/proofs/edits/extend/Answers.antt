use Rattle.std.proofs.Common.{◌≡◌, ◌+◌, ◌++◌, true, false, List, drop, take, set, ap, ◌∙◌, sym}
use Rattle.ind_base.specs.declared.span.Span.{Span}
use Rattle.partition_locks.specs.Edits.{begins_at}
use Rattle.partition_locks.proofs.Spliced.{join_in, set_in, front_alone}
use Rattle.partition_locks.proofs.edits.extend.Goals as goal

pub returns-then-begins_behind-clause-value : goal.returns-then-begins_behind-clause-value
returns-then-begins_behind-clause-value c =
    let runs : List Span = c.args.runs.now.items in
    let at = c.args.at in
    let w : Span = record { lo = c.args.run.lo; hi = c.args.hi } in
    let last : Span = c.remove-next.result in
    let one : Span = record { lo = c.args.run.lo; hi = last.hi } in
    let near : begins_at (drop (at + 1) runs) (w.hi + 1) ≡ true = ap (λ (xs : List Span). begins_at (drop (at + 1) xs) (w.hi + 1)) (sym c.as_slice.ensures.value) ∙ (sym c.begins_behind.ensures ∙ c.if-begins_behind.true) in
    ap (λ (xs : List Span). set xs at one) c.remove-next.ensures.items ∙ join_in runs at w last.hi last near (ap (λ (s : Span). s.hi) c.remove-next.ensures.value)

pub returns-else-begins_behind-clause-value : goal.returns-else-begins_behind-clause-value
returns-else-begins_behind-clause-value c =
    let runs : List Span = c.args.runs.now.items in
    let at = c.args.at in
    let w : Span = record { lo = c.args.run.lo; hi = c.args.hi } in
    let far : begins_at (drop (at + 1) runs) (w.hi + 1) ≡ false = ap (λ (xs : List Span). begins_at (drop (at + 1) xs) (w.hi + 1)) (sym c.as_slice.ensures.value) ∙ (sym c.begins_behind.ensures ∙ c.if-begins_behind.false) in
    set_in runs at w c.requires.within ∙ ap (λ (xs : List Span). take at runs ++ xs) (sym (front_alone w (drop (at + 1) runs) far))
