use Rattle.std.proofs.Common.{◌+◌, ◌≤◌, ap, ◌∙◌, subst, sym}
use Rattle.ground_clauses.proofs.Totals.{two_intervals}
use Rattle.ground_clauses.specs.Counting as counting
use Rattle.spec_model.specs.declared.operation.Op.{Op}
use Rattle.spec_model.specs.Truths.{op_at}
use Rattle.ground_clauses.proofs.counting.sort_count.Goals as goal

pub class_ways-requires-clause-intervals : goal.class_ways-requires-clause-intervals
class_ways-requires-clause-intervals c =
    subst (λ x. x ≤ 2)
    (sym (ap (λ x. x + c.intervals-second.result) (c.intervals-first.ensures ∙ ap (counting.intervals c.args.sort) (c.as_slice.ensures.value ∙ ap (λ (op : Op). op.params) c.op_at.ensures))
    ∙ ap (λ x. counting.intervals c.args.sort (op_at c.args.spec.now c.args.a).params + x) (c.intervals-second.ensures ∙ ap (counting.intervals c.args.sort) (c.as_slice-2.ensures.value ∙ ap (λ (op : Op). op.params) c.op_at-2.ensures))))
    (two_intervals c.args.spec.now c.args.a c.args.b c.args.sort c.requires.well_formed)
