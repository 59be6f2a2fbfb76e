use Rattle.std.proofs.Common.{List, set, ap, ◌∙◌}
use Rattle.ind_base.specs.declared.span.Span.{Span}
use Rattle.partition_locks.proofs.Spliced.{split_in}
use Rattle.partition_locks.proofs.edits.split_run.Goals as goal

pub returns-clause-ok : goal.returns-clause-ok
returns-clause-ok c =
    ap (λ (xs : List Span). set xs c.args.at c.args.low) c.in_ok-insert_at.ensures.ok ∙ split_in c.args.runs.now.items c.args.at c.args.low c.args.high c.requires
