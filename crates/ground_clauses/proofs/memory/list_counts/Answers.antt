use Rattle.ground_clauses.specs.Cases.{class_count}
use Rattle.ground_clauses.proofs.Remembering.{counts_push}
use Rattle.ground_clauses.proofs.memory.list_counts.Goals as goal

pub loop-sort-preserved : goal.loop-sort-preserved
loop-sort-preserved c =
    counts_push (class_count c.args.sorts.now c.args.classes.now) c.loop-sort.sort c.loop-sort.counts c.push.new.self c.class_count.result c.loop-sort.invariant c.in_ok-push.ensures.ok c.class_count.ensures.value
