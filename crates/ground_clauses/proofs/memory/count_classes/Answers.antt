use Rattle.std.proofs.Common.{◌≡◌, ℕ, ◌≤◌, length, refl, arith}
use Rattle.ground_clauses.specs.Cases.{target_classes}
use Rattle.ground_clauses.proofs.Remembering.{topic_made}
use Rattle.ground_clauses.proofs.memory.count_classes.Goals as goal

pub returns : goal.returns
returns c = λ place.
    topic_made c.args.spec.now c.args.case.now place _ c.pattern_sorts-sorts.result c.as_slice.result.now c.as_slice-classes.result.now (target_classes c.args.spec.now c.args.case.now) c.list_counts.new.counts c.list_counts.new.counts
    c.requires.well_formed c.pattern_sorts-sorts.ensures c.as_slice.ensures.value c.as_slice-classes.ensures.value refl refl c.in_ok-list_counts.ensures
    (omega (arith, c.len-many.ensures.value, c.requires.well_formed.few_sorts))
