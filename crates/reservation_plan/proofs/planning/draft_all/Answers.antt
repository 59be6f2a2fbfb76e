use Rattle.std.proofs.Common.{◌∙◌}
use Rattle.std.proofs.lemmas.Result.{err_from_is_err_and}
use Rattle.reservation_plan.proofs.Steps.{next_drafts, next_pair, next_refused}
use Rattle.reservation_plan.specs.Derived.{pair_of}
use Rattle.reservation_plan.proofs.planning.draft_all.Goals as goal

pub add_pair-requires-clause-known_a : goal.add_pair-requires-clause-known_a
add_pair-requires-clause-known_a c =
    (next_pair c.args.spec.now c.as_slice-pair-items.result.now c.loop-pair.pair-index (pair_of 0 0) c.loop-pair.draft c.requires (c.as_slice-pair-items.ensures.value ∙ c.in_ok-pairs.ensures) c.loop-pair-test.true c.loop-pair.invariant.drafts).known_a

pub add_pair-requires-clause-known_b : goal.add_pair-requires-clause-known_b
add_pair-requires-clause-known_b c =
    (next_pair c.args.spec.now c.as_slice-pair-items.result.now c.loop-pair.pair-index (pair_of 0 0) c.loop-pair.draft c.requires (c.as_slice-pair-items.ensures.value ∙ c.in_ok-pairs.ensures) c.loop-pair-test.true c.loop-pair.invariant.drafts).known_b

pub add_pair-requires-clause-few_locks : goal.add_pair-requires-clause-few_locks
add_pair-requires-clause-few_locks c =
    (next_pair c.args.spec.now c.as_slice-pair-items.result.now c.loop-pair.pair-index (pair_of 0 0) c.loop-pair.draft c.requires (c.as_slice-pair-items.ensures.value ∙ c.in_ok-pairs.ensures) c.loop-pair-test.true c.loop-pair.invariant.drafts).few_locks

pub add_pair-requires-clause-few_parts : goal.add_pair-requires-clause-few_parts
add_pair-requires-clause-few_parts c =
    (next_pair c.args.spec.now c.as_slice-pair-items.result.now c.loop-pair.pair-index (pair_of 0 0) c.loop-pair.draft c.requires (c.as_slice-pair-items.ensures.value ∙ c.in_ok-pairs.ensures) c.loop-pair-test.true c.loop-pair.invariant.drafts).few_parts

pub returns-in_err-add_pair-clause-err : goal.returns-in_err-add_pair-clause-err
returns-in_err-add_pair-clause-err c =
    let p = err_from_is_err_and c.from_residual-in_err-add_pair.result c.from_residual-in_err-add_pair.ensures.1 in
    rw (p.1, p.2) (next_refused c.args.spec.now c.as_slice-pair-items.result.now c.loop-pair.pair-index (pair_of 0 0) c.loop-pair.draft _ (c.as_slice-pair-items.ensures.value ∙ c.in_ok-pairs.ensures) c.loop-pair-test.true c.loop-pair.invariant.drafts c.in_err-add_pair.ensures.err)

pub loop-pair-preserved : goal.loop-pair-preserved
loop-pair-preserved c = record {
  drafts = next_drafts c.args.spec.now c.as_slice-pair-items.result.now c.loop-pair.pair-index (pair_of 0 0) c.loop-pair.draft c.add_pair.new.self (c.as_slice-pair-items.ensures.value ∙ c.in_ok-pairs.ensures) c.loop-pair-test.true c.loop-pair.invariant.drafts c.in_ok-add_pair.ensures.ok;
  over = c.add_pair.ensures.same ∙ c.loop-pair.invariant.over;
}
