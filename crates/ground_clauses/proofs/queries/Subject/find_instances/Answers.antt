use Rattle.std.proofs.Common.{◌≡◌, ℕ, List, map, ap, ◌∙◌}
use Rattle.std.specs.Prelude.{Ok}
use Rattle.ground_clauses.proofs.Remembering.{case_of, found_of, topic_of}
use Rattle.ground_clauses.specs.Instances.{instance_of}
use Rattle.ground_clauses.specs.Query.{atoms_of}
use Rattle.ground_clauses.specs.declared.instances.Instance.{Instance}
use Rattle.ground_clauses.proofs.queries.Subject.find_instances.Goals as goal

pub returns-then-branch-clause-found : goal.returns-then-branch-clause-found
returns-then-branch-clause-found c =
    let topic = topic_of c.args.spec.now c.args.case.now c.args.place _ _ _ c.target_classes.ensures c.as_slice.ensures.value (c.in_ok-count_classes.ensures c.args.place) in
    (case_of c.args.spec.now c.args.memory.now c.args.case.now c.args.place _ _ _ _ c.requires.over topic (c.recall.ensures (c.in_ok-recall.was ∙ ap (λ b. Ok b) c.if-branch.true))).0

pub returns-then-branch-clause-atoms : goal.returns-then-branch-clause-atoms
returns-then-branch-clause-atoms c =
    let topic = topic_of c.args.spec.now c.args.case.now c.args.place _ _ _ c.target_classes.ensures c.as_slice.ensures.value (c.in_ok-count_classes.ensures c.args.place) in
    (case_of c.args.spec.now c.args.memory.now c.args.case.now c.args.place _ _ _ _ c.requires.over topic (c.recall.ensures (c.in_ok-recall.was ∙ ap (λ b. Ok b) c.if-branch.true))).1

pub keep-requires : goal.keep-requires
keep-requires c =
    let topic = topic_of c.args.spec.now c.args.case.now c.args.place _ _ _ c.target_classes.ensures c.as_slice.ensures.value (c.in_ok-count_classes.ensures c.args.place) in
    record {
      right = found_of c.args.spec.now c.args.memory.now c.args.case.now c.args.place _ _ c.find_hypotheses.new.found c.as_slice-found.result.now c.list_atoms.new.once c.as_slice-3.result.now c.requires.over topic c.as_slice-found.ensures.value
          c.in_ok-find_hypotheses.ensures c.as_slice-3.ensures.value (c.in_ok-list_atoms.ensures ∙ ap (λ (xs : List Instance). atoms_of (map instance_of xs)) c.as_slice-2.ensures.value);
    }
