use Rattle.std.proofs.Common.{◌+◌, ◌++◌, drop, sym, ap, append_assoc, ◌∙◌}
use Rattle.std.specs.List.{flat_map}
use Rattle.ground_clauses.specs.Asking.{instance_clauses}
use Rattle.ground_clauses.proofs.Asking.{instances_step}
use Rattle.ground_clauses.proofs.queries.add_hypotheses.Goals as goal

pub loop-instance-preserved : goal.loop-instance-preserved
loop-instance-preserved c =
    let made = instance_clauses c.args.looking.now.asked in
    let rest = flat_map (instance_clauses c.args.looking.now.asked) (drop (c.loop-instance.instance-index + 1) c.args.instances.now) in
    ap (λ xs. xs ++ rest) c.in_ok-add_hypothesis.ensures
    ∙ append_assoc c.loop-instance.draft.cnf.clauses (made c.instance-item.result) rest
    ∙ ap (λ xs. c.loop-instance.draft.cnf.clauses ++ xs)
    (ap (λ x. made x ++ rest) c.instance-item.is
    ∙ sym (instances_step c.args.looking.now.asked c.args.instances.now c.loop-instance.instance-index c.instance-item.result c.loop-instance-test.true))
    ∙ c.loop-instance.invariant
