use Rattle.ground_clauses.proofs.Once.{instance_added}
use Rattle.ground_clauses.proofs.instances.add_instance_atoms.Goals as goal

pub returns : goal.returns
returns c =
    instance_added c.args.instance.now c.args.once.now c.add_new_atoms.new.once c.add_new_atoms-2.new.once c.as_slice-classes.result.now c.as_slice.result.now c.as_slice-2.result.now
    c.as_slice-classes.ensures.value c.as_slice.ensures.value c.as_slice-2.ensures.value c.in_ok-add_new_atoms.ensures c.in_ok-add_new_atoms-2.ensures
