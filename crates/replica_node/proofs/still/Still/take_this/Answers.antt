use Rattle.std.proofs.Common.{refl}
use Rattle.replica_node.proofs.Taking.{took_this}
use Rattle.replica_node.proofs.still.Still.take_this.Goals as goal

pub returns-clause-own : goal.returns-clause-own
returns-clause-own g c =
    took_this g.S.Storage.keeps c.args.setup.now c.args.self.now (record c.args.self.now { course = c.step_with.new.course; storage = c.step_with.new.storage }) c.args.message c.in_ok-entry.field-0
    c.in_ok-entry.ensures.own c.in_ok-entry.ensures.kept c.in_ok-entry.ensures.adds c.in_ok-entry.ensures.steps refl
