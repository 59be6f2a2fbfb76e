use Rattle.std.proofs.Common.{◌∙◌}
use Rattle.std.specs.Prelude.{true}
use Rattle.rights_table.proofs.table.Table.accept_of.Goals as goal

pub returns-clause-accepted : goal.returns-clause-accepted
returns-clause-accepted c = λ logs me own x item from at accept there gave is. c.accept.ensures.accepted logs me own (λ r. true) x item from at c.in-Out.to accept there (gave ∙ c.in-Out.is) is
