use Rattle.std.specs.Prelude.{◌≡◌, drop}
use Rattle.run_model.specs.Levels.{first_lacking}
use Rattle.rights_table.specs.Tables.{holding_in}
use Rattle.rights_table.proofs.table.Table.first_lacking.Given as goal

-- none of those so far
abbrev pub invariant-loop-need : goal.invariant-loop-need
invariant-loop-need l = first_lacking l.setup.replicas (holding_in l.setup l.self) (drop l.need-index l.needs) ≡ first_lacking l.setup.replicas (holding_in l.setup l.self) l.needs
