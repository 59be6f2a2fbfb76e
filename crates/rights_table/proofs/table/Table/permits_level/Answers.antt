use Rattle.std.proofs.Common.{◌∙◌}
use Rattle.rights_table.proofs.ActedOn.{level_permitted}
use Rattle.rights_table.proofs.table.Table.permits_level.Goals as goal

pub returns : goal.returns
returns c = c.is_permitted.ensures ∙ level_permitted c.args.setup.now c.args.self.now c.args.right.now c.args.level c.requires.shared
