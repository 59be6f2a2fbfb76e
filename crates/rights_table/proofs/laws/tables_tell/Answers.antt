use Rattle.rights_table.proofs.Lacking.{table_tells_all}
use Rattle.rights_table.proofs.laws.tables_tell.Goals as goal

pub returns : goal.returns
returns c = table_tells_all
