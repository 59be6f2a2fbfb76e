use Rattle.rights_table.proofs.Learned.{table_learns}
use Rattle.rights_table.proofs.laws.tables_learn.Goals as goal

pub returns : goal.returns
returns c = table_learns
