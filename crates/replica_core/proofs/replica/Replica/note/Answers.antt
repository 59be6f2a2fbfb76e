use Rattle.std.proofs.Common.{sym}
use Rattle.replica_core.proofs.Needed.{answered_short}
use Rattle.replica_core.proofs.replica.Replica.note.Goals as goal

pub returns : goal.returns
returns c = λ setup inst own decides. answered_short setup inst c.args.self.now c.want.new.self c.args.lacking.now own decides.1 decides.2 (sym decides.0) c.want.ensures
