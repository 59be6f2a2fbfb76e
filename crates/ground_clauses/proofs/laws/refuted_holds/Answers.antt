use Rattle.ground_clauses.proofs.Refuted.{refuted_holds}
use Rattle.ground_clauses.proofs.laws.refuted_holds.Goals as goal

pub returns : goal.returns
returns c = refuted_holds
