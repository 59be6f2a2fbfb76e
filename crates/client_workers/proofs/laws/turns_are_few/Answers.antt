use Rattle.client_workers.proofs.Sizes.{turns_fit}
use Rattle.client_workers.proofs.laws.turns_are_few.Goals as goal

pub returns : goal.returns
returns c = turns_fit
