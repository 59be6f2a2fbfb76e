use Rattle.reservation_plan.proofs.Enumerated.{few_touched}
use Rattle.reservation_plan.proofs.laws.touched_are_counted.Goals as goal

pub returns : goal.returns
returns c = few_touched
