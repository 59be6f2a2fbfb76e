use Rattle.ground_clauses.proofs.Shapes.{next_rises}
use Rattle.ground_clauses.proofs.listing.with_class.Goals as goal

pub returns-clause-rises : goal.returns-clause-rises
returns-clause-rises c = next_rises c.args.front.now c.push.new.self c.args.class c.push.ensures c.requires.rises c.requires.next
