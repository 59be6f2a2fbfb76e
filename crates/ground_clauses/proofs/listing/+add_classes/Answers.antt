use Rattle.ground_clauses.proofs.Shapes.{touched_more}
use Rattle.ground_clauses.proofs.listing.+add_classes.Goals as goal

pub loop-class-preserved : goal.loop-class-preserved
loop-class-preserved t c =
    touched_more c.args.shape.now c.args.front c.loop-class.class c.args.found.now c.loop-class.found c.add_classes.new.found c.with_class.result
    c.with_class.ensures.value c.loop-class.invariant c.in_ok-add_classes.ensures
