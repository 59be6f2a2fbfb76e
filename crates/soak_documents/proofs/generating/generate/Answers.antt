use Rattle.soak_documents.proofs.Formed.{generated_formed}
use Rattle.soak_documents.proofs.generating.generate.Goals as goal

pub returns-clause-formed : goal.returns-clause-formed
returns-clause-formed c = rw (c.in_ok-spec.ensures, c.new.ensures, c.in_ok-orders.ensures) (generated_formed c.args.seed)
