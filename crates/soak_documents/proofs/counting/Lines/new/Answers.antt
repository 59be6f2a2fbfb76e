use Rattle.soak_documents.proofs.Counts.{none_counted}
use Rattle.soak_documents.proofs.counting.Lines.new.Goals as goal

pub returns-clause-counted : goal.returns-clause-counted
returns-clause-counted c = rw (c.new.ensures, c.no_sends.ensures) none_counted
