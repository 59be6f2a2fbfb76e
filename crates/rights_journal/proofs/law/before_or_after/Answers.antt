use Rattle.rights_journal.proofs.Added.{between}
use Rattle.rights_journal.proofs.law.before_or_after.Goals as goal

pub returns : goal.returns
returns c = λ replicas closed longest batches batch bytes each here shut b. between replicas batches batch each here closed longest bytes shut b
