use Rattle.rights_journal.proofs.Once.{is_one_thing}
use Rattle.rights_journal.proofs.law.one_thing.Goals as goal

pub returns : goal.returns
returns c = λ replicas bytes. is_one_thing replicas bytes
