use Rattle.std.proofs.Common.{refl}
use Rattle.rights_journal.specs.Appending.{framed}
use Rattle.rights_journal.proofs.Stored.{stored_read}
use Rattle.rights_journal.proofs.law.one_more.Goals as goal

pub returns : goal.returns
returns c = λ replicas gate batches batch bytes new here read run.
    stored_read replicas batch here gate (framed replicas batch) bytes refl new batches read run
