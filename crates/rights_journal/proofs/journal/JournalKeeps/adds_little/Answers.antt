use Rattle.std.proofs.Common.{refl, sym}
use Rattle.rights_journal.specs.Appending.{framed}
use Rattle.rights_journal.proofs.Stored.{adds_little}
use Rattle.rights_journal.proofs.journal.JournalKeeps.adds_little.Goals as goal

pub returns : goal.returns
returns g c = λ j batches batch kept tells fin within is.
    let s = g.D.Disk.standing j.disk in
    let found = kept.finished tells in
    adds_little j.replicas batch is j.gate (framed j.replicas batch) s.bytes refl batches found.0 fin found.1 s.size (sym (g.met.D.Disk.sized j.disk tells)) within
