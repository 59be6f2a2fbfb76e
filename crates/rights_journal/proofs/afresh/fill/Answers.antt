use Rattle.std.proofs.Common.{arith}
use Rattle.ind_disk.specs.Disk.{Torn}
use Rattle.rights_journal.specs.Afresh.{IsFresh}
use Rattle.rights_journal.proofs.Moments.{weaker}
use Rattle.rights_journal.proofs.Fresh.{torn_fill, written_fill, on_ok}
use Rattle.rights_journal.proofs.afresh.fill.Goals as goal

pub returns-clause-filled : goal.returns-clause-filled
returns-clause-filled g c =
    on_ok c.put.result (λ written tells. written_fill (g.D.Disk.standing c.args.disk.now).bytes (g.D.Disk.standing c.put.new.disk).bytes (c.requires.shut tells) (written tells)) c.put.ensures.written

pub returns-clause-size : goal.returns-clause-size
returns-clause-size g c = on_ok c.put.result (λ size. omega (arith, size)) c.put.ensures.size

pub returns-clause-durable : goal.returns-clause-durable
returns-clause-durable g c = c.put.ensures.durable

pub returns-clause-run : goal.returns-clause-run
returns-clause-run g c = c.put.ensures.run

pub returns-clause-any_moment : goal.returns-clause-any_moment
returns-clause-any_moment g c = λ tells.
    weaker g.D.Disk.moment g.D.Disk.left_since c.args.disk.now c.put.new.disk (Torn 1 9 (g.D.Disk.standing c.args.disk.now).bytes) IsFresh
    (λ bytes torn. torn_fill (g.D.Disk.standing c.args.disk.now).bytes bytes (c.requires.shut tells) torn) (c.put.ensures.any_moment c.requires.settled)

pub returns-clause-memory : goal.returns-clause-memory
returns-clause-memory g c = λ wants room. (c.put.ensures.unchanged wants room).0
