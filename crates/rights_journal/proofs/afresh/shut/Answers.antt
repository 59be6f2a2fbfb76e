use Rattle.std.proofs.Common.{◌≡◌, true, false, sym, ◌∙◌, subst, arith, rules}
use Rattle.ind_disk.specs.Disk.{Torn}
use Rattle.rights_journal.specs.Image.{IsUnfinished}
use Rattle.rights_journal.specs.Afresh.{IsFresh}
use Rattle.rights_journal.proofs.Moments.{weaker, stays}
use Rattle.rights_journal.proofs.Fresh.{unfinished_fresh, left_out, torn_shut, written_shut, on_ok}
use Rattle.rights_journal.proofs.afresh.shut.Goals as goal

pub returns-then-is_shut-clause-shut : goal.returns-then-is_shut-clause-shut
returns-then-is_shut-clause-shut g c = λ tells.
    let yes : c.is_shut.result ≡ true = search rules in
    left_out (g.D.Disk.standing c.args.disk.now).bytes c.args.bytes.now (c.requires.same tells) c.requires.unfinished (c.is_shut.ensures.yes yes)

pub returns-then-is_shut-clause-any_moment : goal.returns-then-is_shut-clause-any_moment
returns-then-is_shut-clause-any_moment g c = λ tells.
    stays g.D.Disk.moment g.D.Disk.left_since c.args.disk.now (g.D.Disk.standing c.args.disk.now).bytes (g.D.Disk.may_leave c.args.disk.now) IsFresh (λ b left. g.met.D.Disk.only_now c.args.disk.now b left)
    c.requires.settled (unfinished_fresh (g.D.Disk.standing c.args.disk.now).bytes (subst IsUnfinished (sym (c.requires.same tells)) c.requires.unfinished))

pub returns-clause-shut : goal.returns-clause-shut
returns-clause-shut g c =
    on_ok c.put.result (λ written tells. written_shut (g.D.Disk.standing c.args.disk.now).bytes (g.D.Disk.standing c.put.new.disk).bytes (subst IsUnfinished (sym (c.requires.same tells)) c.requires.unfinished) (written tells)) c.put.ensures.written

pub returns-clause-size : goal.returns-clause-size
returns-clause-size g c = on_ok c.put.result (λ size. omega (arith, size)) c.put.ensures.size

pub returns-clause-durable : goal.returns-clause-durable
returns-clause-durable g c = c.put.ensures.durable

pub returns-clause-run : goal.returns-clause-run
returns-clause-run g c = c.put.ensures.run

pub returns-clause-any_moment : goal.returns-clause-any_moment
returns-clause-any_moment g c = λ tells.
    let no : c.is_shut.result ≡ false = search rules in
    let old = (g.D.Disk.standing c.args.disk.now).bytes in
    weaker g.D.Disk.moment g.D.Disk.left_since c.args.disk.now c.put.new.disk (Torn 0 1 old) IsFresh
    (λ bytes torn. torn_shut old bytes (subst IsUnfinished (sym (c.requires.same tells)) c.requires.unfinished) (λ rest is. c.is_shut.ensures.no no rest (sym (c.requires.same tells) ∙ is)) torn)
    (c.put.ensures.any_moment c.requires.settled)

pub returns-clause-memory : goal.returns-clause-memory
returns-clause-memory g c = λ wants room. (c.put.ensures.unchanged wants room).0
