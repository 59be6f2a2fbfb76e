use Rattle.std.proofs.Common.{sym, subst}
use Rattle.std.specs.Prelude.{Bool, IsTrue}
use Rattle.rights_journal.specs.Afresh.{IsFresh}
use Rattle.rights_journal.proofs.Moments.{joined}
use Rattle.rights_journal.proofs.afresh.make_afresh.Goals as goal

pub returns-in_err-shut-clause-any_moment : goal.returns-in_err-shut-clause-any_moment
returns-in_err-shut-clause-any_moment g c = c.shut.ensures.any_moment

pub returns-in_err-fill-clause-any_moment : goal.returns-in_err-fill-clause-any_moment
returns-in_err-fill-clause-any_moment g c = λ tells.
    let mid_tells = subst (λ (b : Bool). IsTrue b) (sym c.shut.ensures.run.tells) tells in
    joined g.D.Disk.moment g.D.Disk.left_since c.args.disk.now c.shut.new.disk c.fill.new.disk IsFresh (c.shut.ensures.any_moment tells) (c.fill.ensures.any_moment mid_tells)

pub returns-in_err-open_header-clause-any_moment : goal.returns-in_err-open_header-clause-any_moment
returns-in_err-open_header-clause-any_moment g c = λ tells.
    let mid_tells = subst (λ (b : Bool). IsTrue b) (sym c.shut.ensures.run.tells) tells in
    let end_tells = subst (λ (b : Bool). IsTrue b) (sym c.fill.ensures.run.tells) mid_tells in
    joined g.D.Disk.moment g.D.Disk.left_since c.args.disk.now c.fill.new.disk c.open_header.new.disk IsFresh
    (joined g.D.Disk.moment g.D.Disk.left_since c.args.disk.now c.shut.new.disk c.fill.new.disk IsFresh (c.shut.ensures.any_moment tells) (c.fill.ensures.any_moment mid_tells))
    (c.open_header.ensures.any_moment end_tells)

pub returns-clause-any_moment : goal.returns-clause-any_moment
returns-clause-any_moment g c = λ tells.
    let mid_tells = subst (λ (b : Bool). IsTrue b) (sym c.shut.ensures.run.tells) tells in
    let end_tells = subst (λ (b : Bool). IsTrue b) (sym c.fill.ensures.run.tells) mid_tells in
    joined g.D.Disk.moment g.D.Disk.left_since c.args.disk.now c.fill.new.disk c.open_header.new.disk IsFresh
    (joined g.D.Disk.moment g.D.Disk.left_since c.args.disk.now c.shut.new.disk c.fill.new.disk IsFresh (c.shut.ensures.any_moment tells) (c.fill.ensures.any_moment mid_tells))
    (c.open_header.ensures.any_moment end_tells)
