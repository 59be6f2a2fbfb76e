use Rattle.std.proofs.Common.{inl, ◌+◌, ℕ, length, max, sym, ◌∙◌, subst, arith}
use Rattle.std.specs.Prelude.{Bool, IsTrue}
use Rattle.ind_disk.specs.Disk.{LeavesOnly}
use Rattle.rights_journal.specs.Image.{IsBetween}
use Rattle.rights_journal.proofs.Moments.{joined, one_call}
use Rattle.rights_journal.proofs.Fresh.{on_ok}
use Rattle.rights_journal.proofs.journal.store.Goals as goal

pub returns-then-is_err-clause-any_moment : goal.returns-then-is_err-clause-any_moment
returns-then-is_err-clause-any_moment g c = λ tells front rest closed at_gate is.
    let old = g.D.Disk.standing c.args.disk.now in
    let longest = max old.size (c.args.gate + 1 + length c.args.frame.now) in
    one_call g.D.Disk.moment g.D.Disk.left_since c.args.disk.now c.ready.new.self old.bytes (g.D.Disk.may_leave c.args.disk.now) (g.D.Disk.may_leave c.ready.new.self) (IsBetween front closed c.args.frame.now longest)
    (λ b left. g.met.D.Disk.only_now c.args.disk.now b left) c.requires.settled c.ready.ensures.crash c.ready.ensures.time
    (record { size = omega (arith, g.met.D.Disk.sized c.args.disk.now tells); gate = inl (rest, is) })

pub returns-clause-any_moment : goal.returns-clause-any_moment
returns-clause-any_moment g c = λ tells front rest closed at_gate is.
    let old = g.D.Disk.standing c.args.disk.now in
    let mid = g.D.Disk.standing c.ready.new.self in
    let longest = max old.size (c.args.gate + 1 + length c.args.frame.now) in
    let mid_tells = subst (λ (b : Bool). IsTrue b) (sym c.ready.ensures.same.tells) tells in
    joined g.D.Disk.moment g.D.Disk.left_since c.args.disk.now c.ready.new.self c.add_frame.new.disk (IsBetween front closed c.args.frame.now longest)
    (one_call g.D.Disk.moment g.D.Disk.left_since c.args.disk.now c.ready.new.self old.bytes (g.D.Disk.may_leave c.args.disk.now) (g.D.Disk.may_leave c.ready.new.self) (IsBetween front closed c.args.frame.now longest)
    (λ b left. g.met.D.Disk.only_now c.args.disk.now b left) c.requires.settled c.ready.ensures.crash c.ready.ensures.time
    (record { size = omega (arith, g.met.D.Disk.sized c.args.disk.now tells); gate = inl (rest, is) }))
    (subst (λ (n : ℕ). LeavesOnly g.D.Disk.moment g.D.Disk.left_since c.ready.new.self c.add_frame.new.disk (IsBetween front closed c.args.frame.now (max n (c.args.gate + 1 + length c.args.frame.now)))) c.ready.ensures.same.size
    (c.add_frame.ensures.any_moment mid_tells front rest closed at_gate (c.ready.ensures.same.bytes ∙ is)))

pub returns-clause-written : goal.returns-clause-written
returns-clause-written g c =
    on_ok c.add_frame.result (λ written tells front rest closed at_gate is.
    written (subst (λ (b : Bool). IsTrue b) (sym c.ready.ensures.same.tells) tells) front rest closed at_gate (c.ready.ensures.same.bytes ∙ is)) c.add_frame.ensures.written

pub returns-clause-size : goal.returns-clause-size
returns-clause-size g c = on_ok c.add_frame.result (λ size. omega (arith, size, c.ready.ensures.same.size)) c.add_frame.ensures.size
