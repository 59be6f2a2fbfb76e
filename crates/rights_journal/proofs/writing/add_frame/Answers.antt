use Rattle.std.proofs.Common.{◌+◌, length, max, arith, sym, subst}
use Rattle.std.specs.Prelude.{Bool, IsTrue}
use Rattle.rights_journal.proofs.Places.{first_leaves, both_leave}
use Rattle.rights_journal.proofs.writing.add_frame.Goals as goal

pub returns-in_err-put-clause-any_moment : goal.returns-in_err-put-clause-any_moment
returns-in_err-put-clause-any_moment g c = λ tells front rest closed at_gate is.
    let old = g.D.Disk.standing c.args.disk.now in
    first_leaves g.D.Disk.moment g.D.Disk.left_since front rest c.args.frame.now closed c.args.gate (max old.size (c.args.gate + 1 + length c.args.frame.now)) at_gate
    c.args.disk.now c.put.new.disk old.bytes is (omega (arith, g.met.D.Disk.sized c.args.disk.now tells)) (c.put.ensures.any_moment c.requires.settled)

pub returns-in_err-put-2-clause-any_moment : goal.returns-in_err-put-2-clause-any_moment
returns-in_err-put-2-clause-any_moment g c = λ tells front rest closed at_gate is.
    let old = g.D.Disk.standing c.args.disk.now in
    let mid = g.D.Disk.standing c.put.new.disk in
    let mid_tells = subst (λ (b : Bool). IsTrue b) (sym c.put.ensures.run.tells) tells in
    both_leave g.D.Disk.moment g.D.Disk.left_since front rest c.args.frame.now closed c.args.gate (max old.size (c.args.gate + 1 + length c.args.frame.now)) at_gate
    c.args.disk.now c.put.new.disk c.put-2.new.disk old.bytes mid.bytes is (omega (arith, g.met.D.Disk.sized c.args.disk.now tells)) (c.in_ok-put.ensures.written tells)
    (omega (arith, g.met.D.Disk.sized c.put.new.disk mid_tells, c.in_ok-put.ensures.size)) (c.put.ensures.any_moment c.requires.settled) (c.put-2.ensures.any_moment c.in_ok-put.ensures.durable)

pub returns-clause-any_moment : goal.returns-clause-any_moment
returns-clause-any_moment g c = λ tells front rest closed at_gate is.
    let old = g.D.Disk.standing c.args.disk.now in
    let mid = g.D.Disk.standing c.put.new.disk in
    let mid_tells = subst (λ (b : Bool). IsTrue b) (sym c.put.ensures.run.tells) tells in
    both_leave g.D.Disk.moment g.D.Disk.left_since front rest c.args.frame.now closed c.args.gate (max old.size (c.args.gate + 1 + length c.args.frame.now)) at_gate
    c.args.disk.now c.put.new.disk c.put-2.new.disk old.bytes mid.bytes is (omega (arith, g.met.D.Disk.sized c.args.disk.now tells)) (c.in_ok-put.ensures.written tells)
    (omega (arith, g.met.D.Disk.sized c.put.new.disk mid_tells, c.in_ok-put.ensures.size)) (c.put.ensures.any_moment c.requires.settled) (c.put-2.ensures.any_moment c.in_ok-put.ensures.durable)
