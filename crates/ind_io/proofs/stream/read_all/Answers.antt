use Rattle.std.proofs.Common.{◌≡◌, ◌≤◌, ◌<◌, ◌+◌, length, take, ◌++◌, arith, length-append, length-take, length-take-le}
use Rattle.ind_io.proofs.Flow.{Consumes-then}
use Rattle.ind_io.proofs.stream.read_all.Goals as goal

pub returns-then-is_err-clause-turns : goal.returns-then-is_err-clause-turns
returns-then-is_err-clause-turns g c =
    let h = c.loop-piece.invariant in
    let all = c.loop-piece.all in
    let n = c.in-Ok.count in
    let some : 0 < n = omega (arith, c.if-count-eq0.false) in
    let len : length (take n c.read.new.to) ≡ n = length-take-le n c.read.new.to c.in-Ok.ensures.bound.0 in
    let fits : length all + n ≤ c.args.limit + 1 = grind (arith, c.loop-piece-test.true, c.len.ensures.value, c.min-room.ensures, c.read.auto.to, c.in-Ok.ensures.bound, length-take) in
    let both : length (all ++ take n c.read.new.to) ≡ length all + n = omega (arith, len, length-append all (take n c.read.new.to)) in
    record {
      taken = all ++ take n c.read.new.to;
      consumed = Consumes-then _ _ _ all (take n c.read.new.to) h.0 c.in-Ok.ensures.bytes.0;
      within = omega (arith, both, fits);
      turns = omega (arith, both, c.in-Ok.ensures.call, h.4);
      in_all = omega (arith, some, fits, c.in-Ok.ensures.call, h.4);
    }
