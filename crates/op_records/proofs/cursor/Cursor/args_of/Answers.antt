use Rattle.std.proofs.Common.{◌≡◌, [], ◌∷◌, ◌++◌, length-append, Some, rules, arith}
use Rattle.op_records.specs.Reading.{number_at, many_at}
use Rattle.op_records.proofs.Loop.{goes_on}
use Rattle.op_records.proofs.cursor.Cursor.args_of.Goals as goal

pub loop-preserved : goal.loop-preserved
loop-preserved c =
    let x = c.in_ok-half.field-0 in
    let read : (number_at 2) c.loop.self ≡ Some (x, c.half.new.self) = search rules in
    let pushed : c.push.new.self ≡ c.loop.args ++ x ∷ [] = search rules in (
      rw pushed (goes_on (number_at 2) c.loop.args c.args.count c.loop.counter c.loop.self x c.half.new.self (many_at (number_at 2) c.args.count c.args.self.now) c.loop-test.true read c.loop.invariant.0),
      rw pushed (omega (arith, length-append c.loop.args (x ∷ []), c.loop.invariant.1)),
    )
