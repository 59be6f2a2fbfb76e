use Rattle.std.proofs.Common.{◌≡◌, [], ◌∷◌, ◌++◌, length-append, Some, rules, arith}
use Rattle.op_records.specs.Reading.{span_at, many_at}
use Rattle.op_records.proofs.Loop.{goes_on}
use Rattle.op_records.proofs.cursor.Cursor.spans_of.Goals as goal

pub loop-preserved : goal.loop-preserved
loop-preserved c =
    let x = c.in_ok-span.field-0 in
    let read : (span_at) c.loop.self ≡ Some (x, c.span.new.self) = search rules in
    let pushed : c.push.new.self ≡ c.loop.spans ++ x ∷ [] = search rules in (
      rw pushed (goes_on (span_at) c.loop.spans c.args.count c.loop.counter c.loop.self x c.span.new.self (many_at (span_at) c.args.count c.args.self.now) c.loop-test.true read c.loop.invariant.0),
      rw pushed (omega (arith, length-append c.loop.spans (x ∷ []), c.loop.invariant.1)),
    )
