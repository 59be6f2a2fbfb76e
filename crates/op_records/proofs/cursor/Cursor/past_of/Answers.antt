use Rattle.std.proofs.Common.{◌≡◌, [], ◌∷◌, ◌++◌, length-append, Some, rules, arith}
use Rattle.op_records.specs.Reading.{number_at, many_at}
use Rattle.op_records.proofs.Loop.{goes_on}
use Rattle.op_records.proofs.cursor.Cursor.past_of.Goals as goal

pub loop-preserved : goal.loop-preserved
loop-preserved c =
    let x = c.in_ok-word.field-0 in
    let read : (number_at 4) c.loop.self ≡ Some (x, c.word.new.self) = search rules in
    let pushed : c.push.new.self ≡ c.loop.deps ++ x ∷ [] = search rules in (
      rw pushed (goes_on (number_at 4) c.loop.deps c.args.replicas c.loop.counter c.loop.self x c.word.new.self (many_at (number_at 4) c.args.replicas c.args.self.now) c.loop-test.true read c.loop.invariant.0),
      rw pushed (omega (arith, length-append c.loop.deps (x ∷ []), c.loop.invariant.1)),
    )
