use Rattle.std.proofs.Common.{◌≡◌, [], ◌∷◌, ◌++◌, Some, None, rules}
use Rattle.op_records.specs.Reading.{item_at, many_at}
use Rattle.op_records.proofs.Loop.{goes_on, ends}
use Rattle.op_records.proofs.reading.items_of.Goals as goal

pub returns-in_default : goal.returns-in_default
returns-in_default c =
    let read : item_at c.args.replicas c.loop.cursor ≡ None = search rules in
    ends (item_at c.args.replicas) c.loop.items.items c.args.count c.loop.counter c.loop.cursor (many_at (item_at c.args.replicas) c.args.count c.args.cursor.now) c.loop-test.true read c.loop.invariant

pub loop-preserved : goal.loop-preserved
loop-preserved c =
    let x = c.in-Some.item in
    let read : item_at c.args.replicas c.loop.cursor ≡ Some (x, c.item.new.self) = search rules in
    let pushed : c.push.new.self.items ≡ c.loop.items.items ++ x ∷ [] = search rules in
    rw pushed (goes_on (item_at c.args.replicas) c.loop.items.items c.args.count c.loop.counter c.loop.cursor x c.item.new.self (many_at (item_at c.args.replicas) c.args.count c.args.cursor.now) c.loop-test.true read c.loop.invariant)
