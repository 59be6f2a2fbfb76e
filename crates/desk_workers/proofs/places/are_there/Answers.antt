use Rattle.std.proofs.Common.{rules}
use Rattle.desk_workers.proofs.Serving.{there_more, there_whole}
use Rattle.desk_workers.proofs.places.are_there.Goals as goal

pub loop-done-preserved : goal.loop-done-preserved
loop-done-preserved g c = there_more c.args.back.now c.loop-done.done-index c.done-item.result c.in-Some.field-0 (search rules) c.done-item.is c.in-Some.is c.loop-done.invariant

pub returns : goal.returns
returns g c = λ _. there_whole c.args.back.now c.loop-done.done-index (search rules) c.loop-done.invariant
