use Rattle.std.proofs.Common.{◌≡◌, ◌++◌, length}
use Rattle.request_workers.specs.Taking.{HasTaken}
use Rattle.request_workers.proofs.closing.take_left.Given as goal

abbrev pub invariant-loop-left : goal.invariant-loop-left
invariant-loop-left g l = (l.yielded ++ l.left-iterator.rest.items ≡ l.fn.lists) × (l.from ≡ length l.yielded) × HasTaken g.S.Storage.keeps g.S.Storage.shows l.fn.setup l.fn.me l.from l.fn.lists l.fn.still l.still
