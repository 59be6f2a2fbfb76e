use Rattle.std.proofs.Common.{◌≡◌, ◌++◌, length}
use Rattle.request_workers.specs.Taking.{HaveTaken}
use Rattle.request_workers.proofs.closing.take_all.Given as goal

abbrev pub invariant-loop-lists : goal.invariant-loop-lists
invariant-loop-lists g l = (l.yielded ++ l.lists-iterator.rest.items ≡ l.fn.left) × (l.me ≡ length l.yielded) × HaveTaken g.S.Storage.keeps g.S.Storage.shows l.fn.setup l.me l.fn.left l.fn.stills.items l.stills.items
