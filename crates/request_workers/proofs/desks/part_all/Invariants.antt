use Rattle.std.proofs.Common.{◌≡◌, ◌++◌}
use Rattle.request_workers.specs.Opening.{AreParted}
use Rattle.request_workers.proofs.desks.part_all.Given as goal

abbrev pub invariant-loop-one : goal.invariant-loop-one
invariant-loop-one g l = (l.yielded ++ l.one-iterator.rest.items ≡ l.fn.served) × AreParted g.S.Storage.keeps g.S.Storage.shows l.yielded l.stills.items l.passes
