use Rattle.std.proofs.Common.{◌≡◌, ◌++◌}
use Rattle.request_workers.specs.Taking.{AreFinished}
use Rattle.request_workers.proofs.closing.finish_all.Given as goal

abbrev pub invariant-loop-still : goal.invariant-loop-still
invariant-loop-still g l = (l.yielded ++ l.still-iterator.rest.items ≡ l.fn.stills.items) × AreFinished g.S.D.Disk.standing g.S.Storage.shows g.S.Storage.comes_back l.fn.setup l.yielded l.histories l.disks.items
