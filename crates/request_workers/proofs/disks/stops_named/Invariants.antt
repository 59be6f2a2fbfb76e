use Rattle.std.proofs.Common.{◌≡◌, ◌++◌, drop}
use Rattle.request_workers.specs.Histories.{stops_of}
use Rattle.request_workers.proofs.disks.stops_named.Given as goal

abbrev pub invariant-loop-line : goal.invariant-loop-line
invariant-loop-line l = l.stops ++ stops_of l.replica (drop l.line-index l.lines) ≡ stops_of l.replica l.lines
