use Rattle.std.proofs.Common.{◌≡◌, ◌+◌, drop}
use Rattle.certificate_check.specs.Fitting.{op_named}
use Rattle.certificate_check.proofs.fitting.op_named.Given as goal

abbrev pub invariant-loop-at : goal.invariant-loop-at
invariant-loop-at l = l.at + op_named (drop l.at l.ops) l.name ≡ op_named l.ops l.name
