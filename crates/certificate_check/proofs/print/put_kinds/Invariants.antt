use Rattle.std.proofs.Common.{◌≡◌, ◌++◌, drop}
use Rattle.certificate_check.specs.Printed.{kinds_text}
use Rattle.certificate_check.proofs.print.put_kinds.Given as goal

abbrev pub invariant-loop-place : goal.invariant-loop-place
invariant-loop-place l = l.out ++ kinds_text l.spec l.word l.place (drop l.place l.kinds) ≡ l.fn.out ++ kinds_text l.spec l.word 0 l.kinds
