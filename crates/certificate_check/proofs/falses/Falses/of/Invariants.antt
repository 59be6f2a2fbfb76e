use Rattle.std.proofs.Common.{◌≡◌, take}
use Rattle.certificate_check.proofs.falses.Falses.of.Given as goal

abbrev pub invariant-loop-lit : goal.invariant-loop-lit
invariant-loop-lit l = l.falses ≡ take l.lit-index l.lits
