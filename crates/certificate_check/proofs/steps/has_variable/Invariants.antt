use Rattle.std.proofs.Common.{◌≡◌, false, eqb, take}
use Rattle.std.specs.List.{list_any}
use Rattle.certificate_check.proofs.steps.has_variable.Given as goal

abbrev pub invariant-loop-lit : goal.invariant-loop-lit
invariant-loop-lit l = list_any (λ y. eqb l.var y.var) (take l.lit-index l.lits) ≡ false
