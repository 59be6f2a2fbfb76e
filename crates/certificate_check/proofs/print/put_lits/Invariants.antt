use Rattle.std.proofs.Common.{◌≡◌, ◌++◌, drop, take}
use Rattle.std.specs.List.{AllByRecursion, flat_map}
use Rattle.certificate_lines.specs.Texts.{IsSmall}
use Rattle.ground_clauses.specs.declared.clauses.Lit.{Lit}
use Rattle.certificate_check.specs.Printed.{lit_text}
use Rattle.certificate_check.proofs.print.put_lits.Given as goal

abbrev pub invariant-loop-lit : goal.invariant-loop-lit
invariant-loop-lit l =
    (l.out ++ flat_map lit_text (drop l.lit-index l.lits) ≡ l.fn.out ++ flat_map lit_text l.lits)
    × AllByRecursion (λ (x : Lit). IsSmall x.var) (take l.lit-index l.lits)
