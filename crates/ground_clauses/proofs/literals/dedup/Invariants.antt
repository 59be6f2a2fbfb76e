use Rattle.std.proofs.Common.{◌≡◌, ◌++◌, drop}
use Rattle.ground_clauses.specs.Query.{dedup, dedup_after}
use Rattle.ground_clauses.specs.Rows.{same_known}
use Rattle.ground_clauses.proofs.literals.dedup.Given as goal

abbrev pub invariant-loop-lit : goal.invariant-loop-lit
invariant-loop-lit l = l.once ++ dedup_after same_known l.once (drop l.lit-index l.lits) ≡ dedup same_known l.lits
