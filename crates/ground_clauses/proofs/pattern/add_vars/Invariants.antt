use Rattle.std.proofs.Common.{◌≡◌, ◌+◌, ◌++◌, length, drop}
use Rattle.ground_clauses.specs.Cases.{sorts_of}
use Rattle.ground_clauses.proofs.pattern.add_vars.Given as goal

abbrev pub invariant-loop-var : goal.invariant-loop-var
invariant-loop-var l = record {
  value : l.sorts ++ sorts_of (drop l.var-index l.vars) ≡ l.fn.sorts ++ sorts_of l.vars;
  room : length l.sorts ≡ length l.fn.sorts + l.var-index;
}
