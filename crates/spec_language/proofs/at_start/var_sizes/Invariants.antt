use Rattle.std.proofs.Common.{◌≡◌, ◌++◌, drop, map, length}
use Rattle.spec_language.specs.AtStart.{size_at}
use Rattle.spec_language.proofs.at_start.var_sizes.Given as goal

abbrev pub invariant-loop-x : goal.invariant-loop-x
invariant-loop-x l = (l.sizes ++ map (size_at l.sorts) (map (λ v. v.sort) (drop l.x-index l.vars)) ≡ map (size_at l.sorts) (map (λ v. v.sort) l.vars)) × (length l.sizes ≡ l.x-index)
