-- The cases of a pair, one turn for each.
use Rattle.std.specs.Prelude.{ℕ, Some, None, Option}
use Rattle.conflict_pairs.specs.declared.decided.Decided.{Decided}
use Rattle.conflict_pairs.specs.declared.decided.Decided.TheVariants.{Model, Opposes as opposing, Refuted}
use Rattle.conflict_pairs.specs.declared.pair_kind.Turn.{Turn}
use Rattle.conflict_pairs.specs.declared.pair_kind.Turn.TheVariants.{Ends, Goes}
use Rattle.ground_clauses.specs.declared.case.Target.{Target}
use Rattle.ground_clauses.specs.declared.case.Target.TheVariants.{Clause as of_clause, Locked as of_pred}

-- the first predicate that opposes, once the case of this target is passed, which does
abbrev pub opposing_after : Option ℕ → Target → Option ℕ
opposing_after None (of_pred p) = Some p
opposing_after None (of_clause t) = None
opposing_after (Some p) t = Some p

-- what a case with this target says of its pair: it ends with a model, or the next case is looked at
abbrev pub turn_of : Option ℕ → Target → Decided → Turn
turn_of found t (Model m) = Ends m
turn_of found t (Refuted d) = Goes found
turn_of found t opposing = Goes (opposing_after found t)
