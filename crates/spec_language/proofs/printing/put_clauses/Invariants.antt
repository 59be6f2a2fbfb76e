use Rattle.std.proofs.Common.{◌≡◌, ◌++◌, drop, map}
use Rattle.std.specs.List.{flat_map}
use Rattle.spec_language.specs.Saying as sayings
use Rattle.spec_language.proofs.printing.put_clauses.Given as goal

abbrev pub invariant-loop-x : goal.invariant-loop-x
invariant-loop-x l = l.out ++ flat_map sayings.ended_text (map (sayings.say_clause l.sorts l.preds) (drop l.x-index l.clauses)) ≡ l.fn.out ++ flat_map sayings.ended_text (map (sayings.say_clause l.sorts l.preds) l.clauses)
