use Rattle.std.proofs.Common.{sym, subst}
use Rattle.std.specs.List.{AllByRecursion}
use Rattle.ground_clauses.specs.Topics.{IsRight}
use Rattle.ground_clauses.proofs.Remembering.{one_more_empty}
use Rattle.ground_clauses.proofs.memory.make_places.Goals as goal

pub returns-in_err-push : goal.returns-in_err-push
returns-in_err-push c = λ spec right. subst (AllByRecursion (IsRight spec)) (sym c.in_err-push.ensures.err) (c.loop.invariant spec right)

pub loop-preserved : goal.loop-preserved
loop-preserved c = λ spec right. one_more_empty spec c.loop.items c.push.new.self c.nothing-empty.result (c.loop.invariant spec right) c.in_ok-push.ensures.ok c.nothing-empty.ensures
