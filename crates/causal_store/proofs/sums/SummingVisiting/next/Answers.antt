use Rattle.causal_store.proofs.TouchedCells.{unchanged_behind}
use Rattle.causal_store.proofs.sums.SummingVisiting.next.Goals as goal

pub returns-clause-untouched : goal.returns-clause-untouched
returns-clause-untouched c = λ x le lt behind kept.
    unchanged_behind c.args.self.now.spec.now c.args.self.now.inst.now c.args.self.now.num c.args.front.now x c.lines_of.result.now behind kept c.lines_of.ensures (c.next_changed.ensures.untouched x le lt)
