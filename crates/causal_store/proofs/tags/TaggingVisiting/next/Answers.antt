use Rattle.causal_store.proofs.TouchedAtoms.{unset_behind}
use Rattle.causal_store.proofs.tags.TaggingVisiting.next.Goals as goal

pub returns-clause-untouched : goal.returns-clause-untouched
returns-clause-untouched c = λ x le lt behind kept.
    unset_behind c.args.self.now.spec.now c.args.self.now.inst.now c.args.self.now.item.now c.args.self.now.pred c.args.front.now x c.lines_of.result.now behind kept c.lines_of.ensures (c.next_set.ensures.untouched x le lt)
