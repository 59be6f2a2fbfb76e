use Rattle.std.proofs.Common.{◌∙◌, ap, sym, List, ℕ, Some}
use Rattle.effect_model.proofs.Declarations.{tuple}
use Rattle.effect_model.proofs.Sought.{found_here, found_behind}
use Rattle.effect_model.proofs.layout.tuple_at_place.Goals as goal

pub returns-then-left-count : goal.returns-then-left-count
returns-then-left-count g c =
    let few = rw (c.count_tuples-count.ensures, c.sorts.ensures) at c.if-left-count.true in
    found_here c.args.spec.now g.D.Declared.sorts_of c.args.declared.now c.args.place c.loop-at.at c.loop-at.left c.index-declared-at.result c.loop-at-test.true c.index-declared-at.is c.loop-at.invariant few
    ∙ ap (λ (xs : List ℕ). Some (tuple c.loop-at.at xs)) (sym (rw c.sorts-then-left-count.ensures at c.tuple_in.ensures))

pub loop-at-preserved : goal.loop-at-preserved
loop-at-preserved g c =
    let count_is = rw c.sorts.ensures at c.count_tuples-count.ensures in
    rw count_is (found_behind c.args.spec.now g.D.Declared.sorts_of c.args.declared.now c.args.place c.loop-at.at c.loop-at.left c.index-declared-at.result c.loop-at-test.true c.index-declared-at.is c.loop-at.invariant (rw count_is at c.if-left-count.false))
