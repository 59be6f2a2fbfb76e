use Rattle.std.proofs.Common.{◌+◌, ◌∙◌, ap, length, subst, ◌/◌, ◌%◌, drop, ℕ, List, sym}
use Rattle.spec_model.specs.Universe.{sizes_of}
use Rattle.effect_model.specs.Tuples.{tuple_at}
use Rattle.std.proofs.lemmas.List.{length_push}
use Rattle.effect_model.proofs.Placing.{IsTaking, taking_more}
use Rattle.effect_model.proofs.layout.tuple_in.Goals as goal

pub loop-sort-preserved : goal.loop-sort-preserved
loop-sort-preserved c =
    let next = c.loop-sort.behind / c.size_of.result in
    let t = taking_more c.args.spec.now (tuple_at (sizes_of c.args.spec.now c.args.sorts.now) c.args.place) c.loop-sort.behind c.loop-sort.left c.loop-sort.sort-index 0 next c.loop-sort.args c.args.sorts.now c.requires.sizes c.requires.known c.loop-sort-test.true (ap (λ (n : ℕ). c.loop-sort.behind / n) c.size_of.ensures) c.loop-sort.invariant.0 in
    let P : List ℕ → Type 0 = λ xs. IsTaking c.args.spec.now (tuple_at (sizes_of c.args.spec.now c.args.sorts.now) c.args.place) next (c.loop-sort.left % next) xs (drop (c.loop-sort.sort-index + 1) c.args.sorts.now) in
    (subst P (sym c.push.ensures) t, ap length c.push.ensures ∙ length_push c.loop-sort.args _ ∙ ap (λ (n : ℕ). n + 1) c.loop-sort.invariant.1)
