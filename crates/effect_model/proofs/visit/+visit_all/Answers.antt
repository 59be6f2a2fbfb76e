use Rattle.std.proofs.Common.{◌≡◌, ◌≤◌, ◌+◌, ◌∙◌, ◌∷◌, ◌++◌, ap, sym, subst, List, ℕ, arith, rules, [], length, length-drop}
use Rattle.std.proofs.lemmas.Bool.{eqb-true, eqb-false}
use Rattle.std.proofs.lemmas.List.{append-nil, length_push, nil_from_length}
use Rattle.spec_model.specs.Truths.{Within}
use Rattle.effect_model.proofs.Searched.{behind_longer}
use Rattle.effect_model.proofs.Visited.{done_rest, done_turn}
use Rattle.effect_model.proofs.visit.+visit_all.Goals as goal

pub returns-then-next-size-clause-done : goal.returns-then-next-size-clause-done
returns-then-next-size-clause-done g t c =
    let f = g.V.Visiting.done c.args.visiting.now in
    done_rest f c.args.front c.args.sizes.now c.split_at.result.0.now c.split_at.result.1.now c.loop-turn.x c.next-next.result c.args.kept.now c.loop-turn.kept (eqb-false _ _ (sym c.is_empty.ensures ∙ c.if-is_empty.false)) c.split_at.ensures.front c.split_at.ensures.back c.loop-turn.invariant.done c.loop-turn.invariant.within c.if-next-size.true
    (λ y ge lt behind k. ap (λ (ls : List ℕ). f (ls ++ y ∷ behind) k) (sym c.as_slice.ensures.value) ∙ c.next-next.ensures.untouched y ge lt behind k)

pub loop-turn-preserved : goal.loop-turn-preserved
loop-turn-preserved g t c =
    let f = g.V.Visiting.done c.args.visiting.now in
    record {
      done = done_turn f c.args.front c.split_at.result.1.now c.push.new.self c.loop-turn.x c.next-next.result c.args.kept.now c.loop-turn.kept c.visit_all.new.kept c.loop-turn.invariant.done c.next-next.ensures.later (λ y ge lt behind k. ap (λ (ls : List ℕ). f (ls ++ y ∷ behind) k) (sym c.as_slice.ensures.value) ∙ c.next-next.ensures.untouched y ge lt behind k) c.push.ensures c.visit_all.ensures.done;
      fits = c.visit_all.ensures.fits;
      below = omega (arith, c.loop-turn.invariant.below, c.next-next.ensures.later);
      within = omega (arith, c.if-next-size.false);
    }

pub visit-requires-clause-known : goal.visit-requires-clause-known
visit-requires-clause-known g t c =
    let none : c.args.sizes.now ≡ [] = nil_from_length c.args.sizes.now (eqb-true _ _ (sym c.is_empty.ensures ∙ c.if-is_empty.true)) in
    let known = subst (λ (ss : List ℕ). Within (λ s. s) ss [] → g.V.Visiting.knows c.args.visiting.now (c.args.front ++ [])) none (c.requires.known []) in
    rw (append-nil c.args.front) at (known tt)

pub visit_all-requires : goal.visit_all-requires
visit_all-requires g t c =
    let some = eqb-false _ _ (sym c.is_empty.ensures ∙ c.if-is_empty.false) in
    let known : (xs : List ℕ) → Within (λ s. s) c.split_at.result.1.now xs → g.V.Visiting.knows c.args.visiting.now (c.push.new.self ++ xs) =
    behind_longer (g.V.Visiting.knows c.args.visiting.now) c.args.front c.args.sizes.now c.split_at.result.0.now c.split_at.result.1.now c.push.new.self c.next-next.result 0 some c.split_at.ensures.front c.split_at.ensures.back (omega (arith, c.if-next-size.false)) c.push.ensures c.requires.known in
    let few : length c.push.new.self + length c.split_at.result.1.now ≤ 4 = omega (arith, ap length c.push.ensures, length_push c.args.front c.next-next.result, ap length c.split_at.ensures.back, length-drop 1 c.args.sizes.now, some, c.requires.few) in
    λ κs lives. (search rules, (search rules, (search rules, (known, (c.loop-turn.invariant.fits, few)))))
